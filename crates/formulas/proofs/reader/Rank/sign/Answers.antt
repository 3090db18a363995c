-- `Rank::sign` meets its contract: the rank's two signs, and any other byte or none.
use Rattle.std.proofs.Common.{refl, sym}
use Rattle.formulas.specs.Read.{product_sign, sum_sign}
use Rattle.formulas.proofs.Laws.{front, no-front, no-product, no-sum, sign-first, sign-none}
use Rattle.formulas.proofs.reader.Rank.sign.Goals as goal
use Rattle.formulas.proofs.reader.Rank.sign.Goals.{in_default-via-in-Product+in_default, in_default-via-in-Sum+in_default}

pub returns-in_err-byte : goal.returns-in_err-byte
returns-in_err-byte c = rw (c.from_residual.ensures, no-front c.args.s.now c.in_err-byte.ensures.cases) (sign-none c.args.self)

pub returns-in-Product-eq42 : goal.returns-in-Product-eq42
unfolding product_sign
returns-in-Product-eq42 c = sign-first c.args.self c.in_ok-byte.ensures.cases.0 (rw (c.in-Product-eq42.is-0, c.in-Product-eq42.is-1) refl)

pub returns-in-Product-eq47 : goal.returns-in-Product-eq47
unfolding product_sign
returns-in-Product-eq47 c = sign-first c.args.self c.in_ok-byte.ensures.cases.0 (rw (c.in-Product-eq47.is-0, c.in-Product-eq47.is-1) refl)

pub returns-in-Sum-eq43 : goal.returns-in-Sum-eq43
unfolding sum_sign
returns-in-Sum-eq43 c = sign-first c.args.self c.in_ok-byte.ensures.cases.0 (rw (c.in-Sum-eq43.is-0, c.in-Sum-eq43.is-1) refl)

pub returns-in-Sum-eq45 : goal.returns-in-Sum-eq45
unfolding sum_sign
returns-in-Sum-eq45 c = sign-first c.args.self c.in_ok-byte.ensures.cases.0 (rw (c.in-Sum-eq45.is-0, c.in-Sum-eq45.is-1) refl)

pub returns-in_default : goal.returns-in_default
returns-in_default c =
    rw (front c.args.s.now c.in_ok-byte.byte.now c.in_ok-byte.rest.now c.in_ok-byte.ensures.cases.0).0 (elim c.in_default.branch [
      | in_default-via-in-Product+in_default w ↦
          rw w.in_default.is-0 (sym (no-product c.in_ok-byte.byte.now w.in_default.is-1.0.1 w.in_default.is-1.1))
      | in_default-via-in-Sum+in_default w ↦
          rw w.in_default.is-0 (sym (no-sum c.in_ok-byte.byte.now w.in_default.is-1.0.1 w.in_default.is-1.1))
    ])
