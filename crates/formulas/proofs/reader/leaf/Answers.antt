-- `reader::leaf` meets its contract: what a factor and a constant give is a lemma of Digits.
use Rattle.std.proofs.Common.{arith}
use Rattle.std.proofs.lemmas.Result.{err_from_is_err_and}
use Rattle.formulas.proofs.Digits.{factor-read, factor-other, factor-none, constant-read, no-constant}
use Rattle.formulas.proofs.Laws.{strip-some, strip-none}
use Rattle.formulas.proofs.reader.leaf.Goals as goal
use Rattle.formulas.proofs.reader.leaf.Goals.{then-i-eq0-via-then-i-eq0, then-i-eq0-via-else-i-eq0+then-i-eq9}

pub returns-in_err-units : goal.returns-in_err-units
returns-in_err-units c =
    let p = err_from_is_err_and c.from_residual.result c.from_residual.ensures.1 in
    rw (p.1, p.2) (no-constant c.args.s.now c.args.n (strip-none c.args.s.now 102 (omega arith) c.in_default.ensures.cases) c.in_err-units.field-0.0 c.in_err-units.ensures)

pub returns-in_default : goal.returns-in_default
returns-in_default c = constant-read c.args.s.now c.args.n (strip-none c.args.s.now 102 (omega arith) c.in_default.ensures.cases) c.in_ok-units.rest c.in_ok-units.ensures

pub returns-in_default-digit : goal.returns-in_default-digit
returns-in_default-digit c = factor-none c.args.s.now c.args.n c.in-Some.number (strip-some c.args.s.now 102 c.in-Some.ensures.cases) c.in_default-digit.ensures

pub returns-then-i-eq0 : goal.returns-then-i-eq0
returns-then-i-eq0 c =
    factor-other c.args.s.now c.args.n c.in-Some.number (strip-some c.args.s.now 102 c.in-Some.ensures.cases) c.in-Some-digit.rest c.in-Some-digit.ensures (λ l h. elim c.then-i-eq0.branch [
      | then-i-eq0-via-then-i-eq0 w ↦ omega arith
      | then-i-eq0-via-else-i-eq0+then-i-eq9 w ↦ omega arith
    ])

pub returns : goal.returns
returns c =
    factor-read c.args.s.now c.args.n c.in-Some.number (strip-some c.args.s.now 102 c.in-Some.ensures.cases) c.in-Some-digit.rest c.in-Some-digit.ensures
    (omega (arith, c.if-i-eq0.false)) (omega (arith, c.if-i-eq9.false, c.in-Some-digit.ensures.1)) c.reference.ensures
