-- `bounds::run::rate` meets its contract: what is left to do and to test is what was to do and to test. Assumes nothing.
use borrow.Author.Rules.{rules}
use mathlib.Core.Path.{◌≡◌, refl, sym, ap, ap₂, ◌∙◌}
use Rattle.std.specs.Prelude.{Some, None, Err}
use Prim.Native.Nat.{ℕ, ◌+◌, ◌-◌}
use native.Mathlib.Omega.{arith}
use Rattle.codelist.specs.declared.Op.{Op}
use Rattle.codelist.specs.Codelist.{blank}
use Rattle.rules.specs.declared.Refusal.TheVariants.{NoCodelist, Overflow}
use Rattle.rules.specs.Run.{inverts_zero, bent_in}
use Rattle.rules.specs.Rate.{pairs, rated, limits_of}
use Rattle.bounds.specs.Table.{line_at, lines_up_to}
use Rattle.bounds.specs.Answer.{IsOf}
use Rattle.bounds.proofs.Ranges.{pairs-count, bad-few, none-bad}
use Rattle.bounds.proofs.Running as R
use Rattle.bounds.proofs.Lying as L
use Rattle.bounds.proofs.Answers.{or-no-codelist, bad-count, bad-range, all_lines}
use Rattle.bounds.proofs.run.rate.Goals as goal

pub returns-then-xs-n : goal.returns-then-xs-n
returns-then-xs-n g c = λ d q. or-no-codelist d _ _ (λ w. bad-count d _ w (λ e. c.if-xs-n.true (omega (arith, e, q.factors))))

-- the lowest bad range is that of one of the factors
pub overflow_cast-result : goal.overflow_cast-result
overflow_cast-result g c =
    let xs = c.args.xs.now in
    let bad = L.some-bad _ _ c.in-Some.ensures in
    omega (arith, bad.0, bad-few 0 (pairs xs), pairs-count xs _ c.if-xs-n.false, c.requires.counted.factors.1)

pub returns-in-Some : goal.returns-in-Some
returns-in-Some g c = λ d q.
    let bad = L.some-bad _ _ c.in-Some.ensures in
    or-no-codelist d _ _ (λ w. bad-range d _ w (omega (arith, c.if-xs-n.false, q.factors)) _ bad.0 bad.1)

pub start-last-requires-clause-xs_value : goal.start-last-requires-clause-xs_value
start-last-requires-clause-xs_value g c = none-bad (pairs c.args.xs.now) 0 (L.none-is-bad _ (search rules))

pub loop-k-init : goal.loop-k-init
loop-k-init g c =
    record {
      ready = c.start-last.ensures.started.ready;
      slopes = c.start-last.ensures.value;
      ran = λ d q.
          R.ran-start d _ _ _ (L.lies-fits q c.requires.counted) (sym q.factors)
          (c.bent_in.ensures ∙ sym (ap₂ bent_in q.year q.factors)) c.start-last.ensures.started;
    }

pub returns-in_err-op : goal.returns-in_err-op
returns-in_err-op g c = λ d q.
    let is : IsOf c.loop-k.k c.args.front = (omega arith, omega arith) in
    let none : c.op_at.result ≡ None = search rules in
    let refused : c.from_residual.result ≡ Err NoCodelist = search rules in
    rw refused
    (L.no-codelist-first d _
    (R.ran-no-codelist (L.lies-fits q c.requires.counted) (c.loop-k.invariant.ran d q) (L.lies-from q _ is) (L.lies-left q _ is) blank
    (L.lies-none q _ is none c.op_at.ensures)))

pub returns-then-inverts_zero : goal.returns-then-inverts_zero
returns-then-inverts_zero g c = λ d q.
    let xs = c.args.xs.now in
    let is : IsOf c.loop-k.k c.args.front = (omega arith, omega arith) in
    let some : c.op_at.result ≡ Some c.in_ok-op.op = search rules in
    let op = L.lies-some q _ is some c.op_at.ensures in
    let zero = ap (λ (o : Op). inverts_zero o (lines_up_to c.loop-k.t c.loop-k.k)) (sym op.1) ∙ sym c.inverts_zero.ensures ∙ c.if-inverts_zero.true in
    or-no-codelist d xs _
    (λ w.
    R.ran-divisor (L.lies-fits q c.requires.counted) (c.loop-k.invariant.ran d q) (L.lies-from q _ is) (L.lies-left q _ is) blank zero
    ∙ all_lines d xs w (omega (arith, c.if-xs-n.false, q.factors)) _ refl (L.none-is-bad _ (search rules)))

pub returns-in_err-last : goal.returns-in_err-last
returns-in_err-last g c = λ d q.
    let xs = c.args.xs.now in
    let is : IsOf c.loop-k.k c.args.front = (omega arith, omega arith) in
    let some : c.op_at.result ≡ Some c.in_ok-op.op = search rules in
    let none : c.work.result ≡ None = search rules in
    let refused : c.from_residual-in_err-last.result ≡ Err (Overflow (c.loop-k.k + 1)) = search rules in
    let op = L.lies-some q _ is some c.op_at.ensures in
    let apart = ap (λ (o : Op). inverts_zero o (lines_up_to c.loop-k.t c.loop-k.k)) (sym op.1) ∙ sym c.inverts_zero.ensures ∙ c.if-inverts_zero.false in
    rw refused
    (or-no-codelist d xs _
    (λ w.
    R.ran-overflow (L.lies-fits q c.requires.counted) (c.loop-k.invariant.ran d q) (L.lies-from q _ is) (L.lies-left q _ is) blank apart _
    (L.worked-as _ op.1 none c.work.ensures)
    ∙ all_lines d xs w (omega (arith, c.if-xs-n.false, q.factors)) _ refl (L.none-is-bad _ (search rules))))

pub loop-k-preserved : goal.loop-k-preserved
loop-k-preserved g c =
    let is : IsOf c.loop-k.k c.args.front = (omega arith, omega arith) in
    let some : c.op_at.result ≡ Some c.in_ok-op.op = search rules in
    let slopes : c.work.result ≡ Some c.in_ok-last.last = search rules in
    let i = c.loop-k.invariant in
    let here = L.worked-as _ refl slopes c.work.ensures in
    record {
      ready = R.ready-more _ _ i.ready (R.row-placed here) (R.row-fine here);
      slopes = R.row-slopes here;
      ran = λ d q.
          let op = L.lies-some q _ is some c.op_at.ensures in
          let apart = ap (λ (o : Op). inverts_zero o (lines_up_to c.loop-k.t c.loop-k.k)) (sym op.1) ∙ sym c.inverts_zero.ensures ∙ c.if-inverts_zero.false in
          R.ran-more (L.lies-fits q c.requires.counted) (i.ran d q) (L.lies-from q _ is) (L.lies-left q _ is) blank apart _ _ i.ready op.0
          (L.worked-as _ op.1 slopes c.work.ensures);
    }

pub returns : goal.returns
returns g c = λ d q.
    let xs = c.args.xs.now in
    let fits = L.lies-fits q c.requires.counted in
    let ran = c.loop-k.invariant.ran d q in
    let end : c.loop-k.k ≡ d.factors + d.count = omega (arith, q.factors, q.count, c.requires.counted.some) in
    let last : c.args.front.factors + c.args.front.count - 1 ≡ c.loop-k.k - 1 = omega (arith, q.factors, q.count, c.requires.counted.some) in
    ap rated c.result.ensures
    ∙ ap₂ (λ (n k : ℕ). rated (limits_of n (line_at c.loop-k.t k))) (sym q.factors) last
    ∙ R.ran-end fits ran end
    ∙ all_lines d xs (R.ran-ratable fits ran end) (omega (arith, c.if-xs-n.false, q.factors)) _ refl (L.none-is-bad _ (search rules))
