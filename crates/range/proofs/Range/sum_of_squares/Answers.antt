-- `range::Range::sum_of_squares` meets its contract. Assumes nothing.
use borrow.Author.Rules.{rules}
use mathlib.Core.Path.{◌∙◌, ap}
use lib.IntN.{ℤ}
use Rattle.range.specs.Limit.{kept}
use Rattle.range.specs.Steps.{up_to}
use Rattle.range.proofs.Scanning.{scan-ended}
use Rattle.range.proofs.Squaring.{rounded-fits, rounded-read}
use Rattle.range.proofs.Squaring.{squared-start, squared-eight, squared-member, squared-skip, squared-over, squared-end}
use Rattle.range.proofs.Range.sum_of_squares.Goals as goal
use Rattle.range.proofs.Range.sum_of_squares.Goals.{then-rest-eq1+in-Some, else-rest-eq1}

pub loop-a-init : goal.loop-a-init
loop-a-init c = squared-start _ _ (search rules)

pub returns-in_default : goal.returns-in_default
returns-in_default c =
    squared-over _ _ _ _ _ c.loop-a.invariant _ c.loop-a-test.true c.if-rest-eq1.true c.range_at.ensures
    (rw c.in_default.is at c.checked.ensures.none)

pub with-total-requires : goal.with-total-requires
with-total-requires c = squared-eight _ _ _ _ _ c.loop-a.invariant

pub loop-a-preserved : goal.loop-a-preserved
loop-a-preserved c =
    let i = c.loop-a.invariant in
    let f = c.loop-a-test.true in
    elim c.if-rest-eq1.branch [
      | then-rest-eq1+in-Some w ↦
          let g = w.in-Some.g in
          squared-member _ _ _ _ _ i _ g.range f w.if-rest-eq1.true ((rw w.in-Some.is at w.checked.ensures.some) ∙ w.range_at.ensures) g.valid
          (w.total-is ∙ w.with-total.ensures)
      | else-rest-eq1 w ↦ rw w.total-is (squared-skip _ _ _ _ _ i f w.if-rest-eq1.false)
    ]

pub rounded_up-requires : goal.rounded_up-requires
rounded_up-requires c = squared-eight _ _ _ _ _ c.loop-a.invariant

pub overflow_cast-rounded_up : goal.overflow_cast-rounded_up
overflow_cast-rounded_up c = rounded-fits _ _ (squared-eight _ _ _ _ _ c.loop-a.invariant) c.rounded_up.ensures

pub returns : goal.returns
returns c =
    let i = c.loop-a.invariant in
    c.kept.ensures
    ∙ ap (λ (n : ℤ). kept (up_to n)) (rounded-read _ _ (squared-eight _ _ _ _ _ i) c.rounded_up.ensures)
    ∙ squared-end _ _ _ _ _ i (scan-ended _ _ _ i.scan c.loop-a-test.false)
