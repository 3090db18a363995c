-- `range::Range::cross` meets its contract. Assumes nothing.
use borrow.Author.Rules.{rules}
use mathlib.Core.Path.{◌≡◌, ◌∙◌, ap, ap₂}
use mathlib.Core.Bool.{true}
use mathlib.Core.Logic.{inl, inr}
use Rattle.range.specs.declared.Checked.{Checked}
use Rattle.range.specs.Limit.{is_valid, both_valid}
use Rattle.range.specs.Arithmetic.{ends_sum, sum_of}
use Rattle.range.specs.Steps.{around_root}
use Rattle.range.proofs.Valid.{T_true, true-T, and-false, both-valid}
use Rattle.range.proofs.Scanning.{scan-ended, few-small, summed-small}
use Rattle.range.proofs.Squaring.{squared-eight}
use Rattle.range.proofs.Crossing.{product-few, crossed-start, crossed-member, crossed-skip, crossed_over, crossed-end}
use Rattle.range.proofs.Range.cross.Goals as goal
use Rattle.range.proofs.Range.cross.Goals.{then-rest-eq1+in-Some-Some, else-rest-eq1}

both : (g h : Checked) → both_valid g.range h.range ≡ true
both g h = T_true (both-valid g.range h.range (true-T g.valid) (true-T h.valid))

pub loop-a-init : goal.loop-a-init
loop-a-init c = crossed-start _ _ _ (search rules)

pub returns-in_default : goal.returns-in_default
unfolding both_valid
returns-in_default c =
    crossed_over _ _ _ _ _ _ _ _ c.loop-a.invariant _ _ c.loop-a-test.true c.if-rest-eq1.true
    c.range_at-g.ensures c.range_at-h.ensures
    (and-false (is_valid c.range_at-g.result) _ (inr (rw c.in_default.is-1 at c.checked-then-rest-eq1.ensures.none)))

pub returns-in_default-2 : goal.returns-in_default-2
unfolding both_valid
returns-in_default-2 c =
    crossed_over _ _ _ _ _ _ _ _ c.loop-a.invariant _ _ c.loop-a-test.true c.if-rest-eq1.true
    c.range_at-g.ensures c.range_at-h.ensures
    (and-false (is_valid c.range_at-g.result) _ (inl (rw c.in_default.is-0 at c.checked.ensures.none)))

pub ends_sum-products-requires : goal.ends_sum-products-requires
ends_sum-products-requires c =
    let w = c.in-Some-Some in
    record {
      small = summed-small _ _ _ _ _ c.loop-a.invariant.summed;
      small_2 = rw c.slopes_product.ensures (few-small (product-few w.g.range w.h.range w.g.valid w.h.valid));
    }

pub with-left-requires : goal.with-left-requires
with-left-requires c = squared-eight _ _ _ _ _ c.loop-a.invariant.first

pub with-right-requires : goal.with-right-requires
with-right-requires c = squared-eight _ _ _ _ _ c.loop-a.invariant.second

pub loop-a-preserved : goal.loop-a-preserved
loop-a-preserved c =
    let at = c.loop-a in
    let f = c.loop-a-test.true in
    elim c.if-rest-eq1.branch [
      | then-rest-eq1+in-Some-Some w ↦
          let p = w.in-Some-Some in
          crossed-member _ _ _ _ _ _ _ _ at.invariant p.g.range p.h.range f w.if-rest-eq1.true
          ((rw p.is-0 at w.checked.ensures.some) ∙ w.range_at-g.ensures)
          ((rw p.is-1 at w.checked-then-rest-eq1.ensures.some) ∙ w.range_at-h.ensures)
          _ _ _ (both p.g p.h)
          (w.products-is ∙ w.ends_sum-products.ensures ∙ ap (ends_sum at.products) w.slopes_product.ensures)
          (w.left-is ∙ w.with-left.ensures)
          (w.right-is ∙ w.with-right.ensures)
      | else-rest-eq1 w ↦ rw (w.products-is, w.left-is, w.right-is) (crossed-skip _ _ _ _ _ _ _ _ at.invariant f w.if-rest-eq1.false)
    ]

pub rounded_up-requires : goal.rounded_up-requires
rounded_up-requires c = squared-eight _ _ _ _ _ c.loop-a.invariant.first

pub rounded_up-requires-2 : goal.rounded_up-requires-2
rounded_up-requires-2 c = squared-eight _ _ _ _ _ c.loop-a.invariant.second

pub returns : goal.returns
returns c =
    c.sum.ensures
    ∙ ap₂ sum_of c.kept.ensures (c.around_root.ensures ∙ ap₂ around_root c.rounded_up.ensures c.rounded_up-2.ensures)
    ∙ crossed-end _ _ _ _ _ _ _ _ c.loop-a.invariant (scan-ended _ _ _ c.loop-a.invariant.summed.scan c.loop-a-test.false)
