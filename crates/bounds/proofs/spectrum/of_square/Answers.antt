-- `bounds::spectrum::of_square` meets its contract. Assumes nothing.
use mathlib.Core.Path.{ap, ◌∙◌}
use Prim.Native.Nat.{ℕ}
use Rattle.range.specs.declared.Range.{Range}
use Rattle.range.specs.Power.{pow_of}
use Rattle.range.specs.Sums.{ranges_from, squares_of}
use Rattle.range.proofs.Fitting.{passed, failed, pick_yes, pick_no}
use Rattle.bounds.proofs.spectrum.of_square.Goals as goal

pub returns-then-is_single : goal.returns-then-is_single
returns-then-is_single c =
    pick_yes _ _ _ _ (passed _ _ c.is_single.ensures c.if-is_single.true)
    (c.power.ensures ∙ ap (λ (r : Range). pow_of r 2) c.only_of.ensures)

pub returns-else-is_single : goal.returns-else-is_single
returns-else-is_single c =
    pick_no _ _ _ _ (failed _ _ c.is_single.ensures c.if-is_single.false)
    (c.sum_of_squares.ensures ∙ ap (λ (n : ℕ). squares_of c.args.set (ranges_from c.args.t.now.numbers n)) c.slopes_of.ensures)
