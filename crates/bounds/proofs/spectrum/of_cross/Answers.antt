-- `bounds::spectrum::of_cross` meets its contract. Assumes nothing.
use mathlib.Core.Path.{ap, ap₂, ◌∙◌}
use Prim.Native.Nat.{ℕ}
use Rattle.range.specs.Arithmetic.{sum_of, times_of, product_of}
use Rattle.range.specs.Sums.{ranges_from, products_of, root_of}
use Rattle.range.proofs.Fitting.{passed, failed, pick_yes, pick_no}
use Rattle.bounds.proofs.spectrum.of_cross.Goals as goal

pub returns-then-is_single : goal.returns-then-is_single
returns-then-is_single c =
    pick_yes _ _ _ _ (passed _ _ c.is_single.ensures c.if-is_single.true)
    (c.times.ensures ∙ ap (times_of 2) (c.product.ensures ∙ ap₂ product_of c.only_of.ensures c.only_of-then-is_single.ensures))

pub returns-else-is_single : goal.returns-else-is_single
returns-else-is_single c =
    let s = c.args.set in
    let t = c.args.t.now.numbers in
    pick_no _ _ _ _ (failed _ _ c.is_single.ensures c.if-is_single.false)
    (c.cross.ensures
    ∙ ap₂ (λ (m n : ℕ). sum_of (products_of s (ranges_from t m) (ranges_from t n)) (root_of s (ranges_from t m) (ranges_from t n)))
    c.slopes_of.ensures c.slopes_of-else-is_single.ensures)
