-- Rounding once makes no range wider: `rounded-once`. Assumes nothing.
use mathlib.Core.Path.{◌≡◌, refl}
use mathlib.Core.Bool.{Bool, true, false, ◌&&◌, cond}
use mathlib.Core.List.{List}
use Prim.Native.Nat.{ℕ}
use lib.IntN.{ℤ, pos, ◌+ℤ◌}
use lib.Signed.{◌≤ℤ◌, ≤ℤ_refl}
use Rattle.algebra.proofs.Sum as Sum
use Rattle.algebra.proofs.Int.{ℤ-ring}
use Rattle.exact.proofs.Div.{floor_div, ceil_div}
use Rattle.exact.proofs.DivSum.{ceil-sum, sum_near}
use Rattle.range.specs.declared.Range.{Range}
use Rattle.range.specs.Sums.{has, sum_over, at, valid_over, largest_square, square_sum, squares_of, root_sum, root_of}
use Rattle.range.specs.Rounding.{square_sum_each, squares_each, root_each, RoundedOnce}
use Rattle.range.proofs.Powers.{ten-thousand}
use Rattle.range.proofs.SumOver.{square_sum-nonneg}
use Rattle.range.proofs.Scanning.{member_or}
use Rattle.range.proofs.Within.{if-isotone, kept-isotone}
use Rattle.range.proofs.Isotonicity.{around-within}

-- ---- the sum
module _ (s : ℕ) (g : List Range) where
  abbrev squares : ℕ → ℤ
  squares = member_or s (λ a. largest_square (at g a))

  -- a factor outside the set adds 0, rounded or not
  each-is : square_sum_each s g ≡ Sum.sum ℤ-ring 8 (λ a. ceil_div (squares a) 10000)
  unfolding square_sum_each sum_over ceil_div floor_div
  each-is = Sum.sum-ext ℤ-ring 8 (λ a l. part (has s a) (largest_square (at g a)))
    where
      part : (c : Bool) (z : ℤ) → cond c (ceil_div z 10000) (pos 0) ≡ ceil_div (cond c z (pos 0)) 10000
      part true z = refl
      part false z = refl

  below_each : square_sum s g ≤ℤ square_sum_each s g
  unfolding square_sum sum_over
  below_each = rw each-is (ceil-sum ten-thousand squares 8)

  near-each : square_sum_each s g ≤ℤ (square_sum s g +ℤ pos 7)
  unfolding square_sum sum_over
  near-each = rw each-is (sum_near ten-thousand squares 7)

-- ---- the ranges
pub rounded-once : RoundedOnce
unfolding squares_of squares_each root_of root_sum root_each
rounded-once = record {
  sum = below_each;
  near = near-each;
  squares = λ s g.
      if-isotone (valid_over s g) (valid_over s g) (λ t. t)
      (λ t. kept-isotone (record { low = ≤ℤ_refl (pos 0); order = square_sum-nonneg s g; high = below_each s g }));
  root = λ s g h.
      if-isotone (valid_over s g && valid_over s h) (valid_over s g && valid_over s h) (λ t. t)
      (λ t. kept-isotone (around-within (square_sum-nonneg s g) (below_each s g) (square_sum-nonneg s h) (below_each s h)));
}
