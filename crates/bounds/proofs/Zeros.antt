-- The slopes of a row: of zeros they are zero, so that outside the support there is nothing to work out. Assumes nothing.
use mathlib.Core.Path.{◌≡◌, refl, ap, ap₂, ◌∙◌}
use mathlib.Core.Bool.{true, false}
use Prim.Native.Nat.{ℕ, ◌≤◌}
use lib.IntN.{ℤ, pos, negsuc, nat_abs, *ℤ-zero}
use lib.Signed.{◌≤ℤ◌, ≤ℤ_refl}
use Rattle.algebra.proofs.Int.{ints}
use Rattle.range.specs.declared.Range.{Range}
use Rattle.range.specs.Limit.{least, most, from_to, zero_range, over, is_valid, both_valid, kept}
use Rattle.range.specs.Arithmetic.{sum_of, neg_of, ends_times, times_of, ends_product, product_of}
use Rattle.range.proofs.Valid.{T_true, true-T, valid-of, sticky₁-is, sticky₂-is}
use Rattle.exact.specs.Div.{floor_div, ceil_div}
use Rattle.bounds.proofs.Validity.{zero-valid}

-- ---- of zeros
pub zero-sum : sum_of zero_range zero_range ≡ zero_range
unfolding sum_of both_valid kept is_valid
zero-sum = refl

zero-neg : neg_of zero_range ≡ zero_range
unfolding neg_of kept is_valid
zero-neg = refl

zero-times : (m : ℕ) → times_of m zero_range ≡ zero_range
unfolding times_of
zero-times m =
    let ends : ends_times m zero_range ≡ zero_range = ap₂ from_to (*ℤ-zero (pos m)) (*ℤ-zero (pos m)) in
    sticky₁-is (ends_times m) zero_range (true-T zero-valid) (true-T (ap is_valid ends ∙ zero-valid)) ∙ ends

zero-ends : (v : Range) → ends_product v zero_range ≡ zero_range
unfolding ends_product floor_div ceil_div
zero-ends v = rw (*ℤ-zero v.low, *ℤ-zero v.high)

pub zero-product : (v : Range) → is_valid v ≡ true → product_of v zero_range ≡ zero_range
unfolding product_of
zero-product v e =
    sticky₂-is ends_product v zero_range (true-T e) (true-T zero-valid) (true-T (ap is_valid (zero-ends v) ∙ zero-valid)) ∙ zero-ends v

-- a slope of the row `pow`
pub zero-power : (v g : Range) (m : ℕ) → is_valid v ≡ true → g ≡ zero_range → times_of m (product_of v g) ≡ zero_range
zero-power v g m e z = ap (times_of m) (ap (product_of v) z ∙ zero-product v e) ∙ zero-times m

-- and of `inv`
pub zero-inverse : (v g : Range) → is_valid v ≡ true → g ≡ zero_range → neg_of (product_of v g) ≡ zero_range
zero-inverse v g e z = ap neg_of (ap (product_of v) z ∙ zero-product v e) ∙ zero-neg

-- a constant, as a range
pub point-valid : (z : ℤ) → nat_abs z ≤ 2000000000 → is_valid (from_to z z) ≡ true
point-valid z h = T_true (valid-of (from_to z z) (record { above = above z h; order = ≤ℤ_refl z; below = below z h }))
  where
    above : (z : ℤ) → nat_abs z ≤ 2000000000 → least ≤ℤ z
    above (pos n) h = omega ints
    above (negsuc n) h = omega ints

    below : (z : ℤ) → nat_abs z ≤ 2000000000 → z ≤ℤ most
    below (pos n) h = omega ints
    below (negsuc n) h = omega ints

-- ---- of an `over` every slope is one, that of a factor outside the support too
module _ (p : Range) (e : is_valid p ≡ false) (g : Range) where
  over-product : product_of p g ≡ over
  unfolding product_of both_valid
  over-product = rw e

  pub power-over : (m : ℕ) → is_valid (times_of m (product_of p g)) ≡ false
  unfolding times_of is_valid
  power-over m = ap (λ (r : Range). is_valid (times_of m r)) over-product

  pub inverse-over : is_valid (neg_of (product_of p g)) ≡ false
  unfolding neg_of is_valid
  inverse-over = ap (λ (r : Range). is_valid (neg_of r)) over-product
