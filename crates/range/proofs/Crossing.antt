-- The loop that sums the products of two lists of ranges, and adds up the largest squares of each: `Crossed`. A member that is not valid
-- ends it. Assumes nothing.
use mathlib.Core.Path.{◌≡◌, refl, sym, ap, ap₂}
use mathlib.Core.Bool.{true, false, ◌&&◌}
use mathlib.Core.List.{List}
use Prim.Native.Nat.{ℕ, ◌+◌, ◌/◌, ◌%◌, ◌≤◌, ◌<◌}
use native.Mathlib.Omega.{arith}
use lib.IntN.{ℤ, pos, negsuc, neg_ℤ, nat_abs}
use Rattle.algebra.proofs.Int.{neg-abs}
use Rattle.exact.proofs.Div.{floor_div, ceil_div}
use Rattle.range.specs.declared.Range.{Range}
use Rattle.range.specs.declared.sums.Squares.{Squares}
use Rattle.range.specs.Limit.{zero_range, over, is_valid, both_valid, kept}
use Rattle.range.specs.Arithmetic.{least_product, greatest_product, ends_sum, sum_of, ends_product}
use Rattle.range.specs.Sums.{at, valid_over, ends_products, products_of, largest_square, root_sum, root_of}
use Rattle.range.specs.Steps.{around_root, with_square, rounded_up}
use Rattle.range.proofs.Valid.{not-true, and_left, and_right, both-valid}
use Rattle.range.proofs.Extremes.{least-product, greatest-product}
use Rattle.range.proofs.Fitting.{low-within, high-within, first-valid, second-valid, pick_yes, over-sum_of}
use Rattle.range.proofs.Scanning.{scan-member, scan-outside}
use Rattle.range.proofs.Scanning.{few, Few, Summed, summed-start, summed-member, summed-skip, summed-end}
use Rattle.range.proofs.Squaring.{mul-few, no_squares, Squared, squared-start, squared-member, squared-skip}
use Rattle.range.proofs.Squaring.{read-valid, squared-valid, squared-is}

-- ---- products are few
floor-few : (z : ℤ) → nat_abs z ≤ 4000000000000000000 → nat_abs (floor_div z 10000) ≤ few
unfolding floor_div
floor-few (pos n) h = omega arith
floor-few (negsuc n) h = omega arith

ceil-few : (z : ℤ) → nat_abs z ≤ 4000000000000000000 → nat_abs (ceil_div z 10000) ≤ few
unfolding ceil_div
ceil-few z h = omega (arith, neg-abs (floor_div (neg_ℤ z) 10000), floor-few (neg_ℤ z) (omega (arith, neg-abs z)))

pub product-few : (a b : Range) → is_valid a ≡ true → is_valid b ≡ true → Few (ends_product a b)
unfolding ends_product
product-few a b p q =
    let small : ℤ → Type 0 = λ (z : ℤ). nat_abs z ≤ 4000000000000000000 in
    let ll = mul-few a.low b.low (low-within a p) (low-within b q) in
    let lh = mul-few a.low b.high (low-within a p) (high-within b q) in
    let hl = mul-few a.high b.low (high-within a p) (low-within b q) in
    let hh = mul-few a.high b.high (high-within a p) (high-within b q) in
    record {
      low = floor-few (least_product a b) (least-product a b small ll lh hl hh);
      high = ceil-few (greatest_product a b) (greatest-product a b small ll lh hl hh);
    }

-- ---- the products of two lists, and the squares of each
module _ (s : ℕ) (g h : List Range) where
  pub record Crossed (products : Range) (left right : Squares) (rest a : ℕ) : Type 0 where
    pub summed : Summed s (λ k. ends_product (at g k) (at h k)) products rest a
    pub first : Squared s g left rest a
    pub second : Squared s h right rest a

  pub crossed-start : s < 256 → Crossed zero_range no_squares no_squares s 0
  crossed-start l = record { summed = summed-start s _ l; first = squared-start s g l; second = squared-start s h l }

  module _ (products : Range) (left right : Squares) (rest a : ℕ) (i : Crossed products left right rest a) where
    -- a turn: x and y are what was read of the factor a
    module _ (x y : Range) (f : a < 8) (m : rest % 2 ≡ 1) (e : x ≡ at g a) (d : y ≡ at h a) where
      pub crossed-member : (p : Range) (l r : Squares) → both_valid x y ≡ true → p ≡ ends_sum products (ends_product x y)
          → l ≡ with_square left (nat_abs (largest_square x)) → r ≡ with_square right (nat_abs (largest_square y)) → Crossed p l r (rest / 2) (a + 1)
      crossed-member p l r v pe le re =
          let scan = i.summed.scan in
          let vx = first-valid true x y (sym v) refl in
          let vy = second-valid true x y (sym v) refl in
          record {
            summed =
                summed-member s _ products rest a i.summed p f (scan-member s rest a scan m)
                (rw (e, d) at (product-few x y vx vy)) (rw (e, d) at pe);
            first = squared-member s g left rest a i.first l x f m e vx le;
            second = squared-member s h right rest a i.second r y f m d vy re;
          }

      crossed-invalid : both_valid x y ≡ false → (valid_over s g && valid_over s h) ≡ false
      crossed-invalid v =
          not-true (λ t.
          rw v at (both-valid x y
          (read-valid s g left rest a i.first x f m e (and_left (valid_over s g) (valid_over s h) t))
          (read-valid s h right rest a i.second y f m d (and_right (valid_over s g) (valid_over s h) t))))

      pub crossed_over : both_valid x y ≡ false → over ≡ sum_of (products_of s g h) (root_of s g h)
      unfolding products_of
      crossed_over v = rw (crossed-invalid v) (sym (over-sum_of (root_of s g h)))

    pub crossed-skip : a < 8 → ¬ (rest % 2 ≡ 1) → Crossed products left right (rest / 2) (a + 1)
    crossed-skip f m =
        let scan = i.summed.scan in
        record {
          summed = summed-skip s _ products rest a i.summed f (scan-outside s rest a scan m);
          first = squared-skip s g left rest a i.first f m;
          second = squared-skip s h right rest a i.second f m;
        }

    -- the end
    module _ (z : rest ≡ 0) where
      crossed-valid : (valid_over s g && valid_over s h) ≡ true
      crossed-valid = rw (squared-valid s g left rest a i.first z, squared-valid s h right rest a i.second z)

      products-end : kept products ≡ products_of s g h
      unfolding products_of ends_products
      products-end = pick_yes _ _ _ _ crossed-valid (ap kept (summed-end s _ products rest a i.summed z))

      root-end : around_root (rounded_up left) (rounded_up right) ≡ root_of s g h
      unfolding root_of root_sum
      root-end =
          pick_yes _ _ _ _ crossed-valid
          (ap₂ around_root
          (ap nat_abs (squared-is s g left rest a i.first z))
          (ap nat_abs (squared-is s h right rest a i.second z)))

      pub crossed-end : sum_of (kept products) (around_root (rounded_up left) (rounded_up right)) ≡ sum_of (products_of s g h) (root_of s g h)
      crossed-end = ap₂ sum_of products-end root-end
