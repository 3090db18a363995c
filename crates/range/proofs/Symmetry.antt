-- The order of the operands does not matter: `symmetry`. Assumes nothing.
use mathlib.Core.Path.{◌≡◌, ap, ap₂}
use mathlib.Core.Bool.{and_comm, cond}
use mathlib.Core.List.{List}
use Prim.Native.Nat.{ℕ}
use native.Mathlib.Nat as N
use lib.IntN.{ℤ, pos, neg_ℤ, nat_abs, ◌*ℤ◌, +ℤ_comm, *ℤ_comm}
use lib.Signed.{◌≤ℤ◌}
use Rattle.algebra.proofs.Int.{ℤ-ring}
use Rattle.algebra.proofs.Int.{≤ℤ-antisym}
use Rattle.exact.proofs.Div.{floor_div, ceil_div}
use Rattle.exact.proofs.Sqrt.{ceil_sqrt}
use Rattle.range.specs.declared.Range.{Range}
use Rattle.range.specs.Limit.{from_to, over, is_valid, both_valid, kept, sticky₂}
use Rattle.range.specs.Arithmetic.{lesser_of, greater_of, least_product, greatest_product}
use Rattle.range.specs.Arithmetic.{ends_sum, ends_product, ends_hull, sum_of, product_of, hull_of}
use Rattle.range.specs.Sums.{at, valid_over, ends_products, products_of, square_sum, root_sum, root_of}
use Rattle.range.specs.Laws.{Symmetry}
use Rattle.range.proofs.Extremes.{lesser-any, greater-any, lesser-left, lesser-right, greater-left}
use Rattle.range.proofs.Extremes.{greater-right, end-products, least-product, greatest-product}
use Rattle.range.proofs.SumOver.{sum_over-ext}
use Rattle.range.proofs.StarLaws.{star-symmetric}

-- ---- the lesser and the greater, of two and of the four products
lesser-comm : (x y : ℤ) → lesser_of x y ≡ lesser_of y x
lesser-comm x y = ≤ℤ-antisym (one_way x y) (one_way y x)
  where
    one_way : (x y : ℤ) → lesser_of x y ≤ℤ lesser_of y x
    one_way x y = lesser-any y x (λ z. lesser_of x y ≤ℤ z) (lesser-right x y) (lesser-left x y)

greater-comm : (x y : ℤ) → greater_of x y ≡ greater_of y x
greater-comm x y = ≤ℤ-antisym (one_way x y) (one_way y x)
  where
    one_way : (x y : ℤ) → greater_of x y ≤ℤ greater_of y x
    one_way x y = greater-any x y (λ z. z ≤ℤ greater_of y x) (greater-right y x) (greater-left y x)

module _ (a b : Range) where
  swapped : (P : ℤ → Type 0) (x y : ℤ) → P (x *ℤ y) → P (y *ℤ x)
  swapped P x y p = rw (*ℤ_comm y x) p

  least-below : least_product a b ≤ℤ least_product b a
  least-below =
      let e = end-products a b in
      let P : ℤ → Type 0 = λ z. least_product a b ≤ℤ z in
      least-product b a P
      (swapped P a.low b.low e.low-1)
      (swapped P a.high b.low e.low-3)
      (swapped P a.low b.high e.low-2)
      (swapped P a.high b.high e.low-4)

  greatest-above : greatest_product b a ≤ℤ greatest_product a b
  greatest-above =
      let e = end-products a b in
      let P : ℤ → Type 0 = λ z. z ≤ℤ greatest_product a b in
      greatest-product b a P
      (swapped P a.low b.low e.high-1)
      (swapped P a.high b.low e.high-3)
      (swapped P a.low b.high e.high-2)
      (swapped P a.high b.high e.high-4)

-- ---- the ends
sum-ends : (a b : Range) → ends_sum a b ≡ ends_sum b a
sum-ends a b = ap₂ from_to (+ℤ_comm a.low b.low) (+ℤ_comm a.high b.high)

product-ends : (a b : Range) → ends_product a b ≡ ends_product b a
unfolding ends_product
product-ends a b =
    ap₂
    (λ l h. from_to (floor_div l 10000) (ceil_div h 10000))
    (≤ℤ-antisym (least-below a b) (least-below b a))
    (≤ℤ-antisym (greatest-above b a) (greatest-above a b))

hull-ends : (a b : Range) → ends_hull a b ≡ ends_hull b a
hull-ends a b = ap₂ from_to (lesser-comm a.low b.low) (greater-comm a.high b.high)

-- ---- the operations
sticky₂-comm : (f : Range → Range → Range) → ((a b : Range) → f a b ≡ f b a) → (a b : Range) → sticky₂ f a b ≡ sticky₂ f b a
unfolding both_valid
sticky₂-comm f e a b = ap₂ (λ c r. cond c (kept r) over) (and_comm (is_valid a) (is_valid b)) (e a b)

module _ (s : ℕ) (g h : List Range) where
  products-ends : ends_products s g h ≡ ends_products s h g
  unfolding ends_products
  products-ends =
      let e : (a : ℕ) → ends_product (at g a) (at h a) ≡ ends_product (at h a) (at g a) = λ a. product-ends (at g a) (at h a) in
      ap₂ from_to (sum_over-ext ℤ-ring s (λ a l t. ap (λ r. r.low) (e a))) (sum_over-ext ℤ-ring s (λ a l t. ap (λ r. r.high) (e a)))

  root-sum : root_sum s g h ≡ root_sum s h g
  unfolding root_sum
  root-sum = ap (λ n. pos (ceil_sqrt n)) (N.mul_comm (nat_abs (square_sum s g)) (nat_abs (square_sum s h)))

pub symmetry : Symmetry
unfolding sum_of product_of hull_of products_of root_of
symmetry = record {
  sum = sticky₂-comm ends_sum sum-ends;
  product = sticky₂-comm ends_product product-ends;
  hull = sticky₂-comm ends_hull hull-ends;
  products = λ s g h. ap₂ (λ c r. cond c (kept r) over) (and_comm (valid_over s g) (valid_over s h)) (products-ends s g h);
  root = λ s g h. ap₂ (λ c r. cond c (kept (from_to (neg_ℤ r) r)) over) (and_comm (valid_over s g) (valid_over s h)) (root-sum s g h);
  star = star-symmetric;
}
