-- Sums over the factors of a set: what the sums of products and of squares hold, and what the root bounds. Assumes nothing.
use mathlib.Core.Path.{◌≡◌, refl, sym, ◌∙◌, ap}
use mathlib.Core.List.{List}
use mathlib.Core.Bool.{Bool, true, false, cond, ◌&&◌}
use Prim.Native.Nat.{ℕ, suc, ◌*◌, ◌<◌}
use lib.Dec.{T}
use lib.IntN.{ℤ, pos, negsuc, neg_ℤ, ◌*ℤ◌, nat_abs}
use lib.Signed.{◌≤ℤ◌, ≤ℤ_refl}
use Rattle.algebra.proofs.Ring as Ring
use Rattle.algebra.proofs.Ordered as Ord
use Rattle.algebra.proofs.Sum as Sum
use Rattle.algebra.proofs.Int.{ints, ℤ-ring, neg-dif, pos-≤, ≤ℤ-trans}
use Rattle.exact.proofs.Sqrt.{ceil-root}
use Rattle.exact.proofs.Rat as Q
use Rattle.exact.proofs.Rat.{ℚ, ◌*ℚ◌, ◌≤ℚ◌, 0ℚ}
use Rattle.exact.proofs.Units.{units}
use Rattle.exact.proofs.Rat.{ℚ-ring, ℚ-ordered}
use Rattle.range.specs.declared.Range.{Range}
use Rattle.range.specs.Limit.{from_to, over, is_valid, kept}
use Rattle.range.specs.Arithmetic.{ends_product}
use Rattle.range.specs.Sums.{has, sum_over, sum_over_ℤ, at, valid_over, ends_products, products_of}
use Rattle.range.specs.Sums.{largest_square, square_sum, squares_of, root_sum, root_of}
use Rattle.range.specs.Inclusion.{◌∈◌, Members, sum_over_ℚ}
use Rattle.range.proofs.Valid.{and_left, and_right, if-valid, if-passed, kept-valid, kept-is}
use Rattle.range.proofs.Extremes.{greater-left, greater-right}
use Rattle.range.proofs.SumOver.{sum_over-scale, sum_over-mono, sum_over-nonneg, members-valid}
use Rattle.exact.proofs.Units.{units-0, units-nonneg, ceil-above, products-≤, sum-units}
use Rattle.range.proofs.Holds.{InRange, if-∈, kept-∈}
use Rattle.range.proofs.Bounded.{between-of, one-nonneg, product-scaled}
use Rattle.range.proofs.Scaled as S

-- ---- a sum in units
pub sum_over-units : (s : ℕ) (f : ℕ → ℤ) → units (sum_over_ℤ s f) ≡ sum_over_ℚ s (λ a. units (f a))
unfolding sum_over
sum_over-units s f = sum-units 8 (λ a. cond (has s a) (f a) (pos 0)) ∙ Sum.sum-ext ℚ-ring 8 (λ a l. part (has s a) (f a))
  where
    part : (c : Bool) (z : ℤ) → units (cond c z (pos 0)) ≡ cond c (units z) 0ℚ
    part true z = refl
    part false z = units-0

-- bounds of the summands bound the sum
module _ (s : ℕ) (f : ℕ → ℤ) {v : ℕ → ℚ} where
  sum-lower : ((a : ℕ) → a < 8 → T (has s a) → units (f a) ≤ℚ v a) → units (sum_over_ℤ s f) ≤ℚ sum_over_ℚ s v
  sum-lower h = Ord.eq-le ℚ-ordered (sum_over-units s f) (sum_over-mono ℚ-ordered s h)

  sum-upper : ((a : ℕ) → a < 8 → T (has s a) → v a ≤ℚ units (f a)) → sum_over_ℚ s v ≤ℚ units (sum_over_ℤ s f)
  sum-upper h = Ord.le-eq ℚ-ordered (sum_over-mono ℚ-ordered s h) (sym (sum_over-units s f))

pub each-between : {s : ℕ} {g : List Range} {x : ℕ → ℚ} → Members s x g → T (valid_over s g)
    → (a : ℕ) → a < 8 → T (has s a) → InRange (x a) (at g a)
each-between {s} {g} m v a l t = (m.each a l t).between (members-valid s g v a l t)

-- ---- products
product-between : (a b : Range) {x y : ℚ} → InRange x a → InRange y b → InRange (x *ℚ y) (ends_product a b)
product-between a b i j = between-of (product-scaled a b one-nonneg i (S.at_one ℚ-ordered j.low j.high))

pub products-∈ : {s : ℕ} {g h : List Range} {x y : ℕ → ℚ} → Members s x g → Members s y h → sum_over_ℚ s (λ a. x a *ℚ y a) ∈ products_of s g h
unfolding products_of ends_products
products-∈ {s} {g} {h} {x} {y} m n =
    if-∈ (valid_over s g && valid_over s h) (λ v.
    kept-∈ (ends_products s g h)
    (record {
      low = sum-lower s (λ a. (ends_product (at g a) (at h a)).low) (λ a l t. (each v a l t).low);
      high = sum-upper s (λ a. (ends_product (at g a) (at h a)).high) (λ a l t. (each v a l t).high);
    }))
  where
    each : T (valid_over s g && valid_over s h) → (a : ℕ) → a < 8 → T (has s a) → InRange (x a *ℚ y a) (ends_product (at g a) (at h a))
    each v a l t =
        product-between (at g a) (at h a)
        (each-between m (and_left (valid_over s g) (valid_over s h) v) a l t)
        (each-between n (and_right (valid_over s g) (valid_over s h) v) a l t)

-- ---- squares: before it is divided, a square is so many units of a unit
abbrev unit : ℚ
unit = units (pos 1)

square-below : (u : ℤ) {z : ℤ} → (u *ℤ u) ≤ℤ z → units u *ℚ units u ≤ℚ unit *ℚ units z
square-below u {z} h = products-≤ u u (pos 1) z (rw (Ring.one-mul ℤ-ring z) h)

square-upper : {r : Range} {x : ℚ} → InRange x r → x *ℚ x ≤ℚ unit *ℚ units (largest_square r)
unfolding largest_square
square-upper {r} i =
    let l = r.low *ℤ r.low in
    let h = r.high *ℤ r.high in
    Ord.square-upper ℚ-ordered i.low i.high (square-below r.low (greater-left l h)) (square-below r.high (greater-right l h))

pub squares-nonneg : (s : ℕ) (x : ℕ → ℚ) → 0ℚ ≤ℚ sum_over_ℚ s (λ a. x a *ℚ x a)
squares-nonneg s x = sum_over-nonneg ℚ-ordered s (λ a l t. Ord.square-nonneg ℚ-ordered (x a))

pub squares-upper : {s : ℕ} {g : List Range} {x : ℕ → ℚ} → Members s x g → T (valid_over s g)
    → sum_over_ℚ s (λ a. x a *ℚ x a) ≤ℚ units (square_sum s g)
unfolding square_sum
squares-upper {s} {g} m v =
    let squares : ℕ → ℤ = λ a. largest_square (at g a) in
    let total = sum_over_ℤ s squares in
    Q.≤ℚ-trans
    (sum_over-mono ℚ-ordered s (λ a l t. square-upper (each-between m v a l t)))
    (Ord.eq-le ℚ-ordered
    (sum_over-scale ℚ-ring s unit (λ a. units (squares a)) ∙ ap (unit *ℚ◌) (sym (sum_over-units s squares)))
    (ceil-above (pos 1) total (rw (Ring.one-mul ℤ-ring total) (≤ℤ_refl total))))

pub squares-∈ : {s : ℕ} {g : List Range} {x : ℕ → ℚ} → Members s x g → sum_over_ℚ s (λ a. x a *ℚ x a) ∈ squares_of s g
unfolding squares_of
squares-∈ {s} {g} {x} m =
    if-∈ (valid_over s g) (λ v.
    kept-∈ (from_to (pos 0) (square_sum s g)) (record { low = rw units-0 (squares-nonneg s x); high = squares-upper m v }))

-- ---- the root
-- a product is at most the product of the magnitudes
neg-≤ : (k : ℕ) → neg_ℤ (pos k) ≤ℤ pos k
neg-≤ k = omega (ints, neg-dif (pos k))

product-≤ : (u v : ℤ) → (u *ℤ v) ≤ℤ pos (nat_abs u * nat_abs v)
product-≤ (pos m) (pos n) = ≤ℤ_refl _
product-≤ (pos m) (negsuc n) = neg-≤ (m * suc n)
product-≤ (negsuc m) (pos n) = neg-≤ (suc m * n)
product-≤ (negsuc m) (negsuc n) = ≤ℤ_refl _

module _ (s : ℕ) (g h : List Range) where
  record Root : Type 0 where
    pub left : T (valid_over s g)
    pub right : T (valid_over s h)
    pub is : root_of s g h ≡ from_to (neg_ℤ (root_sum s g h)) (root_sum s g h)

  root-of : T (is_valid (root_of s g h)) → Root
  unfolding root_of
  root-of t =
      let both = valid_over s g && valid_over s h in
      let r = from_to (neg_ℤ (root_sum s g h)) (root_sum s g h) in
      let p = if-valid both (kept r) t in
      record {
        left = and_left (valid_over s g) (valid_over s h) p.0;
        right = and_right (valid_over s g) (valid_over s h) p.0;
        is = if-passed both (kept r) over p.0 ∙ kept-is r (kept-valid r p.1);
      }

  pub root-nonneg : 0ℚ ≤ℚ units (root_sum s g h)
  unfolding root_sum
  root-nonneg = units-nonneg (omega ints)

  pub root_ends : T (is_valid (root_of s g h)) → ((root_of s g h).low ≡ neg_ℤ (root_of s g h).high) × (0ℚ ≤ℚ units (root_of s g h).high)
  root_ends t = rw (root-of t).is (refl, root-nonneg)

  -- the root, in units, of a product of sums, in units
  pub root-large : units (square_sum s g) *ℚ units (square_sum s h) ≤ℚ units (root_sum s g h) *ℚ units (root_sum s g h)
  unfolding root_sum
  root-large =
      let p = square_sum s g in
      let q = square_sum s h in
      products-≤ p q (root_sum s g h) (root_sum s g h) (≤ℤ-trans (product-≤ p q) (pos-≤ (ceil-root (nat_abs p * nat_abs q)).high))

pub root-∈ : {s : ℕ} {g h : List Range} {x y : ℕ → ℚ} → Members s x g → Members s y h → T (is_valid (root_of s g h))
    → sum_over_ℚ s (λ a. x a *ℚ x a) *ℚ sum_over_ℚ s (λ a. y a *ℚ y a) ≤ℚ units (root_of s g h).high *ℚ units (root_of s g h).high
root-∈ {s} {g} {h} {x} {y} m n t =
    let r = root-of s g h t in
    rw r.is
    (Q.≤ℚ-trans
    (Ord.mul_mono ℚ-ordered (squares-nonneg s x) (squares-upper m r.left) (squares-nonneg s y) (squares-upper n r.right))
    (root-large s g h))
