-- Cross of two lines of one factor each, different ones: the products over the two factors are zero, and β is at least the largest magnitude M
-- of the product of the two slopes. So Cross holds what lies between −M and M. Assumes nothing.
use mathlib.Core.Path.{◌≡◌, sym, ◌∙◌, ap, ap₂, subst}
use mathlib.Core.Bool.{false, ◌&&◌}
use mathlib.Core.List.{List}
use mathlib.Core.Logic.{⊎_elim}
use Prim.Native.Nat.{ℕ, ◌*◌, ◌<◌, zero-le}
use lib.Dec.{T}
use lib.IntN.{ℤ, pos, nat_abs, ◌*ℤ◌, *ℤ_comm, *ℤ-zero}
use lib.Signed.{◌≤ℤ◌}
use Rattle.algebra.proofs.Ordered as Ord
use Rattle.algebra.proofs.Restricted.{sum-single, sum-larger}
use Rattle.exact.specs.Div.{floor_div, ceil_div}
use Rattle.algebra.proofs.Int.{ints, neg-dif, ℤ-ring, ℤ-ordered, pos-≤, neg-anti, ≤ℤ-trans}
use Rattle.exact.proofs.Div.{ceil-ge}
use Rattle.exact.proofs.Sqrt.{ceil-root}
use Rattle.range.specs.declared.Range.{Range}
use Rattle.range.specs.Limit.{from_to, zero_range, over, is_valid, kept}
use Rattle.range.specs.Arithmetic.{ends_product, product_of}
use Rattle.range.specs.Sums.{has, sum_over, at, valid_over, ends_products, products_of, largest_square, square_sum, root_sum, ends_root, root_of}
use Rattle.range.specs.Star.{magnitude_of}
use Rattle.range.specs.Laws.{ValidInside, ◌⊑◌}
use Rattle.range.proofs.Valid.{not-true, if-valid, if-passed, kept-valid, kept-is, sticky₂-of}
use Rattle.range.proofs.SumOver.{sum_over-ext, sum_over-zero, largest_square-nonneg, square_sum-nonneg}
use Rattle.range.proofs.Within.{within-inside, ⊑_refl}
use Rattle.range.proofs.Powers.{ten-thousand}
use Rattle.range.proofs.StarRoot.{abs-above}
use Rattle.range.proofs.Laws.{laws}
use Rattle.range.proofs.Sharper.{⊑_trans, sum-wider, around, product-magnitude}
use Rattle.rules.specs.Formula.{sticky}
use Rattle.rules.specs.Sets.{◌∪◌, is_single, only}
use Rattle.rules.specs.Table.{cross_spectrum}
use Rattle.rules.proofs.Members.{◌⊆◌, left-in, right-in, in_either}
use Rattle.rules.proofs.SetTests.{Only, single-only}

-- ---- zero products
zero_right : (a : Range) → ends_product a zero_range ≡ zero_range
unfolding ends_product floor_div ceil_div
zero_right a = rw (*ℤ-zero a.low, *ℤ-zero a.high)

zero_left : (a : Range) → ends_product zero_range a ≡ zero_range
unfolding ends_product floor_div ceil_div
zero_left a = rw (*ℤ_comm (pos 0) a.low, *ℤ_comm (pos 0) a.high, *ℤ-zero a.low, *ℤ-zero a.high)

-- ---- β
member_below : {p s : ℕ} (g : List Range) → Only p → p ⊆ s → largest_square (at g (only p)) ≤ℤ (square_sum s g *ℤ pos 10000)
unfolding square_sum sum_over
member_below {p} {s} g o i =
    ≤ℤ-trans
    (Ord.eq-le ℤ-ordered
    (sym (sum-single ℤ-ring 8 (has p) (λ a. largest_square (at g a)) o.below o.member o.alone))
    (sum-larger ℤ-ordered 8 (has p) (has s) (λ a. largest_square-nonneg (at g a)) i.into))
    (ceil-ge _ ten-thousand)

root-above : (s : ℕ) (g h : List Range) → (square_sum s g *ℤ square_sum s h) ≤ℤ (root_sum s g h *ℤ root_sum s g h)
unfolding root_sum
root-above s g h =
    let x = square_sum s g in
    let y = square_sum s h in
    ≤ℤ-trans
    (Ord.mul_mono ℤ-ordered (square_sum-nonneg s g) (abs-above x) (square_sum-nonneg s h) (abs-above y))
    (pos-≤ (ceil-root (nat_abs x * nat_abs y)).high)

root-nonneg : (s : ℕ) (g h : List Range) → pos 0 ≤ℤ root_sum s g h
unfolding root_sum
root-nonneg s g h = pos-≤ zero-le

-- ---- two sets of one factor each, with no factor in both
module _ {p q : ℕ} (o : Only p) (w : Only q) (disjoint : (a : ℕ) → T (has p a) → ¬ T (has q a)) (g h : List Range) where
  abbrev s : ℕ
  s = p ∪ q

  not-single : s < 256 → is_single s ≡ false
  not-single small = not-true (λ t.
      let u = single-only s small t in
      let e = u.alone (only p) ((left-in p q).into (only p) o.member) in
      let f = u.alone (only q) ((right-in p q).into (only q) w.member) in
      disjoint (only p) o.member (subst (λ a. T (has q a)) (f ∙ sym e) w.member))

  -- M is at most β
  magnitude-below : T (is_valid (product_of (at g (only p)) (at h (only q)))) → magnitude_of (product_of (at g (only p)) (at h (only q))) ≤ℤ root_sum s g h
  unfolding product_of
  magnitude-below t =
      let a = at g (only p) in
      let b = at h (only q) in
      subst (λ r. magnitude_of r ≤ℤ root_sum s g h) (sym (sticky₂-of ends_product a b t).is)
      (product-magnitude a b (square_sum s g) (square_sum s h) (root_sum s g h) (member_below g o (left-in p q)) (member_below h w (right-in p q)) (root-nonneg s g h) (root-above s g h))

  around-root : {m : ℤ} → pos 0 ≤ℤ m → m ≤ℤ root_sum s g h → around m ⊑ root_of s g h
  unfolding root_of
  around-root {m} n l = record {
    inside = λ t.
        let k = if-valid (valid_over s g && valid_over s h) (kept (ends_root s g h)) t in
        let v = kept-valid (ends_root s g h) k.1 in
        subst (ValidInside (around m)) (sym (if-passed (valid_over s g && valid_over s h) (kept (ends_root s g h)) over k.0 ∙ kept-is (ends_root s g h) v))
        (within-inside (record { low = neg-anti l; order = omega (ints, neg-dif m); high = l }) v);
  }

  -- where slopes are zero outside their own set
  module _ (zero-g : (a : ℕ) → a < 8 → ¬ T (has p a) → at g a ≡ zero_range) (zero-h : (a : ℕ) → a < 8 → ¬ T (has q a) → at h a ≡ zero_range) where
    each-zero : (a : ℕ) → a < 8 → T (has s a) → ends_product (at g a) (at h a) ≡ zero_range
    each-zero a l m =
        ⊎_elim
        (λ i. ap (ends_product (at g a)) (zero-h a l (disjoint a i)) ∙ zero_right (at g a))
        (λ i. ap (λ r. ends_product r (at h a)) (zero-g a l (λ k. disjoint a k i)) ∙ zero_left (at h a))
        (in_either p q a m)

    zero-products : ends_products s g h ≡ zero_range
    unfolding ends_products
    zero-products =
        ap₂ from_to
        (sum_over-ext ℤ-ring s (λ a l m. ap (λ r. r.low) (each-zero a l m)) ∙ sum_over-zero ℤ-ordered s)
        (sum_over-ext ℤ-ring s (λ a l m. ap (λ r. r.high) (each-zero a l m)) ∙ sum_over-zero ℤ-ordered s)

    products-wider : zero_range ⊑ products_of s g h
    unfolding products_of
    products-wider = record {
      inside = λ t.
          let k = if-valid (valid_over s g && valid_over s h) (kept (ends_products s g h)) t in
          let v = kept-valid (ends_products s g h) k.1 in
          let is = if-passed (valid_over s g && valid_over s h) (kept (ends_products s g h)) over k.0 ∙ kept-is (ends_products s g h) v ∙ zero-products in
          subst (ValidInside zero_range) (sym is) ((⊑_refl zero_range).inside (subst (λ r. T (is_valid r)) zero-products v));
    }

    pub around-cross : s < 256 → (C : Range) → C ≡ product_of (at g (only p)) (at h (only q)) → T (is_valid C) → pos 0 ≤ℤ magnitude_of C
        → around (magnitude_of C) ⊑ sticky (cross_spectrum s g h)
    around-cross small C e t n =
        let below = subst (λ r. magnitude_of r ≤ℤ root_sum s g h) (sym e) (magnitude-below (subst (λ r. T (is_valid r)) e t)) in
        rw (not-single small)
        (⊑_trans (sum-wider (around (magnitude_of C))) (laws.isotonicity.sum products-wider (around-root n below)))
