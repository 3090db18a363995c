-- A product with a factor negated is the product negated, which the row `inv` uses: its factor is negated once. Assumes nothing.
use mathlib.Core.Path.{◌≡◌, refl, sym, ap, ap₂, ◌∙◌}
use mathlib.Core.Bool.{Bool, true, false, ◌&&◌, false≢true}
use mathlib.Core.Logic.{inr}
use lib.IntN.{ℤ, neg_ℤ, ◌*ℤ◌, neg_ℤ-neg_ℤ}
use lib.Signed.{◌≤ℤ◌}
use Rattle.algebra.proofs.Int.{neg-*ℤ, neg-anti, ≤ℤ-antisym}
use Rattle.exact.specs.Div.{floor_div, ceil_div}
use Rattle.range.specs.declared.Range.{Range}
use Rattle.range.specs.Limit.{from_to, over, is_valid, both_valid, kept}
use Rattle.range.specs.Arithmetic.{least_product, greatest_product, ends_neg, neg_of, ends_product, product_of}
use Rattle.range.proofs.Valid.{T_true, true-T, not-true, and-false, kept-is}
use Rattle.range.proofs.Extremes.{end-products, least-product, greatest-product}
use Rattle.range.proofs.Fitting.{neg-valid, neg_of-is, neg_of-over}
use Rattle.bounds.proofs.Operands.{untested}

neg-twice : (r : Range) → ends_neg (ends_neg r) ≡ r
neg-twice r = ap₂ from_to (neg_ℤ-neg_ℤ r.low) (neg_ℤ-neg_ℤ r.high)

-- ---- the end products change their signs
least-negated : (q g : Range) → least_product (ends_neg q) g ≡ neg_ℤ (greatest_product q g)
least-negated q g =
    let e = end-products (ends_neg q) g in
    let f = end-products q g in
    let least : ℤ → Type 0 = λ z. least_product (ends_neg q) g ≤ℤ z in
    let most : ℤ → Type 0 = λ z. neg_ℤ (greatest_product q g) ≤ℤ z in
    ≤ℤ-antisym
    (greatest-product q g (λ z. least (neg_ℤ z))
    (out least q.low g.low e.low-3) (out least q.low g.high e.low-4)
    (out least q.high g.low e.low-1) (out least q.high g.high e.low-2))
    (least-product (ends_neg q) g most
    (into most q.high g.low (neg-anti f.high-3)) (into most q.high g.high (neg-anti f.high-4))
    (into most q.low g.low (neg-anti f.high-1)) (into most q.low g.high (neg-anti f.high-2)))
  where
    out : (P : ℤ → Type 0) (x y : ℤ) → P (neg_ℤ x *ℤ y) → P (neg_ℤ (x *ℤ y))
    out P x y p = rw (sym (neg-*ℤ x y)) p

    into : (P : ℤ → Type 0) (x y : ℤ) → P (neg_ℤ (x *ℤ y)) → P (neg_ℤ x *ℤ y)
    into P x y p = rw (neg-*ℤ x y) p

greatest-negated : (q g : Range) → greatest_product (ends_neg q) g ≡ neg_ℤ (least_product q g)
greatest-negated q g =
    sym (neg_ℤ-neg_ℤ (greatest_product (ends_neg q) g))
    ∙ ap neg_ℤ (sym (least-negated (ends_neg q) g) ∙ ap (λ (r : Range). least_product r g) (neg-twice q))

-- ---- rounded: down becomes up
negated-ends : (q g : Range) → ends_product (ends_neg q) g ≡ ends_neg (ends_product q g)
unfolding ends_product ceil_div
negated-ends q g =
    ap₂ from_to
    (ap (λ (z : ℤ). floor_div z 10000) (least-negated q g) ∙ sym (neg_ℤ-neg_ℤ (floor_div (neg_ℤ (greatest_product q g)) 10000)))
    (ap (λ (z : ℤ). neg_ℤ (floor_div (neg_ℤ z) 10000)) (greatest-negated q g)
    ∙ ap (λ (z : ℤ). neg_ℤ (floor_div z 10000)) (neg_ℤ-neg_ℤ (least_product q g)))

-- ---- and kept
kept-negated : (r : Range) → kept (ends_neg r) ≡ neg_of (kept r)
unfolding kept
kept-negated r = go (is_valid r) refl
  where
    back : is_valid (ends_neg r) ≡ true → is_valid r ≡ true
    back e = ap is_valid (sym (neg-twice r)) ∙ neg-valid (ends_neg r) e

    go : (t : Bool) → is_valid r ≡ t → kept (ends_neg r) ≡ neg_of (kept r)
    go true e = kept-is (ends_neg r) (true-T (neg-valid r e)) ∙ sym (ap neg_of (kept-is r (true-T e)) ∙ neg_of-is r e)
    go false e =
        let no : is_valid (ends_neg r) ≡ false = not-true (λ t. false≢true (sym e ∙ back (T_true t))) in
        rw (no, e) (sym neg_of-over)

-- ---- the product
by_over : (p g : Range) → is_valid g ≡ false → product_of p g ≡ over
unfolding product_of both_valid
by_over p g e = let y : is_valid p && is_valid g ≡ false = and-false (is_valid p) (is_valid g) (inr e) in rw y

pub product-negated : (q g : Range) → is_valid q ≡ true → product_of (neg_of q) g ≡ neg_of (product_of q g)
unfolding product_of
product-negated q g v = ap (λ (p : Range). product_of p g) (neg_of-is q v) ∙ go (is_valid g) refl
  where
    go : (t : Bool) → is_valid g ≡ t → product_of (ends_neg q) g ≡ neg_of (product_of q g)
    go true e =
        sym (untested ends_product (ends_neg q) g (neg-valid q v) e)
        ∙ ap kept (negated-ends q g)
        ∙ kept-negated (ends_product q g)
        ∙ ap neg_of (untested ends_product q g v e)
    go false e = by_over (ends_neg q) g e ∙ sym (ap neg_of (by_over q g e) ∙ neg_of-over)
