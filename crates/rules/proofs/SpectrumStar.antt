-- Request 4: the spectrum of a product of two lines of one factor each, different ones. Assumes nothing.
use mathlib.Core.Path.{◌≡◌, refl, sym, ◌∙◌, ap₂, subst}
use mathlib.Core.Bool.{Bool, true, false}
use mathlib.Core.List.{List}
use Prim.Native.Nat.{ℕ}
use lib.Dec.{T}
use lib.IntN.{pos}
use Rattle.algebra.proofs.Form.{dot}
use Rattle.algebra.proofs.Ordered as Ord
use Rattle.algebra.proofs.Restricted.{sum-single}
use Rattle.algebra.proofs.Solver.{lit, ◌:+◌, ◌:*◌, ◌:=◌, ring}
use Rattle.exact.proofs.Rat as Q
use Rattle.exact.proofs.Rat.{ℚ, ◌+ℚ◌, ◌*ℚ◌, ℚ-ring, ℚ-ordered}
use Rattle.exact.proofs.Units.{units, units-0}
use Rattle.range.specs.declared.Range.{Range}
use Rattle.range.specs.Limit.{zero_range}
use Rattle.range.specs.Arithmetic.{product_of}
use Rattle.range.specs.Sums.{has, sum_over, at}
use Rattle.range.specs.Star.{star_of}
use Rattle.range.specs.Inclusion.{num}
use Rattle.range.proofs.Valid.{true-T}
use Rattle.range.proofs.Bounded.{Bounded, bounded-eq, bounded_at}
use Rattle.range.proofs.Inclusion.{inclusion}
use Rattle.range.proofs.StarInclusion.{star-bounded}
use Rattle.rules.specs.Sets.{◌∪◌, apart, only}
use Rattle.rules.proofs.Members.{◌⊆◌, no-members}
use Rattle.rules.proofs.SetTests.{Only}
use Rattle.rules.proofs.InnerProducts.{weight, weight-apart, inner-only}
use Rattle.rules.proofs.Gradient.{Gradient, inner-dot, only-∈}

-- a zero spectrum bounds over any weight what it bounds over one
zero-anywhere : {s t y : ℚ} {e : Range} → e ≡ zero_range → Bounded s e y → Bounded t e y
zero-anywhere {s} {t} {y} {e} z b = subst (λ r. Bounded t r y) (sym z) (record {
  scaled = λ u.
      let w = (subst (λ r. Bounded s r y) z b).scaled u in
      record { low = Ord.eq-le ℚ-ordered (same t s) w.low; high = Ord.le-eq ℚ-ordered w.high (same s t) };
})
  where
    same : (s t : ℚ) → units (pos 0) *ℚ s ≡ units (pos 0) *ℚ t
    same s t = rw units-0 (Q.zero-*ℚ s ∙ sym (Q.zero-*ℚ t))

-- A spectrum over a part b of a set of one factor: b is that set, or empty and the spectrum zero.
pub over-only : {b s : ℕ} {e : Range} {y : ℚ} (v : ℕ → ℚ) → b ⊆ s → Only s → (b ≡ 0 → e ≡ zero_range) → Bounded (weight b v) e y
    → Bounded (v (only s) *ℚ v (only s)) e y
unfolding sum_over
over-only {b} {s} {e} {y} v i o z h = go (has b (only s)) refl
  where
    alone : (a : ℕ) → T (has b a) → a ≡ only s
    alone a m = o.alone a (i.into a m)

    go : (c : Bool) → has b (only s) ≡ c → Bounded (v (only s) *ℚ v (only s)) e y
    go true m = bounded_at h (sum-single ℚ-ring 8 (has b) (λ a. v a *ℚ v a) o.below (true-T m) alone)
    go false m = zero-anywhere (z (no-members b (λ a t. subst T m (subst (λ c. T (has b c)) (alone a t) t)))) h

module _ {s t : ℕ} {g h : List Range} {d f : ℕ → ℚ} (D : Gradient s g d) (F : Gradient t h f) (o : Only s) (q : Only t) (n : T (apart s t))
    (v : ℕ → ℚ) where
  pub star_spectrum-bounded : {a b : Range} {P Q : ℚ} → Bounded (v (only s) *ℚ v (only s)) a P → Bounded (v (only t) *ℚ v (only t)) b Q
      → Bounded (weight (s ∪ t) v) (star_of a b (product_of (at g (only s)) (at h (only t)))) (num 2 *ℚ dot ℚ-ring 8 v d *ℚ dot ℚ-ring 8 v f +ℚ (P +ℚ Q))
  star_spectrum-bounded {P = P} {Q = Q} p r =
      let i = only s in
      let k = only t in
      bounded-eq
      (bounded_at
      (star-bounded (v i) (v k) p r (inclusion.product (only-∈ D o) (only-∈ F q)))
      (ap₂ ◌+ℚ◌ (sym (inner-only v v o)) (sym (inner-only v v q)) ∙ sym (weight-apart s t v n)))
      (ring ℚ-ring 6 (λ P Q d f u w. P :+ Q :+ lit 2 :* (d :* f :* (u :* w)) := lit 2 :* (u :* d) :* (w :* f) :+ (P :+ Q)) tt P Q (d i) (f k) (v i) (v k)
      ∙ ap₂ (λ x y. num 2 *ℚ x *ℚ y +ℚ (P +ℚ Q))
      (sym (inner-only v d o) ∙ inner-dot D v) (sym (inner-only v f q) ∙ inner-dot F v))
