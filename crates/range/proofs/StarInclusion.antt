-- What request 4's rule means: `star-bounded`, and from it `star-∈`. Assumes nothing.
use mathlib.Core.Path.{◌≡◌, ◌∙◌, ap}
use Prim.Native.Nat.{◌*◌, ◌<◌}
use lib.Dec.{T, lit<}
use lib.IntN.{ℤ, pos, neg_ℤ, ◌+ℤ◌, ◌-ℤ◌, ◌*ℤ◌, *ℤ_comm}
use lib.Signed.{◌≤ℤ◌}
use Rattle.algebra.proofs.Ordered as Ord
use Rattle.algebra.proofs.Solver.{lit, ◌:+◌, ◌:*◌, ◌:-◌, :-◌, ◌:=◌, ring}
use Rattle.algebra.proofs.Linear.{◌:≤◌, ◌⇒◌, ⊢◌, linarith}
use Rattle.algebra.proofs.Int.{ℤ-ring, ℤ-ordered, *ℤ-mono, neg-≤, ≤ℤ-of-≡}
use Rattle.exact.specs.Div.{floor_div, ceil_div}
use Rattle.exact.proofs.Div.{floor-le, ceil-ge}
use Rattle.exact.proofs.Rat.{ℚ, ◌+ℚ◌, ◌-ℚ◌, ◌*ℚ◌, ◌≤ℚ◌, ℚ-ordered, ≤ℚ-refl, ≤ℚ-trans, ratio-*, ratio-+same, ratio-≤}
use Rattle.exact.proofs.Units.{units, scale, units-+, units-neg, units_mono, units-nonneg, units-times, products-≤}
use Rattle.range.specs.declared.Range.{Range}
use Rattle.range.specs.Limit.{is_valid}
use Rattle.range.specs.Inclusion.{◌∈◌, num}
use Rattle.range.proofs.Extremes.{greater-left, greater-right}
use Rattle.range.proofs.Holds.{InRange}
use Rattle.range.proofs.Bounded.{ScaledEnds, Bounded, if-bounded, bounded_of, weighted-by}
use Rattle.range.specs.Star.{magnitude_of, star_root, ends_star, star_of}
use Rattle.range.proofs.StarRoot.{root-nonneg, root-large}
use Rattle.range.proofs.StarForm.{Root, star-scaled}
use Rattle.range.proofs.StarLaws.{are_half, halves, half-valid}

-- ---- at units
units-sub : (a b : ℤ) → units a -ℚ units b ≡ units (a -ℤ b)
units-sub a b = ap (λ z. units a +ℚ z) (units-neg b) ∙ units-+ a (neg_ℤ b)

squares-≤ : (d n r : ℤ) → (d *ℤ d +ℤ n *ℤ n) ≤ℤ (r *ℤ r) → units d *ℚ units d +ℚ units n *ℚ units n ≤ℚ units r *ℚ units r
unfolding units
squares-≤ d n r h = rw (ratio-* d d, ratio-* n n, ratio-* r r, ratio-+same) ((ratio-≤ (d *ℤ d +ℤ n *ℤ n) (r *ℤ r) _ _).1 (*ℤ-mono (scale * scale) h))

-- a half, rounded down and up
two : 0 < 2
two = lit< tt

half_down : (z : ℤ) → num 2 *ℚ units (floor_div z 2) ≤ℚ units z
half_down z = rw (← (units-times 2 (floor_div z 2)), *ℤ_comm (pos 2) (floor_div z 2)) (units_mono (floor-le z two))

half_up : (z : ℤ) → units z ≤ℚ num 2 *ℚ units (ceil_div z 2)
half_up z = rw (← (units-times 2 (ceil_div z 2)), *ℤ_comm (pos 2) (ceil_div z 2)) (units_mono (ceil-ge z two))

-- M, and R over it
magnitude-square : {c : Range} {x : ℚ} → InRange x c → x *ℚ x ≤ℚ units (magnitude_of c) *ℚ units (magnitude_of c)
unfolding magnitude_of
magnitude-square {c} {x} i =
    let m = magnitude_of c in
    Ord.square-upper ℚ-ordered {a = units (neg_ℤ m)} {b = units m}
    (≤ℚ-trans (units_mono (neg-≤ (greater-left (neg_ℤ c.low) c.high))) i.low)
    (≤ℚ-trans i.high (units_mono (greater-right (neg_ℤ c.low) c.high)))
    (products-≤ (neg_ℤ m) (neg_ℤ m) m m (≤ℤ-of-≡ (ring ℤ-ring 1 (λ m. :- m :* :- m := m :* m) tt m)))
    (≤ℚ-refl (units m *ℚ units m))

root-units : (a b m : ℤ) {x : ℚ} → x *ℚ x ≤ℚ units m *ℚ units m → Root ℚ-ordered (units a -ℚ units b) x (units (star_root a b m))
root-units a b m {x} h = record {
  nonneg = units-nonneg (root-nonneg a b m);
  large =
      linarith ℚ-ordered 4
      (λ d m r x. d :* d :+ lit 2 :* m :* (lit 2 :* m) :≤ r :* r ⇒ x :* x :≤ m :* m ⇒ ⊢ d :* d :+ lit 4 :* (x :* x) :≤ r :* r) tt
      (units a -ℚ units b) (units m) (units (star_root a b m)) x
      (rw (units-sub a b, ← (units-times 2 m)) (squares-≤ (a -ℤ b) (pos 2 *ℤ m) (star_root a b m) whole))
      h;
}
  where
    whole : ((a -ℤ b) *ℤ (a -ℤ b) +ℤ (pos 2 *ℤ m) *ℤ (pos 2 *ℤ m)) ≤ℤ (star_root a b m *ℤ star_root a b m)
    whole =
        Ord.eq-le ℤ-ordered
        (ring ℤ-ring 2 (λ d m. d :* d :+ lit 2 :* m :* (lit 2 :* m) := d :* d :+ lit 4 :* (m :* m)) tt (a -ℤ b) m)
        (root-large a b m)

-- ---- the rule: P is α·u², Q is β·v²
star-ends : (a b c : Range) {P Q x : ℚ} (u v : ℚ) → ScaledEnds (u *ℚ u) P a → ScaledEnds (v *ℚ v) Q b → InRange x c
    → ScaledEnds (u *ℚ u +ℚ v *ℚ v) (P +ℚ Q +ℚ num 2 *ℚ (x *ℚ (u *ℚ v))) (ends_star a b c)
unfolding ends_star
star-ends a b c u v p q i =
    let m = magnitude_of c in
    let r = star_root a.low b.low m in
    let s = star_root a.high b.high m in
    star-scaled ℚ-ordered u v p q
    (root-units a.low b.low m (magnitude-square i))
    (rw (units-+ a.low b.low, units-sub (a.low +ℤ b.low) r) (half_down (a.low +ℤ b.low -ℤ r)))
    (root-units a.high b.high m (magnitude-square i))
    (rw (units-+ a.high b.high, units-+ (a.high +ℤ b.high) s) (half_up (a.high +ℤ b.high +ℤ s)))

pub star-bounded : {a b c : Range} {P Q x : ℚ} (u v : ℚ) → Bounded (u *ℚ u) a P → Bounded (v *ℚ v) b Q → x ∈ c
    → Bounded (u *ℚ u +ℚ v *ℚ v) (star_of a b c) (P +ℚ Q +ℚ num 2 *ℚ (x *ℚ (u *ℚ v)))
unfolding star_of
star-bounded {a} {b} {c} u v p q i =
    if-bounded (are_half a b c) (λ t.
    let h = halves a b c t in
    bounded_of (star-ends a b c u v
    (p.scaled (half-valid a h.first))
    (q.scaled (half-valid b h.second))
    (i.between (half-valid c h.third))))

-- Lemma A.1 of 000
pub star-∈ : {a b c : Range} {x y z : ℚ} → x ∈ a → y ∈ b → z ∈ c → T (is_valid (star_of a b c)) → (u v : ℚ)
    → ScaledEnds (u *ℚ u +ℚ v *ℚ v) (x *ℚ (u *ℚ u) +ℚ y *ℚ (v *ℚ v) +ℚ num 2 *ℚ (z *ℚ (u *ℚ v))) (star_of a b c)
star-∈ p q r t u v =
    (star-bounded u v (weighted-by (Ord.square-nonneg ℚ-ordered u) p) (weighted-by (Ord.square-nonneg ℚ-ordered v) q) r).scaled t
