-- Units: what the exact operations on them come to in integers, that rounded division of integers rounds them outward, and that rounding a
-- number to an integer and to units is what specs/Units says of it.
use mathlib.Core.Path.{◌≡◌, refl, sym, ◌∙◌, ap}
use mathlib.Core.Logic.{◌↔◌, inl, inr, ⊎_elim}
use mathlib.Core.Quot.{ind}
use mathlib.Core.HLevel.{×_prop, →_prop}
use Prim.Native.Nat.{ℕ, zero, suc, ◌*◌, ◌<◌}
use native.Mathlib.Nat as N
use lib.Dec.{lit<}
use lib.IntN.{ℤ, pos, negsuc, neg_ℤ, ◌+ℤ◌, ◌*ℤ◌, neg_ℤ-neg_ℤ}
use lib.Signed.{◌≤ℤ◌, ◌<ℤ◌, clash_ℤ}
use Rattle.algebra.proofs.Ordered as Ord
use Rattle.algebra.proofs.Solver.{◌:*◌, :-◌, ◌:=◌, ring}
use Rattle.algebra.proofs.Sum.{sum, sum_below}
use Rattle.algebra.proofs.Int.{ints, ℤ-ring, mul-pos-dif, neg-dif, neg-≤, *ℤ-assoc, *ℤ-one, *ℤ-mono, ≤ℤ-of-≡, ≤ℤ_prop, ≤ℤ-trans}
use Rattle.algebra.proofs.Frac.{Frac, ◌≼◌, whole}
use Rattle.exact.proofs.Div.{floor_div, ceil_div, floor_quot, ceil_quot, floor-le, floor-iff, ceil-ge, OneSign}
use Rattle.exact.proofs.Rat as Q
use Rattle.exact.proofs.Rat.{ℚ, from_ℤ, ratio, neg_ℚ, ◌+ℚ◌, ◌*ℚ◌, ◌≤ℚ◌, ◌<ℚ◌, le_q, 0ℚ, 1ℚ, ℚ-ring, ℚ-ordered}
use Rattle.exact.proofs.Rat.{ratio-≤, ratio-≡, ratio-+same, ratio-*, ratio-neg}
use Rattle.exact.proofs.Rat.{≤-mk, ≤-frac, from_ℤ-is, from_ℤ-neg, neg_ℚ-anti}
use Rattle.exact.specs.Units.{floor_f}
pub use Rattle.exact.specs.Units.{scale, scale-pos, In}
unfoldable pub use Rattle.exact.specs.Units.{units, floor_ℚ, ceil_ℚ, down, up}

-- ---- the operations on units, in integers
pub units-≤ : (u v : ℤ) → (units u ≤ℚ units v) ↔ (u ≤ℤ v)
unfolding units
units-≤ u v = (
  λ h. let k = (ratio-≤ u v scale-pos scale-pos).0 h in omega (ints, mul-pos-dif u scale, mul-pos-dif v scale),
  λ h. (ratio-≤ u v scale-pos scale-pos).1 (omega (ints, mul-pos-dif u scale, mul-pos-dif v scale)),
)

pub units-+ : (u v : ℤ) → units u +ℚ units v ≡ units (u +ℤ v)
unfolding units
units-+ u v = ratio-+same u v scale-pos

pub units-neg : (u : ℤ) → neg_ℚ (units u) ≡ units (neg_ℤ u)
unfolding units
units-neg u = ratio-neg u scale-pos

pub units-0 : units (pos 0) ≡ 0ℚ
unfolding units
units-0 = (ratio-≡ (pos 0) (pos 0) _ _).1 refl ∙ sym (from_ℤ-is (pos 0))

pub units-1 : units (pos 10000) ≡ 1ℚ
unfolding units
units-1 = (ratio-≡ (pos 10000) (pos 1) _ _).1 refl ∙ sym (from_ℤ-is (pos 1))

-- ---- order
pub units_mono : {u v : ℤ} → u ≤ℤ v → units u ≤ℚ units v
units_mono {u} {v} h = (units-≤ u v).1 h

pub units-nonneg : {u : ℤ} → pos 0 ≤ℤ u → 0ℚ ≤ℚ units u
units-nonneg h = rw units-0 at (units_mono h)

pub units-nonpos : {u : ℤ} → u ≤ℤ pos 0 → units u ≤ℚ 0ℚ
units-nonpos h = rw units-0 at (units_mono h)

pub nonneg-units : {u : ℤ} → 0ℚ ≤ℚ units u → pos 0 ≤ℤ u
nonneg-units {u} h = (units-≤ (pos 0) u).0 (rw units-0 h)

pub nonpos-units : {u : ℤ} → units u ≤ℚ 0ℚ → u ≤ℤ pos 0
nonpos-units {u} h = (units-≤ u (pos 0)).0 (rw units-0 h)

pub units-pos : {a : ℤ} → pos 0 <ℤ a → 0ℚ <ℚ units a
units-pos {a} p = ⊎_elim (λ h. clash_ℤ p ((units-≤ a (pos 0)).0 (rw units-0 h))) (λ h. h) (Q.≤ℚ-or-<ℚ (units a) 0ℚ)

-- a bound of the negated number
pub neg-upper : (u : ℤ) {x : ℚ} → units u ≤ℚ x → neg_ℚ x ≤ℚ units (neg_ℤ u)
neg-upper u h = rw (← (units-neg u)) (neg_ℚ-anti h)

pub neg-lower : (u : ℤ) {x : ℚ} → x ≤ℚ units u → units (neg_ℤ u) ≤ℚ neg_ℚ x
neg-lower u h = rw (← (units-neg u)) (neg_ℚ-anti h)

-- ---- multiples, sums, products
pub units-times : (k : ℕ) (u : ℤ) → units (pos k *ℤ u) ≡ from_ℤ (pos k) *ℚ units u
unfolding units
units-times k u = sym (ap (λ z. z *ℚ units u) (from_ℤ-is (pos k)) ∙ ratio-* (pos k) u _ _ ∙ (ratio-≡ _ _ _ _).1 refl)

pub sum-units : (n : ℕ) (f : ℕ → ℤ) → units (sum ℤ-ring n f) ≡ sum ℚ-ring n (λ a. units (f a))
unfolding sum_below
sum-units zero f = units-0
sum-units (suc n) f = sym (units-+ (f n) (sum ℤ-ring n f)) ∙ ap (units (f n) +ℚ◌) (sum-units n f)

pub products-≤ : (u v w z : ℤ) → (u *ℤ v) ≤ℤ (w *ℤ z) → units u *ℚ units v ≤ℚ units w *ℚ units z
unfolding units
products-≤ u v w z h = rw (ratio-* u v, ratio-* w z) ((ratio-≤ (u *ℤ v) (w *ℤ z) _ _).1 (*ℤ-mono (scale * scale) h))

-- what is at most u·v, divided by 10,000 and rounded down, is at most the product in units; likewise up
pub floor-below : {z : ℤ} (u v : ℤ) → z ≤ℤ (u *ℤ v) → units (floor_div z scale) ≤ℚ units u *ℚ units v
unfolding units
floor-below {z} u v h =
    let q = floor_div z scale in
    rw (ratio-* u v)
    ((ratio-≤ q (u *ℤ v) _ _).1
    (≤ℤ-trans (≤ℤ-of-≡ (sym (*ℤ-assoc q (pos scale) (pos scale)))) (*ℤ-mono scale (≤ℤ-trans (floor-le z scale-pos) h))))

pub ceil-above : {z : ℤ} (u v : ℤ) → (u *ℤ v) ≤ℤ z → units u *ℚ units v ≤ℚ units (ceil_div z scale)
unfolding units
ceil-above {z} u v h =
    let q = ceil_div z scale in
    rw (ratio-* u v)
    ((ratio-≤ (u *ℤ v) q _ _).1
    (≤ℤ-trans (*ℤ-mono scale (≤ℤ-trans h (ceil-ge z scale-pos))) (≤ℤ-of-≡ (*ℤ-assoc q (pos scale) (pos scale)))))

-- ════ ranges of units, rounded outward ════

pub in-neg : {a b : ℤ} {x : ℚ} → In a b x → In (neg_ℤ b) (neg_ℤ a) (neg_ℚ x)
in-neg {a} {b} i = record { low = neg-lower b i.high; high = neg-upper a i.low }

-- a/k is the reciprocal of c units if c·a is 10,000·k, and lies between 10,000·a divided by k rounded down and up
module _ (c a : ℤ) {k : ℕ} (p : zero < k) where
  recip-at : c *ℤ a *ℤ pos 1 ≡ pos 1 *ℤ pos (scale * k) → units c *ℚ ratio a k p ≡ 1ℚ
  unfolding units
  recip-at e = ratio-* c a scale-pos p ∙ (ratio-≡ (c *ℤ a) (pos 1) _ _).1 e ∙ sym (from_ℤ-is (pos 1))

  rounded-down : units (floor_div (a *ℤ pos scale) k) ≤ℚ ratio a k p
  unfolding units
  rounded-down = (ratio-≤ _ a scale-pos p).1 (floor-le (a *ℤ pos scale) p)

  rounded-up : ratio a k p ≤ℚ units (ceil_div (a *ℤ pos scale) k)
  unfolding units
  rounded-up = (ratio-≤ a _ p scale-pos).1 (ceil-ge (a *ℤ pos scale) p)

-- the reciprocal of c units lies between 100,000,000 divided by c rounded down and up
units-recip : (c : ℤ) → ¬ (units c ≡ 0ℚ)
    → (z : ℚ) × (units c *ℚ z ≡ 1ℚ) × (units (floor_quot (pos 100000000) c) ≤ℚ z) × (z ≤ℚ units (ceil_quot (pos 100000000) c))
unfolding floor_quot ceil_quot
units-recip (pos zero) f = absurd (f units-0)
units-recip (pos (suc n)) f =
    let c = pos (suc n) in
    let a = pos 10000 in
    let p = N.zero-lt-suc n in
    (ratio a (suc n) p, recip-at c a p (omega ints), rounded-down c a p, rounded-up c a p)
units-recip (negsuc n) f =
    let c = negsuc n in
    let a = negsuc 9999 in
    let p = N.zero-lt-suc n in
    (ratio a (suc n) p, recip-at c a p (omega ints), rounded-down c a p, rounded-up c a p)

-- two numbers between ends of one sign have a positive product
positive : {a b : ℤ} {x : ℚ} → pos 0 <ℤ a → In a b x → Ord.lt ℚ-ordered 0ℚ x
positive p i h = Q.≤ℚ-not-< h (Q.<ℚ-≤ℚ-trans (units-pos p) i.low)

same_sign : {a b : ℤ} {x y : ℚ} → OneSign a b → In a b x → In a b y → 0ℚ <ℚ x *ℚ y
same_sign (inl p) i j = Q.not≤ (Ord.mul-pos ℚ-ordered (positive p i) (positive p j))
same_sign {b = b} {x = x} {y = y} (inr p) i j =
    let q : pos 0 <ℤ neg_ℤ b = omega (ints, neg-dif b) in
    rw (ring ℚ-ring 2 (λ x y. x :* y := :- x :* :- y) tt x y)
    (Q.not≤ (Ord.mul-pos ℚ-ordered (positive q (in-neg i)) (positive q (in-neg j))))

-- a reciprocal lies between those of the ends, if these have one sign: 100,000,000 divided by the other end, rounded outward
pub in-recip : {a b : ℤ} {x y : ℚ} → OneSign a b → In a b x → x *ℚ y ≡ 1ℚ
    → In (floor_quot (pos 100000000) b) (ceil_quot (pos 100000000) a) y
in-recip {a} {b} s i e = record {
  low = let r = units-recip b (nonzero last) in
      Q.≤ℚ-trans r.2 (Q.recip-anti (same_sign s i last) i.high e r.1);
  high = let r = units-recip a (nonzero first) in
      Q.≤ℚ-trans (Q.recip-anti (same_sign s first i) i.low r.1 e) r.3;
}
  where
    first : In a b (units a)
    first = record { low = Q.≤ℚ-refl (units a); high = Q.≤ℚ-trans i.low i.high }

    last : In a b (units b)
    last = record { low = Q.≤ℚ-trans i.low i.high; high = Q.≤ℚ-refl (units b) }

    nonzero : {z : ℚ} → In a b z → ¬ (z ≡ 0ℚ)
    nonzero {z} k f = Q.≤ℚ-not-< (Q.≤ℚ-of-≡ (ap (λ t. t *ℚ z) f ∙ Q.zero-*ℚ z)) (same_sign s k k)

-- ════ rounding to an integer ════

floor_f-iff : (q : ℤ) (x : Frac) → (q ≤ℤ floor_f x) ↔ (whole q ≼ x)
floor_f-iff q x = rw (*ℤ-one x.num) (floor-iff q x.num x.den_pos)

pub floor_ℚ-iff : (q : ℤ) (x : ℚ) → (q ≤ℤ floor_ℚ x) ↔ (from_ℤ q ≤ℚ x)
unfolding floor_ℚ from_ℤ
floor_ℚ-iff q =
    ind (λ x. ×_prop (→_prop (Q.≤ℚ-prop (from_ℤ q) x)) (→_prop ≤ℤ_prop))
    (λ a. (λ h. ≤-mk ((floor_f-iff q a).0 h), λ h. (floor_f-iff q a).1 (≤-frac (whole q) a h)))

pub ceil_ℚ-iff : (q : ℤ) (x : ℚ) → (ceil_ℚ x ≤ℤ q) ↔ (x ≤ℚ from_ℤ q)
unfolding ceil_ℚ
ceil_ℚ-iff q x = (λ h. there ((floor_ℚ-iff (neg_ℤ q) (neg_ℚ x)).0 (neg-≤ h)), λ h. neg-≤ ((floor_ℚ-iff (neg_ℤ q) (neg_ℚ x)).1 (back h)))
  where
    there : from_ℤ (neg_ℤ q) ≤ℚ neg_ℚ x → x ≤ℚ from_ℤ q
    there h = rw (Q.neg_ℚ-neg_ℚ x, from_ℤ-neg (neg_ℤ q), neg_ℤ-neg_ℤ q) at (neg_ℚ-anti h)

    back : x ≤ℚ from_ℤ q → from_ℤ (neg_ℤ q) ≤ℚ neg_ℚ x
    back h = rw (from_ℤ-neg q) at (neg_ℚ-anti h)

-- ════ rounding to a number of units ════

scale_ℚ-pos : 0ℚ <ℚ from_ℤ (pos scale)
unfolding from_ℤ le_q
scale_ℚ-pos = record { lt = tt }

units-scale : (u : ℤ) → units u *ℚ from_ℤ (pos scale) ≡ from_ℤ u
unfolding units
units-scale u =
    ap (units u *ℚ◌) (from_ℤ-is (pos scale)) ∙ ratio-* u (pos scale) _ _ ∙ (ratio-≡ _ _ _ _).1 (*ℤ-one (u *ℤ pos scale)) ∙ sym (from_ℤ-is u)

pub down-iff : (q : ℤ) (x : ℚ) → (q ≤ℤ down x) ↔ (units q ≤ℚ x)
unfolding down
down-iff q x = (
  λ h. Q.*ℚ-cancel-≤ scale_ℚ-pos (rw units-scale ((floor_ℚ-iff q _).0 h)),
  λ h. (floor_ℚ-iff q _).1 (rw units-scale at (Q.*ℚ-monoʳ _ (Q.<ℚ→≤ℚ scale_ℚ-pos) h)),
)

pub up-iff : (q : ℤ) (x : ℚ) → (up x ≤ℤ q) ↔ (x ≤ℚ units q)
unfolding up
up-iff q x = (
  λ h. Q.*ℚ-cancel-≤ scale_ℚ-pos (rw units-scale ((ceil_ℚ-iff q _).0 h)),
  λ h. (ceil_ℚ-iff q _).1 (rw units-scale at (Q.*ℚ-monoʳ _ (Q.<ℚ→≤ℚ scale_ℚ-pos) h)),
)

-- closed terms compute: 1.5 * (−0.3333) and 2 / 3, both ways
rounded : (down (units (pos 15000) *ℚ units (negsuc 3332)) ≡ negsuc 4999) × (up (units (pos 15000) *ℚ units (negsuc 3332)) ≡ negsuc 4998)
    × (down (ratio (pos 2) 3 (lit< tt)) ≡ pos 6666) × (up (ratio (pos 2) 3 (lit< tt)) ≡ pos 6667)
unfolding down up units ratio floor_ℚ ceil_ℚ from_ℤ ◌*ℚ◌ neg_ℚ floor_div
rounded = (refl, refl, refl, refl)
