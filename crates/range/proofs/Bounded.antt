-- `Bounded s r y`: low·s ≤ y ≤ high·s where r is valid. Each operation keeps it, and `x ∈ r` is the case s = 1. Assumes nothing.
use mathlib.Core.Path.{◌≡◌}
use mathlib.Core.Bool.{Bool, not, cond}
use Prim.Native.Nat.{ℕ}
use lib.Dec.{T}
use Rattle.algebra.proofs.Ordered as Ord
use Rattle.exact.proofs.Rat.{ℚ, ◌+ℚ◌, ◌*ℚ◌, neg_ℚ, ◌≤ℚ◌, 0ℚ, 1ℚ}
use Rattle.exact.proofs.Units.{units, units-+, units-neg}
use Rattle.exact.proofs.Rat.{ℚ-ordered}
use Rattle.range.specs.declared.Range.{Range}
use Rattle.range.specs.Limit.{zero_range, over, is_valid, kept, sticky₁, sticky₂}
use Rattle.range.specs.Arithmetic.{ends_sum, sum_of, ends_neg, neg_of, ends_times, times_of, ends_product, product_of, ends_hull, hull_of}
use Rattle.range.specs.Inclusion.{◌∈◌, num}
use Rattle.range.proofs.Extremes.{lesser-left, lesser-right, greater-left, greater-right, end-products}
use Rattle.exact.proofs.Units.{units-0, units_mono, units-times, floor-below, ceil-above}
use Rattle.range.proofs.Holds.{InRange, if-holds, either-holds, kept-holds, sticky₁-holds, sticky₂-holds}
use Rattle.range.proofs.Scaled as S
use Rattle.range.proofs.Scaled.{Scaled}

abbrev pub ScaledEnds : ℚ → ℚ → Range → Type 0
ScaledEnds s y r = Scaled ℚ-ordered s (units r.low) (units r.high) y

pub record Bounded (s : ℚ) (r : Range) (y : ℚ) : Type 0 where
  pub scaled : T (is_valid r) → ScaledEnds s y r

-- ---- weight 1
pub weighted : {x : ℚ} {r : Range} → x ∈ r → Bounded 1ℚ r x
weighted h = record { scaled = λ t. S.at_one ℚ-ordered (h.between t).low (h.between t).high }

pub between-of : {x : ℚ} {r : Range} → ScaledEnds 1ℚ x r → InRange x r
between-of w = record { low = S.of-one-low ℚ-ordered w; high = S.of-one-high ℚ-ordered w }

pub member : {x : ℚ} {r : Range} → Bounded 1ℚ r x → x ∈ r
member b = record { between = λ t. between-of (b.scaled t) }

-- any weight: a member in proportion to it
pub weighted-by : {s x : ℚ} {r : Range} → 0ℚ ≤ℚ s → x ∈ r → Bounded s r (x *ℚ s)
weighted-by p h = record { scaled = λ t. S.scaled-by ℚ-ordered p (h.between t).low (h.between t).high }

pub one-nonneg : 0ℚ ≤ℚ 1ℚ
one-nonneg = Ord.zero-le-one ℚ-ordered

-- ---- equal numbers and weights, tests
pub bounded-eq : {s y z : ℚ} {r : Range} → Bounded s r y → y ≡ z → Bounded s r z
bounded-eq b e = record { scaled = λ t. S.scaled-eq ℚ-ordered (b.scaled t) e }

pub bounded_at : {s t y : ℚ} {r : Range} → Bounded s r y → s ≡ t → Bounded t r y
bounded_at b e = record { scaled = λ t. S.scaled_at ℚ-ordered (b.scaled t) e }

module _ {s y : ℚ} where
  pub bounded_of : {r : Range} → ScaledEnds s y r → Bounded s r y
  bounded_of w = record { scaled = λ t. w }

  pub if-bounded : (c : Bool) {r : Range} → (T c → Bounded s r y) → Bounded s (cond c r over) y
  if-bounded c f = record { scaled = if-holds (ScaledEnds s y) c (λ t. (f t).scaled) }

  pub either-bounded : (c : Bool) {q r : Range} → (T c → Bounded s q y) → (T (not c) → Bounded s r y) → Bounded s (cond c q r) y
  either-bounded c f g = record { scaled = either-holds (ScaledEnds s y) c (λ t. (f t).scaled) (λ t. (g t).scaled) }

  pub kept-bounded : (r : Range) → ScaledEnds s y r → Bounded s (kept r) y
  kept-bounded r w = record { scaled = kept-holds (ScaledEnds s y) r w }

  pub sticky₁-bounded : (f : Range → Range) (a : Range) → (T (is_valid a) → ScaledEnds s y (f a)) → Bounded s (sticky₁ f a) y
  sticky₁-bounded f a h = record { scaled = sticky₁-holds (ScaledEnds s y) f a h }

  pub sticky₂-bounded : (f : Range → Range → Range) (a b : Range) → (T (is_valid a) → T (is_valid b) → ScaledEnds s y (f a b))
      → Bounded s (sticky₂ f a b) y
  sticky₂-bounded f a b h = record { scaled = sticky₂-holds (ScaledEnds s y) f a b h }

-- ---- the exact operations
pub zero-bounded : (s : ℚ) → Bounded s zero_range 0ℚ
zero-bounded s = bounded_of (rw units-0 (S.scaled-zero ℚ-ordered s))

pub sum-bounded : {s x y : ℚ} {a b : Range} → Bounded s a x → Bounded s b y → Bounded s (sum_of a b) (x +ℚ y)
unfolding sum_of
sum-bounded {a = a} {b = b} h k =
    sticky₂-bounded ends_sum a b (λ t u.
    rw (← (units-+ a.low b.low), ← (units-+ a.high b.high)) (S.scaled-sum ℚ-ordered (h.scaled t) (k.scaled u)))

pub neg-bounded : {s x : ℚ} {a : Range} → Bounded s a x → Bounded s (neg_of a) (neg_ℚ x)
unfolding neg_of
neg-bounded {a = a} h =
    sticky₁-bounded ends_neg a (λ t. rw (← (units-neg a.low), ← (units-neg a.high)) (S.scaled-neg ℚ-ordered (h.scaled t)))

pub times-bounded : {s x : ℚ} {a : Range} (k : ℕ) → Bounded s a x → Bounded s (times_of k a) (num k *ℚ x)
unfolding times_of
times-bounded {a = a} k h =
    sticky₁-bounded (ends_times k) a (λ t.
    rw (units-times k a.low, units-times k a.high) (S.scaled-times ℚ-ordered (num k) (Ord.num-nonneg ℚ-ordered k) (h.scaled t)))

-- ---- products: x in a, times what b bounds
pub product-scaled : (a b : Range) {s x y : ℚ} → 0ℚ ≤ℚ s → InRange x a → ScaledEnds s y b → ScaledEnds s (x *ℚ y) (ends_product a b)
unfolding ends_product
product-scaled a b p i w =
    let e = end-products a b in
    S.scaled-product ℚ-ordered p i.low i.high w
    (floor-below a.low b.low e.low-1)
    (floor-below a.low b.high e.low-2)
    (floor-below a.high b.low e.low-3)
    (floor-below a.high b.high e.low-4)
    (ceil-above a.low b.low e.high-1)
    (ceil-above a.low b.high e.high-2)
    (ceil-above a.high b.low e.high-3)
    (ceil-above a.high b.high e.high-4)

pub product-bounded : {s x y : ℚ} {a b : Range} → 0ℚ ≤ℚ s → x ∈ a → Bounded s b y → Bounded s (product_of a b) (x *ℚ y)
unfolding product_of
product-bounded {a = a} {b = b} p h k = sticky₂-bounded ends_product a b (λ t u. product-scaled a b p (h.between t) (k.scaled u))

-- ---- hulls: bounds at least as wide as either operand's
module _ (a b : Range) where
  low-left : units (ends_hull a b).low ≤ℚ units a.low
  low-left = units_mono (lesser-left a.low b.low)

  low-right : units (ends_hull a b).low ≤ℚ units b.low
  low-right = units_mono (lesser-right a.low b.low)

  high-left : units a.high ≤ℚ units (ends_hull a b).high
  high-left = units_mono (greater-left a.high b.high)

  high-right : units b.high ≤ℚ units (ends_hull a b).high
  high-right = units_mono (greater-right a.high b.high)

module _ {s y : ℚ} (a b : Range) (p : 0ℚ ≤ℚ s) where
  pub hull-left-bounded : Bounded s a y → Bounded s (hull_of a b) y
  unfolding hull_of
  hull-left-bounded h = sticky₂-bounded ends_hull a b (λ t u. S.scaled-wider ℚ-ordered p (low-left a b) (high-left a b) (h.scaled t))

  pub hull-right-bounded : Bounded s b y → Bounded s (hull_of a b) y
  unfolding hull_of
  hull-right-bounded h = sticky₂-bounded ends_hull a b (λ t u. S.scaled-wider ℚ-ordered p (low-right a b) (high-right a b) (h.scaled u))

-- a larger weight: the hull with zero
pub hull-zero-bounded : {s t y : ℚ} {a : Range} → 0ℚ ≤ℚ s → s ≤ℚ t → Bounded s a y → Bounded t (hull_of a zero_range) y
unfolding hull_of
hull-zero-bounded {a = a} p q h =
    sticky₂-bounded ends_hull a zero_range (λ v w.
    S.scaled-lift ℚ-ordered p q
    (low-left a zero_range)
    (rw units-0 at (low-right a zero_range))
    (high-left a zero_range)
    (rw units-0 at (high-right a zero_range))
    (h.scaled v))

-- the sum of two weights: the hull of both
pub hull-sum-bounded : {s t x y : ℚ} {a b : Range} → 0ℚ ≤ℚ s → 0ℚ ≤ℚ t → Bounded s a x → Bounded t b y
    → Bounded (s +ℚ t) (hull_of a b) (x +ℚ y)
unfolding hull_of
hull-sum-bounded {a = a} {b = b} p q h k =
    sticky₂-bounded ends_hull a b (λ v w.
    S.scaled-join ℚ-ordered p q (low-left a b) (low-right a b) (high-left a b) (high-right a b) (h.scaled v) (k.scaled w))
