-- What request 4's rule works out fits an `i64`: ends within half the limit, the radicand of its root, the sums before halving. Assumes nothing.
use mathlib.Core.Path.{◌≡◌, ap, ◌∙◌}
use mathlib.Core.Bool.{true}
use Prim.Native.Nat.{◌≤◌}
use native.Mathlib.Nat.{mul-le-mul}
use native.Mathlib.Omega.{arith}
use lib.IntN.{ℤ, pos, negsuc, neg_ℤ, nat_abs, ◌+ℤ◌, ◌-ℤ◌, ◌*ℤ◌, +ℤ_idl}
use lib.Dec.{T, lit<, lit≤}
use lib.Signed.{non_neg, ◌≤ℤ◌}
use mir.Syntax.{w64}
use mir.Val.{Fits, SFits}
use mir.ValLaws.{to_z-of_z}
use Rattle.algebra.proofs.Int.{ints, neg-abs, add-abs, within-abs, mul-abs}
use Rattle.exact.specs.Div.{floor_div, ceil_div}
use Rattle.exact.proofs.Machine.{fits-abs}
use Rattle.range.specs.declared.Range.{Range}
use Rattle.range.specs.Arithmetic.{greater_of}
use Rattle.range.specs.Star.{magnitude_of, star_root, is_half}
use Rattle.range.specs.Steps.{Shiftable}
use Rattle.range.proofs.Valid.{true-T}
use Rattle.range.proofs.Extremes.{greater-any}
use Rattle.range.proofs.Fitting.{held, neg-fits}
use Rattle.range.proofs.Shifting.{shiftable}
use Rattle.range.proofs.StarRoot.{radicand-nonneg}
use Rattle.range.proofs.StarLaws.{half_span, half-span}

-- ---- ends within half the limit
abbrev pub InHalf : ℤ → Type 0
InHalf z = nat_abs z ≤ 1000000000

module _ (r : Range) (v : is_half r ≡ true) where
  pub half-low : InHalf r.low
  unfolding half_span
  half-low = let w = half-span r (true-T v) in within-abs 1000000000 r.low w.low (omega (ints, w.order, w.high))

  pub half_high : InHalf r.high
  unfolding half_span
  half_high = let w = half-span r (true-T v) in within-abs 1000000000 r.high (omega (ints, w.low, w.order)) w.high

  pub minus-low-fits : SFits w64 (neg_ℤ r.low)
  minus-low-fits = neg-fits r.low (omega (arith, half-low))

  -- made of the ends as they are passed on
  pub magnitude-made : greater_of (held (pos 0 -ℤ held r.low)) (held r.high) ≡ magnitude_of r
  unfolding magnitude_of
  magnitude-made =
      rw (
        to_z-of_z w64 r.low (fits-abs r.low (omega (arith, half-low))),
        to_z-of_z w64 r.high (fits-abs r.high (omega (arith, half_high))),
        +ℤ_idl (neg_ℤ r.low),
        to_z-of_z w64 (neg_ℤ r.low) minus-low-fits,
      )

  pub half-magnitude : InHalf (magnitude_of r)
  unfolding magnitude_of
  half-magnitude = greater-any (neg_ℤ r.low) r.high InHalf (omega (arith, neg-abs r.low, half-low)) half_high

pub half-read : (z : ℤ) → InHalf z → held z ≡ z
half-read z h = to_z-of_z w64 z (fits-abs z (omega (arith, h)))

pub half-passed : (z : ℤ) → InHalf z → InHalf (held z)
half-passed z h = rw (half-read z h) h

-- ---- the radicand
module _ (a b : ℤ) (p : InHalf a) (q : InHalf b) where
  difference-few : nat_abs (a -ℤ b) ≤ 2000000000
  difference-few = omega (arith, add-abs a (neg_ℤ b), neg-abs b)

  pub difference-fits : SFits w64 (a -ℤ b)
  difference-fits = fits-abs (a -ℤ b) (omega (arith, difference-few))

  difference-square : nat_abs ((a -ℤ b) *ℤ (a -ℤ b)) ≤ 4000000000000000000
  difference-square = omega (arith, mul-abs (a -ℤ b) (a -ℤ b), mul-le-mul difference-few difference-few)

  pub difference-square-fits : SFits w64 ((a -ℤ b) *ℤ (a -ℤ b))
  difference-square-fits = fits-abs _ (omega (arith, difference-square))

module _ (m : ℤ) (r : InHalf m) where
  square-few : nat_abs (m *ℤ m) ≤ 1000000000000000000
  square-few = omega (arith, mul-abs m m, mul-le-mul r r)

  pub square-fits : SFits w64 (m *ℤ m)
  square-fits = fits-abs (m *ℤ m) (omega (arith, square-few))

  four-squares : nat_abs (pos 4 *ℤ (m *ℤ m)) ≤ 4000000000000000000
  four-squares = omega (arith, mul-abs (pos 4) (m *ℤ m), square-few)

  pub four-squares-fit : SFits w64 (pos 4 *ℤ (m *ℤ m))
  four-squares-fit = fits-abs _ (omega (arith, four-squares))

module _ (a b m : ℤ) (p : InHalf a) (q : InHalf b) (r : InHalf m) where
  few : nat_abs ((a -ℤ b) *ℤ (a -ℤ b) +ℤ pos 4 *ℤ (m *ℤ m)) ≤ 8000000000000000000
  few = omega (arith, add-abs ((a -ℤ b) *ℤ (a -ℤ b)) (pos 4 *ℤ (m *ℤ m)), difference-square a b p q, four-squares m r)

  pub radicand-fits : SFits w64 ((a -ℤ b) *ℤ (a -ℤ b) +ℤ pos 4 *ℤ (m *ℤ m))
  radicand-fits = fits-abs _ (omega (arith, few))

  pub radicand-few : nat_abs ((a -ℤ b) *ℤ (a -ℤ b) +ℤ pos 4 *ℤ (m *ℤ m)) ≤ 9000000000000000000
  radicand-few = omega (arith, few)

  pub radicand-sign : T (non_neg ((a -ℤ b) *ℤ (a -ℤ b) +ℤ pos 4 *ℤ (m *ℤ m)))
  radicand-sign = sign _ (radicand-nonneg a b m)
    where
      sign : (z : ℤ) → pos 0 ≤ℤ z → T (non_neg z)
      sign (pos n) h = tt
      sign (negsuc n) h = h.le

  pub radicand-unsigned : Fits w64 (nat_abs ((a -ℤ b) *ℤ (a -ℤ b) +ℤ pos 4 *ℤ (m *ℤ m)))
  radicand-unsigned = omega (arith, few)

pub ruleset radicands = (
  difference-fits,
  difference-square-fits,
  square-fits,
  four-squares-fit,
  radicand-fits,
  radicand-few,
  radicand-sign,
  radicand-unsigned,
)

-- ---- the sums before halving: of two ends, and with the root
module _ (a b : ℤ) (p : InHalf a) (q : InHalf b) where
  sum-few : nat_abs (a +ℤ b) ≤ 2000000000
  sum-few = omega (arith, add-abs a b)

  pub ends-fit : SFits w64 (a +ℤ b)
  ends-fit = fits-abs (a +ℤ b) (omega (arith, sum-few))

  module _ (r : ℤ) (s : nat_abs r ≤ 3000000000) where
    pub less-root-few : nat_abs (a +ℤ b -ℤ r) ≤ 5000000000
    less-root-few = omega (arith, add-abs (a +ℤ b) (neg_ℤ r), neg-abs r, sum-few)

    pub less-root-fits : SFits w64 (a +ℤ b -ℤ r)
    less-root-fits = fits-abs _ (omega (arith, less-root-few))

    pub more-root-few : nat_abs (a +ℤ b +ℤ r) ≤ 5000000000
    more-root-few = omega (arith, add-abs (a +ℤ b) r, sum-few)

    pub more-root-fits : SFits w64 (a +ℤ b +ℤ r)
    more-root-fits = fits-abs _ (omega (arith, more-root-few))

pub ruleset halving = (ends-fit, less-root-few, less-root-fits, more-root-few, more-root-fits)

-- and what they are, r being the root of the numbers as they are passed on
module _ (a b m : ℤ) (p : InHalf a) (q : InHalf b) (h : InHalf m) (r : ℤ) (k : nat_abs r ≤ 3000000000)
    (e : r ≡ star_root (held a) (held b) (held m)) where
  root-made : r ≡ star_root a b m
  root-made = e ∙ λ i. star_root (half-read a p i) (half-read b q i) (half-read m h i)

  root-read : held r ≡ r
  root-read = to_z-of_z w64 r (fits-abs r (omega (arith, k)))

  pub low-made : held (held (held a +ℤ held b) -ℤ held r) ≡ a +ℤ b -ℤ star_root a b m
  low-made =
      rw (half-read a p, half-read b q, to_z-of_z w64 (a +ℤ b) (ends-fit a b p q), root-read, to_z-of_z w64 (a +ℤ b -ℤ r) (less-root-fits a b p q r k))
      (ap (λ z. a +ℤ b -ℤ z) root-made)

  pub high-made : held (held (held a +ℤ held b) +ℤ held r) ≡ a +ℤ b +ℤ star_root a b m
  high-made =
      rw (half-read a p, half-read b q, to_z-of_z w64 (a +ℤ b) (ends-fit a b p q), root-read, to_z-of_z w64 (a +ℤ b +ℤ r) (more-root-fits a b p q r k))
      (ap (λ z. a +ℤ b +ℤ z) root-made)

-- ---- halves of a number that is passed on
pub half-shiftable : (x : ℤ) → nat_abs x ≤ 5000000000 → Shiftable (held x) (pos 2) (pos 3000000000)
half-shiftable x h = shiftable x 2 3000000000 (lit< tt) (omega (arith, h)) (lit≤ tt)

module _ {x y : ℤ} (f : SFits w64 x) (g : SFits w64 y) where
  pub halved-down : y ≡ floor_div (held x) 2 → held y ≡ floor_div x 2
  halved-down e = rw (to_z-of_z w64 y g, e, to_z-of_z w64 x f)

  pub halved-up : y ≡ ceil_div (held x) 2 → held y ≡ ceil_div x 2
  halved-up e = rw (to_z-of_z w64 y g, e, to_z-of_z w64 x f)
