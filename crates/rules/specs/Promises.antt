-- What is promised of the limits of a class: the buyer's third demand, proved in proofs/Sound.antt; what 01 says of every point that has a
-- premium, proved in proofs/Vanishing.antt; and what it says of the limits apart from any point, proved in proofs/Shaped.antt.
use Rattle.std.specs.Prelude.{◌≡◌, cond, List, ℕ, ◌≤◌, ◌<◌, T, ℤ, pos, get_or, length}
use Rattle.std.proofs.Math.Option.{Option, none, some}
use Rattle.codelist.specs.declared.Codelist.{Codelist}
use Rattle.exact.specs.Rat.{ℚ, from_ℤ, ◌*ℚ◌, ◌≤ℚ◌, 0ℚ, sum_ℚ}
use Rattle.exact.specs.Units.{units, In}
use Rattle.range.specs.declared.Range.{Range}
use Rattle.range.specs.Limit.{zero_range}
use Rattle.range.specs.Sums.{has, at}
use Rattle.rules.specs.declared.Limits.{Limits}
use Rattle.rules.specs.Rate.{rated, pairs, rate_of}
use Rattle.rules.specs.Exact.{Point, coordinate, Jet, exact_lines, premium_of}

-- "it is inside the ranges if 10,000 times each coordinate lies between that factor's low and high, ends included": here the coordinate
-- itself lies between low/10,000 and high/10,000 ("An end of u units is compared as u/10,000"), which is the same. Factors are counted from
-- 0.
pub record Inside (c : Codelist) (xs : List ℤ) (p : Point) : Type 0 where
  pub each : (a : ℕ) → a < c.factors → In (at (pairs xs) a).low (at (pairs xs) a).high (coordinate p a)

-- the same coordinates in the set s
pub record Agree (s : ℕ) (p q : Point) : Type 0 where
  pub each : (a : ℕ) → T (has s a) → coordinate p a ≡ coordinate q a

-- whole numbers, one per factor, as rational numbers
abbrev pub entry : List ℤ → ℕ → ℚ
entry v a = from_ℤ (get_or v a (pos 0))

-- "v'Hv is the sum of v_a·H_ab·v_b over all ordered pairs a, b, equal ones included", of n factors
unfoldable pub quadratic : ℕ → (ℕ → ℕ → ℚ) → List ℤ → ℚ
quadratic n H v = sum_ℚ n (λ a. sum_ℚ n (λ b. entry v a *ℚ H a b *ℚ entry v b))

-- the sum of the squares of v over the set s, and over all n factors
unfoldable pub squares_in : ℕ → ℕ → List ℤ → ℚ
squares_in n s v = sum_ℚ n (λ a. cond (has s a) (entry v a *ℚ entry v a) 0ℚ)

unfoldable pub squares_all : ℕ → List ℤ → ℚ
squares_all n v = sum_ℚ n (λ a. entry v a *ℚ entry v a)

-- y lies between the ends of r, each times q
pub record Between (r : Range) (q y : ℚ) : Type 0 where
  pub low : units r.low *ℚ q ≤ℚ y
  pub high : y ≤ℚ units r.high *ℚ q

-- a line has a value
abbrev pub HasValue : Option Jet → Type 0
HasValue none = ⊥
HasValue (some j) = Unit

-- WHAT HOLDS AT A POINT inside the ranges
pub record Sound (c : Codelist) (l : Limits) (p : Point) : Type 0 where
  -- "no divisor is zero": every line has a value, also one that is not used
  pub divisors : (k : ℕ) → k < length (exact_lines c p) → HasValue (get_or (exact_lines c p) k none)
  -- "the exact premium lies within the value range and each exact first derivative between the slope ends of its factor"
  pub premium : Jet
  pub is-premium : premium_of c p ≡ some premium
  pub value : In l.value.low l.value.high premium.value
  pub gradient : (a : ℕ) → a < c.factors → In (at l.gradient a).low (at l.gradient a).high (premium.first a)
  -- "every other point, inside or not, with the same coordinates in the depends-on set has the same premium"
  pub support : (q : Point) → Agree l.support p q → (other : Jet) × ((premium_of c q ≡ some other) × (other.value ≡ premium.value))
  -- "and with the same in the bent set the same first derivatives"
  pub nonlinear : (q : Point) → Agree l.nonlinear p q
      → (other : Jet) × ((premium_of c q ≡ some other) × ((a : ℕ) → a < c.factors → other.first a ≡ premium.first a))
  -- "Outside P the exact first derivative is 0; outside B every exact second derivative with that factor is 0."
  pub outside-support : (a : ℕ) → ¬ (T (has l.support a)) → premium.first a ≡ 0ℚ
  pub outside-nonlinear : (a b : ℕ) → ¬ (T (has l.nonlinear a)) → (premium.second a b ≡ 0ℚ) × (premium.second b a ≡ 0ℚ)
  -- "v'Hv lies between the bend ends times the sum of the squares of v over the bent set"
  pub spectrum : (v : List ℤ) → Between l.spectrum (squares_in c.factors l.nonlinear v) (quadratic c.factors premium.second v)
  -- "and between the full ends times that sum over all factors"
  pub full : (v : List ℤ) → Between l.full (squares_all c.factors v) (quadratic c.factors premium.second v)

-- THE PROMISE: ranges that are rated are sound at every point inside.
abbrev pub SoundRating : Type 0
SoundRating = (c : Codelist) (xs : List ℤ) (l : Limits) → rate_of c xs ≡ rated l → (p : Point) → Inside c xs p → Sound c l p

-- WHAT HOLDS AT EVERY POINT that has a premium, inside the ranges or not: "Outside P the exact first derivative is 0; outside B every exact second
-- derivative with that factor is 0."
pub record Vanishing (l : Limits) (premium : Jet) : Type 0 where
  pub outside-support : (a : ℕ) → ¬ (T (has l.support a)) → premium.first a ≡ 0ℚ
  pub outside-nonlinear : (a b : ℕ) → ¬ (T (has l.nonlinear a)) → (premium.second a b ≡ 0ℚ) × (premium.second b a ≡ 0ℚ)

abbrev pub VanishingRating : Type 0
VanishingRating =
    (c : Codelist) (xs : List ℤ) (l : Limits) → rate_of c xs ≡ rated l → (p : Point) (premium : Jet) → premium_of c p ≡ some premium
    → Vanishing l premium

-- WHAT THE LIMITS ARE APART FROM ANY POINT
pub record Shaped (c : Codelist) (l : Limits) : Type 0 where
  -- "a pair beyond the last factor is 0, 0"; and so is one outside P
  pub beyond-factors : (a : ℕ) → c.factors ≤ a → a < 8 → at l.gradient a ≡ zero_range
  pub outside-support : (a : ℕ) → a < 8 → ¬ (T (has l.support a)) → at l.gradient a ≡ zero_range
  -- "For an empty B, E is zero."
  pub empty-nonlinear : l.nonlinear ≡ 0 → l.spectrum ≡ zero_range
  -- both sets are sets of the codelist's factors
  pub support-factors : (a : ℕ) → T (has l.support a) → a < c.factors
  pub nonlinear-factors : (a : ℕ) → T (has l.nonlinear a) → a < c.factors

abbrev pub ShapedRating : Type 0
ShapedRating = (c : Codelist) (xs : List ℤ) (l : Limits) → rate_of c xs ≡ rated l → Shaped c l
