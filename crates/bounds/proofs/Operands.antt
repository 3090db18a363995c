-- Operations whose operands are known to be valid: what the sticky ones test holds, and the ends of the result are in order. And that the
-- order of its ends tells whether what an operation gives is valid. Assumes nothing.
use mathlib.Core.Path.{◌≡◌, sym, ap₂, ◌∙◌}
use mathlib.Core.Bool.{Bool, true, false, ◌&&◌}
use mathlib.Core.List.{List}
use mathlib.Core.Logic.{inl, inr}
use Prim.Native.Nat.{ℕ}
use lib.Dec.{eqb}
use lib.Signed.{le_z}
use Rattle.range.specs.declared.Range.{Range}
use Rattle.range.specs.Limit.{least, most, zero_range, over, is_valid, both_valid, kept, sticky₂}
use Rattle.range.specs.Arithmetic.{ends_sum, sum_of, times_of, spread_of, product_of, inverse_of, hull_of}
use Rattle.range.specs.Power.{pow_of}
use Rattle.range.specs.Star.{star_of}
use Rattle.range.specs.Laws.{Settled}
use Rattle.range.proofs.Valid.{T_true, true-T, both-valid, if-passed, by-test, ends-of}
use Rattle.range.proofs.Fitting.{and_first, and_second}
use Rattle.range.proofs.Ordered.{sum-ordered, spread-ordered}
use Rattle.range.proofs.Laws.{laws}
use Rattle.rules.specs.Sets.{apart, is_single}
use Rattle.bounds.specs.Terms.{Told, extended_of, sum_spectrum_of, cross_spectrum_of}

pub untested : (f : Range → Range → Range) (a b : Range) → is_valid a ≡ true → is_valid b ≡ true → kept (f a b) ≡ sticky₂ f a b
untested f a b v w = sym (if-passed (both_valid a b) (kept (f a b)) over (both-valid a b (true-T v) (true-T w)))

-- s and t are the flags that a test of each left
pub both-tested : {s t : Bool} (a b : Range) → s ≡ is_valid a → t ≡ is_valid b → (s && t) ≡ both_valid a b
unfolding both_valid
both-tested a b p q = ap₂ ◌&&◌ p q

-- ---- ends that are in order: the limit alone decides whether they are kept
abbrev pub InOrder : Range → Type 0
InOrder r = le_z r.low r.high ≡ true

-- s is the flag that a test of the limit left
module _ (r : Range) (o : InOrder r) {s : Bool} where
  pub within-limit : s ≡ true → s ≡ (le_z least r.low && le_z r.high most) → r ≡ kept r
  unfolding kept is_valid
  within-limit t e = rw (o, sym e ∙ t)

  pub beyond-limit : s ≡ false → s ≡ (le_z least r.low && le_z r.high most) → over ≡ kept r
  unfolding kept is_valid
  beyond-limit t e = rw (o, sym e ∙ t)

pub sum-in-order : (a b : Range) → is_valid a ≡ true → is_valid b ≡ true → InOrder (ends_sum a b)
sum-in-order a b v w = T_true (sum-ordered a b (ends-of a (true-T v)).order (ends-of b (true-T w)).order).le

pub spread-in-order : (a b : Range) → InOrder (spread_of a b)
spread-in-order a b = T_true (spread-ordered a b).le

-- ---- what an operation gives
pub settled-told : (r : Range) → Settled r → Told r
unfolding is_valid
settled-told r (inl v) =
    let order = le_z r.low r.high in
    let below = le_z r.high most in
    v ∙ sym (and_first order below (and_second (le_z least r.low) (order && below) v))
settled-told r (inr e) = rw e

pub told-sum : (a b : Range) → Told (sum_of a b)
told-sum a b = settled-told (sum_of a b) (laws.closure.sum a b)

pub told-product : (a b : Range) → Told (product_of a b)
told-product a b = settled-told (product_of a b) (laws.closure.product a b)

pub told-times : (k : ℕ) (a : Range) → Told (times_of k a)
told-times k a = settled-told (times_of k a) (laws.closure.multiple k a)

pub told-hull : (a b : Range) → Told (hull_of a b)
told-hull a b = settled-told (hull_of a b) (laws.closure.hull a b)

pub told-power : (a : Range) (e : ℕ) → Told (pow_of a e)
told-power a e = settled-told (pow_of a e) (laws.closure.power a e)

pub told-inverse : (a : Range) → Told (inverse_of a)
told-inverse a = settled-told (inverse_of a) (laws.closure.inverse a)

pub told-star : (a b c : Range) → Told (star_of a b c)
told-star a b c = settled-told (star_of a b c) (laws.closure.star a b c)

pub told-valid : (r : Range) → is_valid r ≡ true → Told r
told-valid r v = settled-told r (inl v)

-- ---- spectra: an operand, or what an operation gives
pub told-extended : (e : Range) (b c : ℕ) → Told e → Told (extended_of e b c)
told-extended e b c t = by-test Told (eqb b c) (λ _. t) (λ _. told-hull e zero_range)

pub told-sum-spectrum : (e : Range) (b : ℕ) (f : Range) (c : ℕ) → Told (sum_spectrum_of e b f c)
told-sum-spectrum e b f c = by-test Told (apart b c) (λ _. told-hull e f) (λ _. told-sum _ _)

pub told-cross-spectrum : (s : ℕ) (g h : List Range) → Told (cross_spectrum_of s g h)
told-cross-spectrum s g h = by-test Told (is_single s) (λ _. told-times 2 _) (λ _. told-sum _ _)
