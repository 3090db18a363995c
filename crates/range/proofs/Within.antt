-- Ends inside ends, and how a narrower operand's result comes out narrower through a test, a kept result and a sticky operation.
-- Assumes nothing.
use mathlib.Core.Bool.{Bool, true, false, not, cond}
use lib.Dec.{T}
use lib.Signed.{◌≤ℤ◌, ≤ℤ_refl}
use Rattle.algebra.proofs.Int.{≤ℤ-trans}
use Rattle.range.specs.declared.Range.{Range}
use Rattle.range.specs.Limit.{over, is_valid, both_valid, kept, sticky₁, sticky₂}
use Rattle.range.specs.Laws.{ValidInside, ◌⊑◌}
use Rattle.range.proofs.Valid.{ends-of, valid-of, both_left, both_right, both-valid, over-invalid}

-- a's ends are in order and between b's, whether these count or not
pub record Within (a b : Range) : Type 0 where
  pub low : b.low ≤ℤ a.low
  pub order : a.low ≤ℤ a.high
  pub high : a.high ≤ℤ b.high

module _ {a b : Range} where
  pub within-inside : Within a b → T (is_valid b) → ValidInside a b
  within-inside w t =
      let e = ends-of b t in
      record {
        valid = valid-of a (record { above = ≤ℤ-trans e.above w.low; order = w.order; below = ≤ℤ-trans w.high e.below });
        low = w.low;
        high = w.high;
      }

  pub within-⊑ : Within a b → a ⊑ b
  within-⊑ w = record { inside = within-inside w }

  pub within_of : a ⊑ b → T (is_valid b) → Within a b
  within_of n t = let i = n.inside t in record { low = i.low; order = (ends-of a i.valid).order; high = i.high }

pub ⊑_refl : (a : Range) → a ⊑ a
⊑_refl a = record { inside = λ t. record { valid = t; low = ≤ℤ_refl a.low; high = ≤ℤ_refl a.high } }

-- nothing is asked of a result that does not count
pub below-over : (a : Range) → a ⊑ over
below-over a = record { inside = λ t. absurd (over-invalid t) }

-- ---- through a test: the narrower passes where the wider does
pub if-isotone : {x y : Range} (p q : Bool) → (T q → T p) → (T q → x ⊑ y) → cond p x over ⊑ cond q y over
if-isotone true true f g = g tt
if-isotone false true f g = absurd (f tt)
if-isotone {x} p false f g = below-over (cond p x over)

-- and where the test refuses
pub unless-isotone : {x y : Range} (p q : Bool) → (T (is_valid y) → T p → T q) → (T (not q) → x ⊑ y) → cond p over x ⊑ cond q over y
unless-isotone {x} p true f g = below-over (cond p over x)
unless-isotone false false f g = g tt
unless-isotone true false f g = record { inside = λ t. absurd (f t tt) }

pub kept-isotone : {x y : Range} → Within x y → kept x ⊑ kept y
unfolding kept
kept-isotone {x} {y} w = if-isotone (is_valid x) (is_valid y) (λ t. (within-inside w t).valid) (λ t. within-⊑ w)

-- ---- through a sticky operation
module _ (f : Range → Range) {a c : Range} where
  pub sticky₁-isotone : (Within a c → Within (f a) (f c)) → a ⊑ c → sticky₁ f a ⊑ sticky₁ f c
  sticky₁-isotone g n = if-isotone (is_valid a) (is_valid c) (λ t. (n.inside t).valid) (λ t. kept-isotone (g (within_of n t)))

module _ (f : Range → Range → Range) {a b c d : Range} where
  pub sticky₂-isotone : (Within a c → Within b d → Within (f a b) (f c d)) → a ⊑ c → b ⊑ d → sticky₂ f a b ⊑ sticky₂ f c d
  sticky₂-isotone g m n =
      if-isotone (both_valid a b) (both_valid c d)
      (λ t. both-valid a b (m.inside (both_left c d t)).valid (n.inside (both_right c d t)).valid)
      (λ t. kept-isotone (g (within_of m (both_left c d t)) (within_of n (both_right c d t))))
