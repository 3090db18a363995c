-- What is promised of the call for two boats: proved in proofs/.
use Rattle.std.specs.Prelude.{◌≡◌, ◌↔◌, ◌⊎◌, ℕ, ◌*◌, ◌-◌, ◌≤◌, ◌<◌, ℤ, pos, neg_ℤ, length, take, drop, ◌<ℤ◌}
use mathlib.Core.List.{List, ◌++◌, Memᴰ, map}
use Rattle.std.proofs.Math.Option.{some}
use Rattle.exact.specs.Rat.{◌-ℚ◌, ◌≤ℚ◌}
use Rattle.exact.specs.Units.{units, down, up}
use Rattle.range.specs.declared.Range.{Range}
use Rattle.rules.specs.declared.Refusal as rules
use Rattle.rules.specs.Rate.{rate_numbers}
use Rattle.rules.specs.Refused as Rules
use Rattle.rules.specs.Refused.{range_of}
use Rattle.rules.specs.Exact.{Point, Jet, premium_of}
use Rattle.rules.specs.Promises.{Inside}
use Rattle.rules.specs.Sisters.{least_difference, greatest_difference}
use Rattle.engine.specs.declared.Engine.{Engine}
use Rattle.engine.specs.InFull.{Accepted, Refused}
use Rattle.engine.specs.declared.Refusal.{Refusal}
use Rattle.engine.specs.declared.Refusal.TheVariants.{Rate}
use Rattle.engine.specs.Engine.{number_of, rated_of}
use Rattle.increments.specs.InFull.{Difference}
use Rattle.increments.specs.Call.{first, second, sisters_of}

-- ════ the boats as points ════

-- the boats' values "as u/10,000" (01): the first n numbers, and what follows them
abbrev pub one : ℕ → List ℤ → Point
one n bs = map units (take n bs)

abbrev pub other : ℕ → List ℤ → Point
other n bs = map units (drop n bs)

-- the two boats exchanged
abbrev pub exchanged : ℕ → List ℤ → List ℤ
exchanged n bs = drop n bs ++ take n bs

-- the difference in the other direction
abbrev pub turned : Difference → Difference
turned d = record { outcome = d.outcome; low = neg_ℤ d.high; high = neg_ℤ d.low }

-- ════ the refusals ════

-- the value x is outside the range r
abbrev pub Outside : Range → ℤ → Type 0
Outside r x = (x <ℤ r.low) ⊎ (r.high <ℤ x)

-- of the factor a, counted from 1, the first boat's value or the second's is
abbrev pub BoatOutside : ℕ → List ℤ → List ℤ → ℕ → Type 0
BoatOutside n xs bs a = Outside (range_of xs a) (first bs (a - 1)) ⊎ Outside (range_of xs a) (second n bs (a - 1))

-- a is the lowest factor of which a boat's value is outside
pub record LowestOutside (n : ℕ) (xs bs : List ℤ) (a : ℕ) : Type 0 where
  pub factor : (1 ≤ a) × (a ≤ n)
  pub outside : BoatOutside n xs bs a
  pub lower : (b : ℕ) → 1 ≤ b → b < a → ¬ (BoatOutside n xs bs b)

-- the class is rated, and there are not two numbers per factor
pub record AnotherCount (e : Engine) (xs bs : List ℤ) : Type 0 where
  pub rated : (rated_of e xs).outcome ≡ Accepted
  pub count : ¬ (length bs ≡ 2 * e.codelist.factors)

-- the class is rated, there are two numbers per factor, and a is the lowest factor with a boat outside
pub record AnotherClass (e : Engine) (xs bs : List ℤ) (a : ℕ) : Type 0 where
  pub rated : (rated_of e xs).outcome ≡ Accepted
  pub count : length bs ≡ 2 * e.codelist.factors
  pub lowest : LowestOutside e.codelist.factors xs bs a

-- What each refusal is for: the class's own, as rating has it, and then 8 and 9 of the boats
abbrev pub SistersRefusedFor : Engine → List ℤ → List ℤ → rules.Refusal → Type 0
SistersRefusedFor e xs bs rules.TheVariants.NoCodelist = Rules.RefusedFor e.codelist xs rules.TheVariants.NoCodelist
SistersRefusedFor e xs bs rules.TheVariants.RangeCount = Rules.RefusedFor e.codelist xs rules.TheVariants.RangeCount ⊎ AnotherCount e xs bs
SistersRefusedFor e xs bs (rules.TheVariants.BadRange a) =
    Rules.RefusedFor e.codelist xs (rules.TheVariants.BadRange a) ⊎ AnotherClass e xs bs a
SistersRefusedFor e xs bs (rules.TheVariants.Divisor k) = Rules.RefusedFor e.codelist xs (rules.TheVariants.Divisor k)
SistersRefusedFor e xs bs (rules.TheVariants.Overflow k) = Rules.RefusedFor e.codelist xs (rules.TheVariants.Overflow k)

-- ════ what holds of an accepted call ════

-- "The exact difference of their premiums": both have a premium, and the answer's ends bound their difference
pub record Bounded (e : Engine) (xs bs : List ℤ) : Type 0 where
  pub first : Jet
  pub second : Jet
  pub is-first : premium_of e.codelist (one e.codelist.factors bs) ≡ some first
  pub is-second : premium_of e.codelist (other e.codelist.factors bs) ≡ some second
  pub low : units (sisters_of e xs bs).low ≤ℚ second.value -ℚ first.value
  pub high : second.value -ℚ first.value ≤ℚ units (sisters_of e xs bs).high

-- The answer is the two sums of `Sisters`, rounded outward and no further
pub record Exact (e : Engine) (xs bs : List ℤ) : Type 0 where
  pub low : (sisters_of e xs bs).low
      ≡ down (least_difference e.codelist.factors (rated_of e xs).limits.gradient (one e.codelist.factors bs) (other e.codelist.factors bs))
  pub high : (sisters_of e xs bs).high
      ≡ up (greatest_difference e.codelist.factors (rated_of e xs).limits.gradient (one e.codelist.factors bs) (other e.codelist.factors bs))

-- The class is rated, there are two numbers per factor, and both boats are inside
pub record OfClass (e : Engine) (xs bs : List ℤ) : Type 0 where
  pub rated : (rated_of e xs).outcome ≡ Accepted
  pub count : length bs ≡ 2 * e.codelist.factors
  pub first : Inside e.codelist xs (one e.codelist.factors bs)
  pub second : Inside e.codelist xs (other e.codelist.factors bs)

-- ════ ALL OF IT ════

pub record SistersCall : Type 0 where
  -- the buyer's first demand
  pub decided : (e : Engine) (xs bs : List ℤ)
      → ((sisters_of e xs bs).outcome ≡ Accepted) ⊎ ((r : rules.Refusal) × ((sisters_of e xs bs).outcome ≡ Refused (Rate r)))
  pub numbers : (e : Engine) (xs bs : List ℤ) (r : Refusal) → (sisters_of e xs bs).outcome ≡ Refused r → Memᴰ (number_of r) rate_numbers
  pub zero : (e : Engine) (xs bs : List ℤ) (r : Refusal) → (sisters_of e xs bs).outcome ≡ Refused r
      → ((sisters_of e xs bs).low ≡ pos 0) × ((sisters_of e xs bs).high ≡ pos 0)
  -- the second: what is accepted, and what each refusal says of the engine, the ranges and the boats, one alone
  pub inside : (e : Engine) (xs bs : List ℤ) → ((sisters_of e xs bs).outcome ≡ Accepted) ↔ OfClass e xs bs
  pub refused-listed : (e : Engine) (xs bs : List ℤ) (r : rules.Refusal)
      → ((sisters_of e xs bs).outcome ≡ Refused (Rate r)) ↔ SistersRefusedFor e xs bs r
  pub one-refusal : (e : Engine) (xs bs : List ℤ) (q r : rules.Refusal) → SistersRefusedFor e xs bs q → SistersRefusedFor e xs bs r → q ≡ r
  pub exact : (e : Engine) (xs bs : List ℤ) → (sisters_of e xs bs).outcome ≡ Accepted → Exact e xs bs
  -- the third: "the exact difference of their premiums lies between"
  pub holds : (e : Engine) (xs bs : List ℤ) → (sisters_of e xs bs).outcome ≡ Accepted → Bounded e xs bs
  -- the same boat twice: no difference
  pub equal : (e : Engine) (xs b : List ℤ) → ((sisters_of e xs (b ++ b)).low ≡ pos 0) × ((sisters_of e xs (b ++ b)).high ≡ pos 0)
  -- the two boats exchanged: the difference in the other direction
  pub exchanged : (e : Engine) (xs bs : List ℤ) → sisters_of e xs (exchanged e.codelist.factors bs) ≡ turned (sisters_of e xs bs)
