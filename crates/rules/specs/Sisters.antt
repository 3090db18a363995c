-- 02, request 7, "The sister boats": "For two boats with fractions as factor values, both inside accepted ranges of one class, the exact
-- difference of their premiums lies between the sum of the least and the sum of the greatest products of each slope's ends with that
-- factor's difference." Proved in proofs/Sisters.antt: `sisters`.
use Rattle.std.specs.Prelude.{◌≡◌, refl, cond, List, [], ◌∷◌, ℕ, ℤ, pos, neg_ℤ}
use Rattle.std.proofs.Math.Option.{some}
use Rattle.algebra.specs.Sum.{sum_below}
use Rattle.codelist.specs.declared.Codelist.{Codelist}
use Rattle.exact.specs.Rat.{ℚ, ratio, from_ℤ, sound, ◌+ℚ◌, ◌-ℚ◌, ◌*ℚ◌, neg_ℚ, sum_ℚ, ◌≤ℚ◌, le_q}
use Rattle.exact.specs.Units.{units}
use Rattle.range.specs.declared.Range.{Range}
use Rattle.range.specs.Limit.{from_to}
use Rattle.range.specs.Sums.{at}
use Rattle.rules.specs.declared.Limits.{Limits}
use Rattle.rules.specs.Rate.{rated, rate_of}
use Rattle.rules.specs.Exact.{Point, coordinate, Jet, premium_of}
use Rattle.rules.specs.Promises.{Inside}

-- "that factor's difference": from the boat p to the boat q
abbrev pub difference : Point → Point → ℕ → ℚ
difference p q a = coordinate q a -ℚ coordinate p a

-- "the least and the greatest products of each slope's ends with that factor's difference"
unfoldable pub least_product : Range → ℚ → ℚ
least_product g d = let x = units g.low *ℚ d in let y = units g.high *ℚ d in cond (le_q x y) x y

unfoldable pub greatest_product : Range → ℚ → ℚ
greatest_product g d = let x = units g.low *ℚ d in let y = units g.high *ℚ d in cond (le_q x y) y x

-- "the sum of the least and the sum of the greatest products", over n factors with the slopes g
unfoldable pub least_difference : ℕ → List Range → Point → Point → ℚ
least_difference n g p q = sum_ℚ n (λ a. least_product (at g a) (difference p q a))

unfoldable pub greatest_difference : ℕ → List Range → Point → Point → ℚ
greatest_difference n g p q = sum_ℚ n (λ a. greatest_product (at g a) (difference p q a))

-- WHAT HOLDS OF TWO BOATS: both have a premium, and the two sums bound the difference.
pub record Sisters (c : Codelist) (l : Limits) (p q : Point) : Type 0 where
  pub one : Jet
  pub other : Jet
  pub is_one : premium_of c p ≡ some one
  pub is-other : premium_of c q ≡ some other
  pub least : least_difference c.factors l.gradient p q ≤ℚ other.value -ℚ one.value
  pub greatest : other.value -ℚ one.value ≤ℚ greatest_difference c.factors l.gradient p q

-- "It must hold for plain rating, uncut, and also when the two boats are equal or differ in all factors": nothing is asked of p and q but
-- that both are inside.
abbrev pub SisterBoats : Type 0
SisterBoats = (c : Codelist) (xs : List ℤ) (l : Limits) → rate_of c xs ≡ rated l
    → (p q : Point) → Inside c xs p → Inside c xs q → Sisters c l p q

-- ---- a worked example
-- `pow→1→2` on 10000..30000 has the slopes 20000..60000 (01, "Figures to hold it to"). The premiums of boats at 1 and 3 are 1 and 9: their
-- difference 8 lies between 4 and 12, and the difference the other way, −8, between −12 and −4.
abbrev slopes : List Range
slopes = from_to (pos 20000) (pos 60000) ∷ []

abbrev boat : ℕ → Point
boat f = from_ℤ (pos f) ∷ []

forth : (least_difference 1 slopes (boat 1) (boat 3) ≡ from_ℤ (pos 4)) × (greatest_difference 1 slopes (boat 1) (boat 3) ≡ from_ℤ (pos 12))
unfolding least_difference greatest_difference least_product greatest_product sum_below units ratio from_ℤ ◌+ℚ◌ ◌*ℚ◌ neg_ℚ le_q
forth = (sound (record { cross = refl }), sound (record { cross = refl }))

back : (least_difference 1 slopes (boat 3) (boat 1) ≡ from_ℤ (neg_ℤ (pos 12)))
    × (greatest_difference 1 slopes (boat 3) (boat 1) ≡ from_ℤ (neg_ℤ (pos 4)))
unfolding least_difference greatest_difference least_product greatest_product sum_below units ratio from_ℤ ◌+ℚ◌ ◌*ℚ◌ neg_ℚ le_q
back = (sound (record { cross = refl }), sound (record { cross = refl }))
