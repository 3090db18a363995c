-- 02, request 7, "The sister boats", as a call for two boats in whole units: "the exact difference of their premiums lies between the sum of the
-- least and the sum of the greatest products of each slope's ends with that factor's difference." docs/DECISIONS.md, "The sister boats".
use Rattle.std.specs.Prelude.{Bool, ◌&&◌, cond, List, ℕ, zero, suc, ◌+◌, ◌*◌, eqb, ℤ, pos, ◌+ℤ◌, ◌-ℤ◌, ◌*ℤ◌, length, get_or}
use Rattle.std.specs.Int.Signed.{le_z}
use Rattle.std.specs.declared.result.Result.{Result}
use Rattle.std.specs.declared.result.Result.TheVariants.{Ok, Err}
use Rattle.algebra.specs.Sum.{sum_below}
use Rattle.exact.specs.Div.{floor_div, ceil_div}
use Rattle.range.specs.declared.Range.{Range}
use Rattle.range.specs.Arithmetic.{lesser_of, greater_of}
use Rattle.range.specs.Sums.{at}
use Rattle.rules.specs.declared.Refusal.TheVariants.{RangeCount, BadRange}
use Rattle.rules.specs.Rate.{pairs}
use Rattle.engine.specs.declared.Engine.{Engine}
use Rattle.engine.specs.InFull.{Outcome}
use Rattle.engine.specs.InFull.{Accepted, Refused}
use Rattle.engine.specs.declared.Refusal.{Refusal}
use Rattle.engine.specs.declared.Refusal.TheVariants.{Rate}
use Rattle.engine.specs.Engine.{rated_of}
use Rattle.increments.specs.InFull.{Difference}

-- ════ the boats ════

-- n values of the first boat, then n of the second, in units. Factors are counted from 0.
abbrev pub first : List ℤ → ℕ → ℤ
first bs a = get_or bs a (pos 0)

abbrev pub second : ℕ → List ℤ → ℕ → ℤ
second n bs a = get_or bs (n + a) (pos 0)

-- "that factor's difference": the second boat's value less the first's
abbrev pub apart_by : ℕ → List ℤ → ℕ → ℤ
apart_by n bs a = second n bs a -ℤ first bs a

-- "both inside": the value x is in the range r, ends included
unfoldable pub holds : Range → ℤ → Bool
holds r x = le_z r.low x && le_z x r.high

-- the lowest factor from a on, of k, of which a boat's value is outside, counted from 1; 0 if there is none
unfoldable pub outside_from : ℕ → List Range → List ℤ → ℕ → ℕ → ℕ
outside_from n rs bs a zero = 0
outside_from n rs bs a (suc k) =
    cond (holds (at rs a) (first bs a) && holds (at rs a) (second n bs a)) (outside_from n rs bs (suc a) k) (suc a)

unfoldable pub first_outside : ℕ → List Range → List ℤ → ℕ
first_outside n rs bs = outside_from n rs bs 0 n

-- ════ the difference ════

-- "the sum of the least and the sum of the greatest products of each slope's ends with that factor's difference"
unfoldable pub least_sum : ℕ → List Range → List ℤ → ℤ
least_sum n g bs = sum_below (pos 0) ◌+ℤ◌ n (λ a. lesser_of ((at g a).low *ℤ apart_by n bs a) ((at g a).high *ℤ apart_by n bs a))

unfoldable pub greatest_sum : ℕ → List Range → List ℤ → ℤ
greatest_sum n g bs = sum_below (pos 0) ◌+ℤ◌ n (λ a. greater_of ((at g a).low *ℤ apart_by n bs a) ((at g a).high *ℤ apart_by n bs a))

-- in units, each sum rounded outward, once
abbrev pub difference_of : ℕ → List Range → List ℤ → Difference
difference_of n g bs = record {
  outcome = Accepted;
  low = floor_div (least_sum n g bs) 10000;
  high = ceil_div (greatest_sum n g bs) 10000;
}

-- ════ the call ════

-- a refusal: both ends are 0
abbrev pub refused_with : Refusal → Difference
refused_with r = record { outcome = Refused r; low = pos 0; high = pos 0 }

-- the code's answer in full: the two ends
abbrev pub in_full : Result Range Refusal → Difference
in_full (Ok r) = record { outcome = Accepted; low = r.low; high = r.high }
in_full (Err r) = refused_with r

-- 9 at the lowest factor with a boat outside
abbrev pub unless_outside : ℕ → Difference → Difference
unless_outside zero d = d
unless_outside (suc a) d = refused_with (Rate (BadRange (suc a)))

-- of the n ranges and slopes of a rated class: 8 where there are not two numbers per factor, then 9
unfoldable pub boats_of : ℕ → List Range → List Range → List ℤ → Difference
boats_of n rs g bs =
    cond (eqb (length bs) (2 * n))
    (unless_outside (first_outside n rs bs) (difference_of n g bs))
    (refused_with (Rate RangeCount))

abbrev pub unless_refused : Outcome → Difference → Difference
unless_refused Accepted d = d
unless_refused (Refused r) d = refused_with r

-- THE CALL: the class's own refusal first, as rating gives it; without limits there is nothing to say of boats
unfoldable pub sisters_of : Engine → List ℤ → List ℤ → Difference
sisters_of e xs bs = unless_refused (rated_of e xs).outcome (boats_of e.codelist.factors (pairs xs) (rated_of e xs).limits.gradient bs)
