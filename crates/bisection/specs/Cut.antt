-- 02, request 6, "Classes cut finer": "Add rating to a depth of 0 to 6."
use Rattle.std.specs.Prelude.{Bool, ◌&&◌, cond, List, [], ◌∷◌, ◌++◌, ℕ, zero, suc, ◌*◌, eqb, ℤ, pos, ◌+ℤ◌, ◌-ℤ◌, nat_abs, length, set}
use Rattle.std.specs.Int.Signed.{lt_z, le_z}
use Rattle.std.specs.declared.result.Result.{Result}
use Rattle.std.specs.declared.result.Result.TheVariants.{Ok, Err}
use Rattle.exact.specs.Div.{floor_div}
use Rattle.codelist.specs.declared.Codelist.{Codelist}
use Rattle.codelist.specs.Codelist.{ratable}
use Rattle.range.specs.declared.Range.{Range}
use Rattle.range.specs.Limit.{from_to}
use Rattle.range.specs.Arithmetic.{ends_hull}
use Rattle.range.specs.Sums.{at}
use Rattle.rules.specs.declared.Refusal as rules
use Rattle.rules.specs.InFull as rating
use Rattle.rules.specs.declared.Limits.{Limits}
use Rattle.rules.specs.InFull.{Rating}
use Rattle.rules.specs.Table.{eight}
use Rattle.rules.specs.Rate as Rate
use Rattle.rules.specs.Rate.{rated, refused, no_limits, pairs, first_bad, rate_ranges}
use Rattle.engine.specs.declared.Engine.{Engine}
use Rattle.bisection.specs.declared.Refusal.{Refusal}
use Rattle.bisection.specs.declared.Refusal.TheVariants as refusal
use Rattle.bisection.specs.InFull.{Outcome}
use Rattle.bisection.specs.InFull.{Accepted, Refused}
use Rattle.bisection.specs.InFull.{Bisected}

-- ════ the cut ════

-- the width of a range: its high end minus its low end
abbrev pub width_of : Range → ℤ
width_of r = r.high -ℤ r.low

-- "the widest range, the lowest factor on equal width": of the ranges from factor i on, the first that is wider than all before, where b is the
-- widest so far and w its width. Factors are counted from 0.
unfoldable pub widest_from : ℕ → ℕ → ℤ → List Range → ℕ
widest_from i b w [] = b
widest_from i b w (r ∷ rs) = cond (lt_z w (width_of r)) (widest_from (suc i) i (width_of r) rs) (widest_from (suc i) b w rs)

unfoldable pub widest : List Range → ℕ
widest [] = 0
widest (r ∷ rs) = widest_from 1 0 (width_of r) rs

abbrev pub widest_range : List Range → Range
widest_range rs = at rs (widest rs)

-- "when the widest range is under 2 units"
unfoldable pub narrow : List Range → Bool
narrow rs = lt_z (width_of (widest_range rs)) (pos 2)

-- "at half the sum of its ends, rounded down": toward minus infinity
unfoldable pub cut_point : Range → ℤ
cut_point r = floor_div (r.low +ℤ r.high) 2

-- the two parts, "both parts keeping the cut point"
unfoldable pub lower_part : List Range → List Range
lower_part rs = set rs (widest rs) (from_to (widest_range rs).low (cut_point (widest_range rs)))

unfoldable pub upper_part : List Range → List Range
upper_part rs = set rs (widest rs) (from_to (cut_point (widest_range rs)) (widest_range rs).high)

-- ════ the answers hulled ════

-- "The answer is the hull of both, end by end." The sets are those of the first, which are those of every part (`SameSetsRating` of rules)
unfoldable pub hull_limits : Limits → Limits → Limits
hull_limits l m = record {
  value = ends_hull l.value m.value;
  gradient = eight (λ a. ends_hull (at l.gradient a) (at m.gradient a));
  support = l.support;
  nonlinear = l.nonlinear;
  spectrum = ends_hull l.spectrum m.spectrum;
  full = ends_hull l.full m.full;
}

-- "A refusal of the lower half comes before one of the upper."
abbrev pub hulled_by : rating.Outcome → Limits → rating.Outcome → Limits → Rating
hulled_by (rating.Refused r) l o m = refused r
hulled_by rating.Rated l (rating.Refused r) m = refused r
hulled_by rating.Rated l rating.Rated m = rated (hull_limits l m)

abbrev pub hulled : Rating → Rating → Rating
hulled x y = hulled_by x.outcome x.limits y.outcome y.limits

-- ════ the parts ════

-- THE RECURSION, of ranges that passed 9. "At depth 0, or when the widest range is under 2 units, the ranges are rated as now"; else "each half is
-- then treated in the same way with one depth fewer"
unfoldable pub parts : ℕ → Codelist → List Range → Rating
parts zero c rs = rate_ranges c rs 0
parts (suc d) c rs = cond (narrow rs) (rate_ranges c rs 0) (hulled (parts d c (lower_part rs)) (parts d c (upper_part rs)))

-- the parts themselves, in order, lower before upper
unfoldable pub leaves : ℕ → List Range → List (List Range)
leaves zero rs = rs ∷ []
leaves (suc d) rs = cond (narrow rs) (rs ∷ []) (leaves d (lower_part rs) ++ leaves d (upper_part rs))

-- the first refusal of some ratings, else the hull of them all
unfoldable pub together : List Rating → Rating
together [] = rated no_limits
together (x ∷ []) = x
together (x ∷ y ∷ ys) = hulled x (together (y ∷ ys))

-- ════ the call ════

-- "A depth outside 0 to 6 gets 16 with place 0"; the others are those of rating
abbrev pub number_of : Refusal → ℕ
number_of refusal.Depth = 16
number_of (refusal.Rate r) = Rate.number_of r

abbrev pub place_of : Refusal → ℕ
place_of refusal.Depth = 0
place_of (refusal.Rate r) = Rate.place_of r

-- the numbers in the order in which they are tested: 16 "between 10 and 8"
abbrev pub cut_numbers : List ℕ
cut_numbers = 10 ∷ 16 ∷ 8 ∷ 9 ∷ 11 ∷ 12 ∷ []

-- a rating of rules, as an answer of this crate
abbrev pub outcome_of : rating.Outcome → Outcome
outcome_of rating.Rated = Accepted
outcome_of (rating.Refused r) = Refused (refusal.Rate r)

abbrev pub answer_of : Rating → Bisected
answer_of x = record { outcome = outcome_of x.outcome; limits = x.limits }

-- a refusal: every other field is 0
abbrev pub refused_with : Refusal → Bisected
refused_with r = record { outcome = Refused r; limits = no_limits }

-- the code's answer in full
abbrev pub in_full : Result Limits Refusal → Bisected
in_full (Ok l) = record { outcome = Accepted; limits = l }
in_full (Err r) = refused_with r

-- "a depth of 0 to 6"
abbrev pub is_depth : ℤ → Bool
is_depth d = le_z (pos 0) d && le_z d (pos 6)

-- "8 and 9 are checked on the uncut ranges": 9 by the lowest bad one, and then the parts
unfoldable pub parts_of : ℕ → Codelist → List Range → ℕ → Rating
parts_of d c rs zero = parts d c rs
parts_of d c rs (suc a) = refused (rules.TheVariants.BadRange (suc a))

-- 8 before them
unfoldable pub counted_of : ℕ → Codelist → List ℤ → Rating
counted_of d c xs =
    cond (eqb (length xs) (2 * c.factors)) (parts_of d c (pairs xs) (first_bad 1 (pairs xs))) (refused rules.TheVariants.RangeCount)

-- RATING IN PARTS: 10, 16, 8, 9 and the parts
unfoldable pub cut_of : Engine → List ℤ → ℤ → Bisected
cut_of e xs d =
    let c = e.codelist in
    cond (ratable c) (cond (is_depth d) (answer_of (counted_of (nat_abs d) c xs)) (refused_with refusal.Depth)) (answer_of (refused rules.TheVariants.NoCodelist))
