-- The figures of the fleet page, over the ratings of its boats. 02, request 3.
use Rattle.std.specs.Prelude.{Bool, true, false, ◌&&◌, cond, List, [], ◌∷◌, map, ℕ, zero, suc, eqb, ℤ, pos, ◌+ℤ◌, length}
use Rattle.std.specs.Int.Signed.{le_z}
use Rattle.engine.specs.declared.Engine.{Engine}
use Rattle.engine.specs.InFull.{Outcome}
use Rattle.engine.specs.InFull.{Accepted, Refused}
use Rattle.engine.specs.InFull.{Rating}
use Rattle.engine.specs.Engine.{number_of}
use Rattle.boats.specs.declared.Report.{Report}
use Rattle.boats.specs.Boats.{ratings_of}

-- ════ lists ════

abbrev pub kept : Bool → Rating → List Rating → List Rating
kept true r rs = r ∷ rs
kept false r rs = rs

-- those of which the test is true
abbrev pub filter : (Rating → Bool) → List Rating → List Rating
filter p [] = []
filter p (r ∷ rs) = kept (p r) r (filter p rs)

abbrev pub count : (Rating → Bool) → List Rating → ℕ
count p rs = length (filter p rs)

abbrev pub sum : List ℤ → ℤ
sum [] = pos 0
sum (x ∷ xs) = x +ℤ sum xs

abbrev pub all : (Rating → Bool) → List Rating → Bool
all p [] = true
all p (r ∷ rs) = p r && all p rs

-- one place further back, if there is one
abbrev pub further : ℕ → ℕ
further zero = zero
further (suc k) = suc (suc k)

-- the position, from 1, of the first of which the test is true; 0 if there is none
abbrev pub position : (Rating → Bool) → List Rating → ℕ
position p [] = 0
position p (r ∷ rs) = cond (p r) 1 (further (position p rs))

-- ════ ratings ════

abbrev pub accepts : Outcome → Bool
accepts Accepted = true
accepts (Refused r) = false

abbrev pub refuses : ℕ → Outcome → Bool
refuses n Accepted = false
refuses n (Refused r) = eqb (number_of r) n

abbrev pub is_accepted : Rating → Bool
is_accepted r = accepts r.outcome

abbrev pub is_refused : ℕ → Rating → Bool
is_refused n r = refuses n r.outcome

abbrev pub low_end : Rating → ℤ
low_end r = r.limits.value.low

abbrev pub high_end : Rating → ℤ
high_end r = r.limits.value.high

-- q, if it is accepted, has no greater high end than r
abbrev pub at_most : Rating → Rating → Bool
at_most r q = cond (is_accepted q) (le_z (high_end q) (high_end r)) true

-- r is accepted, and no accepted one of rs has a greater high end
unfoldable pub leads : List Rating → Rating → Bool
leads rs r = is_accepted r && all (at_most r) rs

-- ════ THE REPORT ════

-- "the number accepted, the number refused under each of 9, 11 and 12, the exact sums of the low and of the high value ends of accepted boats,
-- and the position, from 1, of the first accepted boat with the greatest high end (0 if none)"
unfoldable pub figures_of : List Rating → Report
figures_of rs = record {
  accepted = count is_accepted rs;
  range = count (is_refused 9) rs;
  divisor = count (is_refused 11) rs;
  limit = count (is_refused 12) rs;
  low = sum (map low_end (filter is_accepted rs));
  high = sum (map high_end (filter is_accepted rs));
  greatest = position (leads rs) rs;
}

abbrev pub report_of : Engine → List (List ℤ) → Report
report_of e bs = figures_of (ratings_of e bs)
