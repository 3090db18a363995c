-- Rating: refusals 8 to 12 in their order, and the result. 01, "Refusals that come from the state", "Rating: 10, 8, 9 (lowest factor), then
-- codelist lines in order, 11 before 12", and "What the engine takes and gives".
use Rattle.std.specs.Prelude.{cond, List, [], ◌∷◌, ℕ, suc, zero, ◌*◌, eqb, ℤ, length}
use Rattle.std.specs.declared.result.Result.{Result}
use Rattle.std.specs.declared.result.Result.TheVariants.{Ok, Err}
use Rattle.codelist.specs.declared.Codelist.{Codelist}
use Rattle.codelist.specs.Codelist.{ratable}
use Rattle.range.specs.declared.Range.{Range}
use Rattle.range.specs.Limit.{from_to, zero_range, is_valid}
use Rattle.rules.specs.declared.Line.{Line}
use Rattle.rules.specs.declared.Refusal.{Refusal}
use Rattle.rules.specs.declared.Refusal.TheVariants.{NoCodelist, RangeCount, BadRange, Divisor, Overflow}
use Rattle.rules.specs.InFull.{Rated, Refused}
use Rattle.rules.specs.declared.Limits.{Limits}
use Rattle.rules.specs.InFull.{Rating}
use Rattle.rules.specs.Formula.{given, sticky}
use Rattle.rules.specs.Sets.{none, all_of}
use Rattle.rules.specs.Table.{extended, eight}
use Rattle.rules.specs.Run.{no_line, Lines, through, stopped, lines_of}

-- 01's number and place of each refusal
abbrev pub number_of : Refusal → ℕ
number_of NoCodelist = 10
number_of RangeCount = 8
number_of (BadRange a) = 9
number_of (Divisor k) = 11
number_of (Overflow k) = 12

abbrev pub place_of : Refusal → ℕ
place_of NoCodelist = 0
place_of RangeCount = 0
place_of (BadRange a) = a
place_of (Divisor k) = k
place_of (Overflow k) = k

-- The numbers of rating, in the order of checking
abbrev pub rate_numbers : List ℕ
rate_numbers = 10 ∷ 8 ∷ 9 ∷ 11 ∷ 12 ∷ []

-- ════ the result ════

-- "The result is that of the last line."
unfoldable pub last : List Line → Line
last [] = no_line
last (l ∷ []) = l
last (l ∷ m ∷ ls) = last (m ∷ ls)

-- "The full bend is E lifted to all factors", of which there are n. This hull passes no limit where E does not (`full-within`), so it is not
-- refused.
unfoldable pub limits_of : ℕ → Line → Limits
limits_of n l = record {
  value = l.value;
  gradient = l.gradient;
  support = l.support;
  nonlinear = l.nonlinear;
  spectrum = l.spectrum;
  full = sticky (extended (given l.spectrum) l.nonlinear (all_of n));
}

abbrev pub rated : Limits → Rating
rated l = record { outcome = Rated; limits = l }

-- "A refusal carries number and place, every other field is 0"
unfoldable pub no_limits : Limits
no_limits = record {
  value = zero_range;
  gradient = eight (λ a. zero_range);
  support = none;
  nonlinear = none;
  spectrum = zero_range;
  full = zero_range;
}

abbrev pub refused : Refusal → Rating
refused r = record { outcome = Refused r; limits = no_limits }

-- The code's answer in full: "A refusal carries number and place, every other field is 0"
abbrev pub in_full : Result Limits Refusal → Rating
in_full (Ok l) = rated l
in_full (Err r) = refused r

-- ════ rating ════

-- two numbers a range, low and high
abbrev pub pairs : List ℤ → List Range
pairs [] = []
pairs (l ∷ []) = []
pairs (l ∷ h ∷ xs) = from_to l h ∷ pairs xs

abbrev pub finished : ℕ → Lines → Rating
finished n (through ls) = rated (limits_of n (last ls))
finished n (stopped r) = refused r

-- 9: the lowest factor, counted from a, whose ends are out of order or beyond the limit; 0 if there is none
unfoldable pub first_bad : ℕ → List Range → ℕ
first_bad a [] = 0
first_bad a (r ∷ rs) = cond (is_valid r) (first_bad (suc a) rs) a

-- the ranges of a codelist's factors, by the lowest bad one
unfoldable pub rate_ranges : Codelist → List Range → ℕ → Rating
rate_ranges c rs zero = finished c.factors (lines_of c rs)
rate_ranges c rs (suc a) = refused (BadRange (suc a))

-- RATING. A codelist that is not ratable, as that of an empty engine, counts as none.
unfoldable pub rate_of : Codelist → List ℤ → Rating
rate_of c xs =
    cond (ratable c)
    (cond (eqb (length xs) (2 * c.factors)) (rate_ranges c (pairs xs) (first_bad 1 (pairs xs))) (refused RangeCount))
    (refused NoCodelist)
