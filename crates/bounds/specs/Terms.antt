-- What the private contracts of the crate speak of: the terms of 01's table as functions of ranges, and lines that are handed on.
use Rattle.std.specs.Prelude.{◌≡◌, true, false, cond, List, ℕ}
use Rattle.std.specs.Int.Signed.{le_z}
use Rattle.range.specs.declared.Range.{Range}
use Rattle.range.specs.Limit.{zero_range, is_valid}
use Rattle.range.specs.Sums.{has, at}
use Rattle.rules.specs.declared.Line.{Line}
use Rattle.rules.specs.Formula.{given, sticky}
use Rattle.rules.specs.Table.{extended, spectrum_of_sum, square_spectrum, cross_spectrum, eight}
use Rattle.rules.specs.Run.{within}

-- ════ spectra ════
-- 01's lift, join, Sq and Cross, as the engine works them out.

abbrev pub extended_of : Range → ℕ → ℕ → Range
extended_of e b c = sticky (extended (given e) b c)

abbrev pub sum_spectrum_of : Range → ℕ → Range → ℕ → Range
sum_spectrum_of e b f c = sticky (spectrum_of_sum (given e) b (given f) c)

abbrev pub square_spectrum_of : ℕ → List Range → Range
square_spectrum_of s g = sticky (square_spectrum s g)

abbrev pub cross_spectrum_of : ℕ → List Range → List Range → Range
cross_spectrum_of s g h = sticky (cross_spectrum s g h)

-- ════ results ════

-- The order of its ends tells whether a range is valid: so it is with what an operation gives, a valid range or `over`.
abbrev pub Told : Range → Type 0
Told r = is_valid r ≡ le_z r.low r.high

-- ════ gradients ════

-- f for a factor in s, and zero for another; the eight of them.
abbrev pub member_or : ℕ → (ℕ → Range) → ℕ → Range
member_or s f a = cond (has s a) (f a) zero_range

abbrev pub over_members : ℕ → (ℕ → Range) → List Range
over_members s f = eight (member_or s f)

-- ════ lines ════

-- The gradient is zero outside the support.
abbrev pub Flat : Line → Type 0
Flat l = (a : ℕ) → has l.support a ≡ false → at l.gradient a ≡ zero_range

-- A line that later ones may refer to.
pub record Fine (l : Line) : Type 0 where
  pub valid : within l ≡ true
  pub flat : Flat l
