-- Ranges of whole numbers of units, and which of them count: 01, "What the engine takes and gives", the head of "Range arithmetic", and
-- refusals 9 and 12.
use Rattle.std.specs.Prelude.{Bool, ◌&&◌, cond, ℤ, pos, neg_ℤ}
use Rattle.std.specs.Int.Signed.{le_z}
use Rattle.exact.specs.Units.{limit}
use Rattle.range.specs.declared.Range.{Range}

-- "The limit is 2,000,000,000 units, either sign."
abbrev pub most : ℤ
most = pos limit

abbrev pub least : ℤ
least = neg_ℤ most

abbrev pub from_to : ℤ → ℤ → Range
from_to l h = record { low = l; high = h }

-- "Three fixed ranges serve everywhere: zero, one, and the whole span up to the limit." One is 10,000 units.
abbrev pub zero_range : Range
zero_range = from_to (pos 0) (pos 0)

abbrev pub one_range : Range
one_range = from_to (pos 10000) (pos 10000)

abbrev pub whole_range : Range
whole_range = from_to least most

-- The answer that is no range: an end has passed the limit on the way to it (refusal 12: "an end of a range produced by a step below passes
-- the limit").
abbrev pub over : Range
over = from_to (pos 1) (pos 0)

-- The ends in order and within the limit, which they may reach (refusal 9: "a low end above its high end, or an end beyond the limit").
unfoldable pub is_valid : Range → Bool
is_valid r = le_z least r.low && (le_z r.low r.high && le_z r.high most)

unfoldable pub both_valid : Range → Range → Bool
both_valid a b = is_valid a && is_valid b

-- A result counts only within the limit (refusal 12).
unfoldable pub kept : Range → Range
kept r = cond (is_valid r) r over

-- Operations are total and sticky: an operand that is no valid range gives `over`, and so does a result with an end beyond the limit.
-- `ends` is what 01 says of the result's ends.
abbrev pub sticky₁ : (Range → Range) → Range → Range
sticky₁ ends a = cond (is_valid a) (kept (ends a)) over

abbrev pub sticky₂ : (Range → Range → Range) → Range → Range → Range
sticky₂ ends a b = cond (both_valid a b) (kept (ends a b)) over
