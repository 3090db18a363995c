-- What the program `sisters` prints: `difference→low→high`, or a refusal as `rate` prints it. A tab is byte 9 (shown →); the line ends with byte 10.
use Rattle.std.specs.Prelude.{List, [], ◌∷◌, ◌++◌, ℕ}
use Rattle.range.specs.declared.Range.{Range}
use Rattle.range.specs.Limit.{from_to}
use Rattle.text.specs.Output.{range_fields}
use Rattle.text.specs.Answer.{unless_refused}
use Rattle.increments.specs.InFull.{Difference}

abbrev pub difference : List ℕ
difference = 100 ∷ 105 ∷ 102 ∷ 102 ∷ 101 ∷ 114 ∷ 101 ∷ 110 ∷ 99 ∷ 101 ∷ []

-- the line of a difference that is from the low to the high of this range
abbrev pub difference_line : Range → List ℕ
difference_line x = difference ++ range_fields x

-- THE TEXT OF AN ANSWER
abbrev pub difference_text : Difference → List ℕ
difference_text d = unless_refused d.outcome (difference_line (from_to d.low d.high))
