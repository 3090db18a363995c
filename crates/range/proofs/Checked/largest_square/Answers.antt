-- `range::Checked::largest_square` meets its contract. Assumes nothing.
use mathlib.Core.Path.{◌∙◌, ap}
use lib.IntN.{nat_abs}
use Rattle.range.specs.declared.Range.{Range}
use Rattle.range.specs.Sums.{largest_square}
use Rattle.range.specs.Steps.{sorted_of}
use Rattle.range.proofs.Checked.largest_square.Goals as goal

-- the high end of the squares of the ends, in order
pub returns : goal.returns
unfolding largest_square
returns c = c.magnitude.ensures ∙ ap (λ (r : Range). nat_abs r.high) (c.sorted.ensures ∙ ap sorted_of c.end_by_end.ensures)
