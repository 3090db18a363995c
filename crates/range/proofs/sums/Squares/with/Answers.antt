-- `range::sums::Squares::with` meets its contract. Assumes nothing.
use mathlib.Core.Path.{◌∙◌, sym}
use Rattle.range.proofs.Zeros.{square-none}
use Rattle.range.proofs.sums.Squares.with.Goals as goal

pub returns-then-is_zero : goal.returns-then-is_zero
returns-then-is_zero c = square-none _ _ (sym c.is_zero.ensures ∙ c.if-is_zero.true)
