-- `bounds::valid::told_sum` meets its contract. Assumes nothing.
use borrow.Author.Rules.{rules}
use Rattle.range.specs.Arithmetic.{sum_of}
use Rattle.range.proofs.Fitting.{branching}
use Rattle.bounds.proofs.Operands.{both-tested}
use Rattle.bounds.proofs.valid.told_sum.Goals as goal

pub sum-requires : goal.sum-requires
sum-requires c = search (rules, branching, both-tested _ _ c.is_range.ensures c.is_range-2.ensures)

pub returns-else-is_range : goal.returns-else-is_range
unfolding sum_of
returns-else-is_range c = search (rules, branching, both-tested _ _ c.is_range.ensures c.is_range-2.ensures)
