-- `bounds::valid::told_hull` meets its contract. Assumes nothing.
use borrow.Author.Rules.{rules}
use Rattle.range.specs.Arithmetic.{hull_of}
use Rattle.range.proofs.Fitting.{branching, hull-kept}
use Rattle.bounds.proofs.Operands.{both-tested}
use Rattle.bounds.proofs.valid.told_hull.Goals as goal

pub returns-then-is_range : goal.returns-then-is_range
unfolding hull_of
returns-then-is_range c = search (rules, branching, hull-kept, both-tested _ _ c.is_range.ensures c.is_range-2.ensures, c.ends_hull.ensures)

pub returns-else-is_range : goal.returns-else-is_range
unfolding hull_of
returns-else-is_range c = search (rules, branching, both-tested _ _ c.is_range.ensures c.is_range-2.ensures)
