-- `range::Range::kept` meets its contract. Assumes nothing.
use borrow.Author.Rules.{rules}
use Rattle.range.specs.Limit.{kept}
use Rattle.range.proofs.Fitting.{branching}
use Rattle.range.proofs.Range.kept.Goals as goal

pub returns-then-valid : goal.returns-then-valid
unfolding kept
returns-then-valid c = search (rules, branching)

pub returns-else-valid : goal.returns-else-valid
unfolding kept
returns-else-valid c = search (rules, branching)
