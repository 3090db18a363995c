-- `range::Range::scaled_within` meets its contract. Assumes nothing.
use borrow.Author.Rules.{rules}
use Rattle.range.specs.Steps.{scaled_within}
use Rattle.range.proofs.Fitting.{branching}
use Rattle.range.proofs.Shifting.{ends-divided}
use Rattle.range.proofs.Range.scaled_within.Goals as goal

pub returns-then-self : goal.returns-then-self
unfolding scaled_within
returns-then-self c = search (rules, branching, ends-divided)

pub returns-else-self : goal.returns-else-self
unfolding scaled_within
returns-else-self c = search (rules, branching)
