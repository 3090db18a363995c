-- `range::Checked::power_across` meets its contract. Assumes nothing.
use borrow.Author.Rules.{rules}
use Rattle.range.specs.Power.{pow_across}
use Rattle.range.proofs.Fitting.{branching}
use Rattle.range.proofs.Checked.power_across.Goals as goal

pub returns-then-even : goal.returns-then-even
unfolding pow_across
returns-then-even c = search (rules, branching)

pub returns-else-even : goal.returns-else-even
unfolding pow_across
returns-else-even c = search (rules, branching)
