-- `range::Checked::power` meets its contract. Assumes nothing.
use borrow.Author.Rules.{rules}
use Rattle.range.specs.Power.{pow_by_sign}
use Rattle.range.proofs.Fitting.{branching}
use Rattle.range.proofs.Checked.power.Goals as goal

pub returns-then-self-ge0 : goal.returns-then-self-ge0
unfolding pow_by_sign
returns-then-self-ge0 c = search (rules, branching)

pub returns-then-self-le0 : goal.returns-then-self-le0
unfolding pow_by_sign
returns-then-self-le0 c = search (rules, branching)

pub returns-else-self-le0 : goal.returns-else-self-le0
unfolding pow_by_sign
returns-else-self-le0 c = search (rules, branching)
