-- `range::Checked::inverse` meets its contract. Assumes nothing.
use borrow.Author.Rules.{rules}
use Rattle.range.proofs.Fitting.{branching}
use Rattle.range.proofs.Inverting.{by_sign_lem}
use Rattle.range.proofs.Checked.inverse.Goals as goal

pub returns-then-self-gt0 : goal.returns-then-self-gt0
returns-then-self-gt0 c = search (rules, branching, by_sign_lem)

pub returns-then-self-lt0 : goal.returns-then-self-lt0
returns-then-self-lt0 c = search (rules, branching, by_sign_lem)

pub returns-else-self-lt0 : goal.returns-else-self-lt0
returns-else-self-lt0 c = search (rules, branching, by_sign_lem)
