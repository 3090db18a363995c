-- `range::Checked::inverse_above` meets its contract. Assumes nothing.
use borrow.Author.Rules.{rules}
use Rattle.range.proofs.Inverting.{inverting}
use Rattle.range.proofs.Checked.inverse_above.Goals as goal

pub ends_over-requires : goal.ends_over-requires
ends_over-requires c = search (rules, inverting)
