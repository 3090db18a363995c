-- `text::Boxes::push` meets its contract. Assumes nothing.
use borrow.Author.Rules.{rules}
use Rattle.text.proofs.Padded.{one-more}
use Rattle.text.proofs.Boxes.push.Goals as goal

pub invariant_of-self : goal.invariant_of-self
invariant_of-self c = search (rules, one-more)
