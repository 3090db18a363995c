-- `bounds::spectrum::is_single` meets its contract. Assumes nothing.
use borrow.Author.Rules.{rules}
use Rattle.rules.specs.Sets.{is_single}
use Rattle.bounds.proofs.spectrum.is_single.Goals as goal

pub returns : goal.returns
unfolding is_single
returns c = search rules
