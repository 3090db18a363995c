-- `bounds::spectrum::are_apart` meets its contract. Assumes nothing.
use borrow.Author.Rules.{rules}
use Rattle.rules.specs.Sets.{apart}
use Rattle.bounds.proofs.spectrum.are_apart.Goals as goal

pub returns : goal.returns
unfolding apart
returns c = search rules
