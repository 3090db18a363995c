-- `bounds::valid::is_range` meets its contract. Assumes nothing.
use borrow.Author.Rules.{rules}
use mathlib.Core.Path.{sym}
use Rattle.bounds.proofs.valid.is_range.Goals as goal

pub returns : goal.returns
returns c = search (rules, sym c.requires)
