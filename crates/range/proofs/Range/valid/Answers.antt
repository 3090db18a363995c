-- `range::Range::valid` meets its contract. Assumes nothing.
use borrow.Author.Rules.{rules}
use Rattle.range.specs.Limit.{is_valid}
use Rattle.range.proofs.Range.valid.Goals as goal

pub returns : goal.returns
unfolding is_valid
returns c = search rules
