-- `range::Range::is_half` meets its contract. Assumes nothing.
use borrow.Author.Rules.{rules}
use Rattle.range.proofs.StarLaws.{half-test}
use Rattle.range.proofs.Range.is_half.Goals as goal

pub returns : goal.returns
returns c = search (rules, half-test)
