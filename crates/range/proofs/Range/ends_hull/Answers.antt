-- `range::Range::ends_hull` meets its contract. Assumes nothing.
use borrow.Author.Rules.{rules}
use Rattle.range.proofs.Fitting.{ends}
use Rattle.range.proofs.Range.ends_hull.Goals as goal

pub returns : goal.returns
returns c =
    ends c.min.result c.max.result (search rules) (search rules)
    (search (rules, c.min.ensures)) (search (rules, c.max.ensures))
