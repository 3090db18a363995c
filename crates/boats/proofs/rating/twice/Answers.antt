-- `rating::twice` meets its contract: the array is filled from the front. Assumes nothing.
use borrow.Author.Rules.{rules}
use Rattle.boats.proofs.Lists.{doubling-start, doubling-next}
use Rattle.boats.proofs.rating.twice.Goals as goal

pub loop-a-init : goal.loop-a-init
loop-a-init c = doubling-start _

pub loop-a-preserved : goal.loop-a-preserved
loop-a-preserved c = doubling-next c.args.b c.loop-a.ends c.loop-a.a (search rules) c.loop-a-test.true (search rules) c.loop-a.invariant
