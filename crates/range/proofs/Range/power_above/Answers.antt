-- `range::Range::power_above` meets its contract. Assumes nothing.
use borrow.Author.Rules.{rules}
use Rattle.range.proofs.Climbing.{climb-start, climb-next}
use Rattle.range.proofs.Range.power_above.Goals as goal

pub loop-init : goal.loop-init
loop-init c = search (rules, climb-start)

pub loop-preserved : goal.loop-preserved
loop-preserved c = search (rules, climb-next)
