-- `range::root::least_root` meets its contract: the square of the number is never below x. Assumes nothing.
use Rattle.range.proofs.Roots.{least-square}
use Rattle.range.proofs.root.least_root.Goals as goal

pub returns : goal.returns
returns c = record { value = least-square _ _ c.loop-r.invariant.2 c.loop-r.invariant.1 c.loop-r-test.false; upper_bound = c.loop-r.invariant.0 }
