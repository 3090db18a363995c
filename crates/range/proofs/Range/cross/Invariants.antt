use Rattle.range.specs.Sums.{ranges_from}
use Rattle.range.proofs.Crossing.{Crossed}
use Rattle.range.proofs.Range.cross.Given as goal

abbrev pub invariant-loop-a : goal.invariant-loop-a
invariant-loop-a l = Crossed l.set (ranges_from l.t l.i) (ranges_from l.t l.j) l.products l.left l.right l.rest l.a
