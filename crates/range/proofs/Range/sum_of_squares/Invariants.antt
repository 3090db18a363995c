use Rattle.range.specs.Sums.{ranges_from}
use Rattle.range.proofs.Squaring.{Squared}
use Rattle.range.proofs.Range.sum_of_squares.Given as goal

abbrev pub invariant-loop-a : goal.invariant-loop-a
invariant-loop-a l = Squared l.set (ranges_from l.t l.i) l.total l.rest l.a
