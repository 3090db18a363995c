use Rattle.boats.proofs.Lists.{Doubling}
use Rattle.boats.proofs.rating.twice.Given as goal

abbrev pub invariant-loop-a : goal.invariant-loop-a
invariant-loop-a l = Doubling l.b l.ends l.a
