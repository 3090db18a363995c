use Rattle.rules.specs.Rate.{pairs}
use Rattle.increments.proofs.Outside.{Searching}
use Rattle.increments.proofs.class.first_outside.Given as goal

abbrev pub invariant-loop-a : goal.invariant-loop-a
invariant-loop-a l = Searching l.n (pairs l.ranges) l.boats l.a
