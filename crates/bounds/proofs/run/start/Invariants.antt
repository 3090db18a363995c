use Rattle.rules.specs.Rate.{pairs}
use Rattle.bounds.proofs.Starting.{Begun}
use Rattle.bounds.proofs.run.start.Given as goal

abbrev pub invariant-loop-a : goal.invariant-loop-a
invariant-loop-a l = Begun l.b (pairs l.xs) l.t l.last l.a
