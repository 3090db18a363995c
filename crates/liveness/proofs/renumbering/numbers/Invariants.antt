use Rattle.liveness.proofs.Tables.{keeps, Counted}
use Rattle.liveness.proofs.renumbering.numbers.Given as goal

abbrev pub invariant-loop-i : goal.invariant-loop-i
invariant-loop-i l = Counted (keeps l.factors l.used) l.numbers l.next l.i
