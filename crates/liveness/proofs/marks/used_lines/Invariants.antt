use Rattle.liveness.proofs.Tables.{Seen}
use Rattle.liveness.proofs.marks.used_lines.Given as goal

abbrev pub invariant-loop-k : goal.invariant-loop-k
invariant-loop-k l = Seen l.c l.used l.k
