use Rattle.text.proofs.Splitting.{Searched}
use Rattle.text.proofs.sheet_end.Given as goal

abbrev pub invariant-loop-at : goal.invariant-loop-at
invariant-loop-at l = Searched l.w l.s l.at l.start
