use Rattle.increments.specs.Steps.{least_end, greatest_end}
use Rattle.increments.proofs.Totals.{Summed}
use Rattle.increments.proofs.total.difference.Given as goal

abbrev pub invariant-loop-a : goal.invariant-loop-a
invariant-loop-a l = Summed l.n l.slopes l.boats least_end l.least l.a × Summed l.n l.slopes l.boats greatest_end l.greatest l.a
