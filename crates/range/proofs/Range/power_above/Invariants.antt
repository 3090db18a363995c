use Rattle.range.proofs.Climbing.{Climbed}
use Rattle.range.proofs.Range.power_above.Given as goal

abbrev pub invariant-loop : goal.invariant-loop
invariant-loop l = Climbed l.self l.e l.r l.counter
