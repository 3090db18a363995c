use Rattle.motmotdivan.specs.Views.{Whole}
use Rattle.motmotdivan.proofs.record.numbers_of.Given as goal

abbrev pub invariant-loop-k : goal.invariant-loop-k
invariant-loop-k l = Whole l.s l.values l.k
