use Rattle.bounds.specs.Table.{gradient_at}
use Rattle.bounds.proofs.Filling.{Holding, Copying}
use Rattle.bounds.proofs.table.Table.copied.Given as goal

abbrev pub invariant-loop-a : goal.invariant-loop-a
invariant-loop-a l = Holding l.g l.initial.self l.k l.self × Copying (gradient_at l.initial.self l.i) l.g l.a
