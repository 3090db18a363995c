use mathlib.Core.List.{map}
use Rattle.boats.proofs.Walking.{Going}
use Rattle.boats.proofs.page.of_records.Given as goal

abbrev pub invariant-loop-k : goal.invariant-loop-k
invariant-loop-k g l = Going l.engine (map g.R.Record.numbers_of l.records) l.k l.sum
