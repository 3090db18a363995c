use Rattle.std.proofs.Common.{◌+◌, ◌-◌}
use Rattle.codelist.proofs.Loop.{Going}
use Rattle.codelist.proofs.loading.operation_lines.Given as goal

abbrev pub invariant-loop-rest : goal.invariant-loop-rest
invariant-loop-rest l = Going l.s l.year l.n l.ops l.count l.rest

abbrev pub decreases-loop-rest : goal.decreases-loop-rest
decreases-loop-rest l = 64 - (l.n + l.count)
