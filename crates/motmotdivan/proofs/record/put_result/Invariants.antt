use Rattle.std.proofs.Common.{[], ◌∷◌, ◌++◌, take}
use Rattle.motmotdivan.specs.Record.{ends_of}
use Rattle.motmotdivan.proofs.Results.{Front}
use Rattle.motmotdivan.proofs.record.put_result.Given as goal

abbrev pub invariant-loop-k : goal.invariant-loop-k
invariant-loop-k l = Front (ends_of (l.l.value ∷ []) ++ ends_of (take l.k l.l.gradient)) l.s
