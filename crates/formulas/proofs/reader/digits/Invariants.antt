use Rattle.std.proofs.Common.{◌≡◌}
use Rattle.formulas.proofs.Digits.{Running}
use Rattle.formulas.proofs.reader.digits.Given as goal

abbrev pub invariant-loop-count : goal.invariant-loop-count
invariant-loop-count l = Running l.s l.most l.run.rest.now l.run.value l.run.count × (l.run.count ≡ l.count)
