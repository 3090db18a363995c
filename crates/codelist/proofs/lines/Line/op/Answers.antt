-- `op` meets its contract: an i64 holds the constant.
use Rattle.std.proofs.Common.{arith}
use Rattle.codelist.proofs.Laws.{saturated-few, back}
use Rattle.codelist.proofs.lines.Line.op.Goals as goal

pub returns-in-AddC : goal.returns-in-AddC
returns-in-AddC c = grind (arith, back, saturated-few)

pub returns-in-MulC : goal.returns-in-MulC
returns-in-MulC c = grind (arith, back, saturated-few)
