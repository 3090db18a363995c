-- `refers_back` meets its contract: each arm is a case of its definition.
use Rattle.std.proofs.Common.{arith}
use Rattle.std.proofs.lemmas.Grind.{common_steps}
use Rattle.std.proofs.lemmas.Bool.Decides.{nat_tests}
use Rattle.codelist.specs.Conditions.{refers_back}
use Rattle.codelist.proofs.lines.Line.refers_back.Goals as goal

pub returns-in-AddC : goal.returns-in-AddC
unfolding refers_back
returns-in-AddC c = grind (arith, nat_tests, common_steps)

pub returns-then-is_between : goal.returns-then-is_between
unfolding refers_back
returns-then-is_between c = grind (arith, nat_tests, common_steps)

pub returns-else-is_between : goal.returns-else-is_between
unfolding refers_back
returns-else-is_between c = grind (arith, nat_tests, common_steps)
