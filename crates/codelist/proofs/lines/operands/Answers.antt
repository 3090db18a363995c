-- `operands` meets its contract: one numeral after inv, two after any other word.
use Rattle.std.proofs.Common.{arith}
use Rattle.std.proofs.lemmas.Grind.{common_steps}
use Rattle.std.proofs.lemmas.Bool.Decides.{nat_tests}
use Rattle.codelist.specs.Read.{operands}
use Rattle.codelist.proofs.lines.operands.Goals as goal

pub returns-in_err-i : goal.returns-in_err-i
unfolding operands
returns-in_err-i c = grind (arith, nat_tests, common_steps)

pub returns-then-eq : goal.returns-then-eq
unfolding operands
returns-then-eq c = grind (arith, nat_tests, common_steps)

pub returns-in_err-i-2 : goal.returns-in_err-i-2
unfolding operands
returns-in_err-i-2 c = grind (arith, nat_tests, common_steps)

pub returns : goal.returns
unfolding operands
returns c = grind (arith, nat_tests, common_steps)
