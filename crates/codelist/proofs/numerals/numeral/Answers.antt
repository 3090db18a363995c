use Rattle.std.proofs.Common.{arith}
use Rattle.std.proofs.lemmas.Bool.Decides.{nat_tests}
use Rattle.std.proofs.lemmas.Grind.{common_steps}
use Rattle.codelist.specs.Read.{digit, peek, rest, positive, numeral}
use Rattle.codelist.proofs.numerals.numeral.Goals as goal

pub returns-in_err-rest : goal.returns-in_err-rest
unfolding numeral positive digit peek rest
returns-in_err-rest c = grind (arith, common_steps)

pub returns-in-45-default : goal.returns-in-45-default
unfolding numeral peek rest
returns-in-45-default c = grind (arith, nat_tests, common_steps)

pub returns-in-48-default : goal.returns-in-48-default
unfolding numeral peek rest
returns-in-48-default c = grind (arith, nat_tests, common_steps)

pub returns-in_default : goal.returns-in_default
unfolding numeral peek rest
returns-in_default c = grind (arith, nat_tests, common_steps)
