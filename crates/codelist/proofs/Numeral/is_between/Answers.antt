-- `is_between` meets its contract.
use Rattle.std.proofs.Common.{arith}
use Rattle.std.proofs.lemmas.Grind.{common_steps}
use Rattle.std.proofs.lemmas.Bool.Decides.{nat_tests}
use Rattle.codelist.specs.Conditions.{is_between}
use Rattle.codelist.proofs.Numeral.is_between.Goals as goal

pub returns-then-not-self : goal.returns-then-not-self
unfolding is_between
returns-then-not-self c = grind (arith, nat_tests, common_steps)

pub returns-else-not-self : goal.returns-else-not-self
unfolding is_between
returns-else-not-self c = grind (arith, nat_tests, common_steps)
