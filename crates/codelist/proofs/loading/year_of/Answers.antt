-- `year_of` meets its contract: each arm is a case of its definition.
use Rattle.std.proofs.Common.{arith}
use Rattle.std.proofs.lemmas.Bool.Decides.{nat_tests}
use Rattle.codelist.specs.Text.{year_of}
use Rattle.codelist.proofs.loading.year_of.Goals as goal

pub returns-in-None : goal.returns-in-None
unfolding year_of
returns-in-None c = grind (arith, nat_tests)

pub returns-in-Some : goal.returns-in-Some
unfolding year_of
returns-in-Some c = grind (arith, nat_tests)

pub returns-in-2016 : goal.returns-in-2016
unfolding year_of
returns-in-2016 c = grind (arith, nat_tests)

pub returns-in-2014 : goal.returns-in-2014
unfolding year_of
returns-in-2014 c = grind (arith, nat_tests)

pub returns-in_default : goal.returns-in_default
unfolding year_of
returns-in_default c = grind (arith, nat_tests)
