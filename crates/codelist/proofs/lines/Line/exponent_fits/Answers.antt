-- `exponent_fits` meets its contract: each arm is a case of its definition.
use Rattle.std.proofs.Common.{arith}
use Rattle.std.proofs.lemmas.Grind.{common_steps}
use Rattle.std.proofs.lemmas.Bool.Decides.{nat_tests}
use Rattle.codelist.specs.Conditions.{exponent_fits}
use Rattle.codelist.proofs.lines.Line.exponent_fits.Goals as goal

pub returns-in-Pow : goal.returns-in-Pow
unfolding exponent_fits
returns-in-Pow c = grind (arith, nat_tests, common_steps)

pub returns-in_default : goal.returns-in_default
unfolding exponent_fits
returns-in_default c = grind (arith, nat_tests, common_steps)
