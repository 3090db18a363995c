-- `constant_fits` meets its contract: each arm is a case of its definition.
use Rattle.std.proofs.Common.{arith}
use Rattle.std.proofs.lemmas.Grind.{common_steps}
use Rattle.std.proofs.lemmas.Bool.Decides.{nat_tests}
use Rattle.codelist.specs.Conditions.{constant_fits}
use Rattle.codelist.proofs.lines.Line.constant_fits.Goals as goal

pub returns-in-AddC : goal.returns-in-AddC
unfolding constant_fits
returns-in-AddC c = grind (arith, nat_tests, common_steps)

pub returns-in_default : goal.returns-in_default
unfolding constant_fits
returns-in_default c = grind (arith, nat_tests, common_steps)
