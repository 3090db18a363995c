-- `value` meets its contract.
use Rattle.std.proofs.Common.{arith}
use Rattle.std.proofs.lemmas.Grind.{common_steps}
use Rattle.std.proofs.lemmas.Int.{ints}
use Rattle.codelist.specs.Load.{value_of, saturated}
use Rattle.codelist.proofs.Numeral.value.Goals as goal

pub returns-then-self : goal.returns-then-self
unfolding value_of saturated
returns-then-self c = grind (arith, ints, common_steps)

pub returns-else-self : goal.returns-else-self
unfolding value_of saturated
returns-else-self c = grind (arith, ints, common_steps)
