use Rattle.std.proofs.Common.{rules}
use Rattle.codelist.specs.Read.{pair}
use Rattle.codelist.proofs.pair.Goals as goal

pub returns-in_err-i : goal.returns-in_err-i
unfolding pair
returns-in_err-i c = search rules

pub returns-in_err-x : goal.returns-in_err-x
unfolding pair
returns-in_err-x c = search rules

pub returns : goal.returns
unfolding pair
returns c = search rules
