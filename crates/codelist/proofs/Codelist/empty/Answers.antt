-- `empty` meets its contract: the array is filled with blanks.
use Rattle.std.proofs.Common.{rules}
use Rattle.codelist.specs.Load.{empty}
use Rattle.codelist.proofs.Codelist.empty.Goals as goal

pub returns : goal.returns
unfolding empty
returns c = search rules
