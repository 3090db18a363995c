-- `keyword` meets its contract.
use Rattle.std.proofs.Common.{rules}
use Rattle.codelist.specs.Read.{keyword}
use Rattle.codelist.proofs.lines.keyword.Goals as goal

pub returns : goal.returns
unfolding keyword
returns c = search rules
