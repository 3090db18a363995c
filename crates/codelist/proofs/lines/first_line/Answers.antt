-- `first_line` meets its contract.
use Rattle.std.proofs.Common.{rules}
use Rattle.codelist.specs.Read.{first_line}
use Rattle.codelist.proofs.lines.first_line.Goals as goal

pub returns-in_err-literal : goal.returns-in_err-literal
unfolding first_line
returns-in_err-literal c = search rules

pub returns : goal.returns
unfolding first_line
returns c = search rules
