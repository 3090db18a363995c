-- `operation_line` meets its contract.
use Rattle.std.proofs.Common.{rules}
use Rattle.codelist.specs.Read.{operation_line}
use Rattle.codelist.proofs.lines.operation_line.Goals as goal

pub returns-in_err-word : goal.returns-in_err-word
unfolding operation_line
returns-in_err-word c = search rules

pub returns : goal.returns
unfolding operation_line
returns c = search rules
