-- `named` meets its contract.
use Rattle.std.proofs.Common.{rules}
use Rattle.codelist.specs.Read.{named}
use Rattle.codelist.proofs.lines.named.Goals as goal

pub returns-in_err-literal : goal.returns-in_err-literal
unfolding named
returns-in_err-literal c = search rules

pub returns : goal.returns
unfolding named
returns c = search rules
