use Rattle.std.proofs.Common.{rules}
use Rattle.codelist.specs.Read.{field, peek, rest}
use Rattle.codelist.proofs.field.Goals as goal

pub returns-in_err-w : goal.returns-in_err-w
unfolding field
returns-in_err-w c = search rules

pub returns-in_err-b : goal.returns-in_err-b
unfolding field peek rest
returns-in_err-b c = search rules

pub returns-then-b-end : goal.returns-then-b-end
unfolding field peek rest
returns-then-b-end c = search rules

pub returns-else-b-end : goal.returns-else-b-end
unfolding field peek rest
returns-else-b-end c = search rules
