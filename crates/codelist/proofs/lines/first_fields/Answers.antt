-- `first_fields` meets its contract.
use Rattle.std.proofs.Common.{rules}
use Rattle.codelist.specs.Read.{first_fields}
use Rattle.codelist.proofs.lines.first_fields.Goals as goal

pub returns-in-Some : goal.returns-in-Some
unfolding first_fields
returns-in-Some c = search rules

pub returns-in_err-factors : goal.returns-in_err-factors
unfolding first_fields
returns-in_err-factors c = search rules

pub returns : goal.returns
unfolding first_fields
returns c = search rules
