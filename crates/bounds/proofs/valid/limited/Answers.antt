-- `bounds::valid::limited` meets its contract. Assumes nothing.
use borrow.Author.Rules.{rules}
use Rattle.bounds.proofs.Operands.{within-limit, beyond-limit}
use Rattle.bounds.proofs.valid.limited.Goals as goal

pub returns-then-whole-r : goal.returns-then-whole-r
returns-then-whole-r c = within-limit c.args.r c.requires c.if-whole-r.true (search rules)

pub returns-else-whole-r : goal.returns-else-whole-r
returns-else-whole-r c = beyond-limit c.args.r c.requires c.if-whole-r.false (search rules)
