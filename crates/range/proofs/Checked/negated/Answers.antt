-- `range::Checked::negated` meets its contract. Assumes nothing.
use borrow.Author.Rules.{rules}
use Rattle.range.proofs.Fitting.{fitting, neg-valid}
use Rattle.range.proofs.Checked.negated.Goals as goal

pub overflow_sub-result : goal.overflow_sub-result
overflow_sub-result c = search (rules, fitting, c.args.self.valid)

pub overflow_sub-result-2 : goal.overflow_sub-result-2
overflow_sub-result-2 c = search (rules, fitting, c.args.self.valid)

pub invariant_of-result : goal.invariant_of-result
invariant_of-result c = search (rules, fitting, neg-valid, c.args.self.valid)

pub returns : goal.returns
returns c = search (rules, fitting, c.args.self.valid)
