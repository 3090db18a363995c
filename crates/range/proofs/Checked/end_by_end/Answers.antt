-- `range::Checked::end_by_end` meets its contract. Assumes nothing.
use borrow.Author.Rules.{rules}
use Rattle.range.proofs.Fitting.{fitting}
use Rattle.range.proofs.Checked.end_by_end.Goals as goal

pub overflow_mul-result : goal.overflow_mul-result
overflow_mul-result c = search (rules, fitting, c.args.self.valid, c.args.other.valid)

pub overflow_mul-result-2 : goal.overflow_mul-result-2
overflow_mul-result-2 c = search (rules, fitting, c.args.self.valid, c.args.other.valid)

pub returns : goal.returns
returns c = search (rules, fitting, c.args.self.valid, c.args.other.valid)
