-- `start_of` meets its contract: a class number is 1 to 4.
use Rattle.std.proofs.Common.{sym, ◌∙◌, rules}
use Rattle.classes.proofs.Numbers.{one-to-four}
use Rattle.motmotdivan.proofs.desk.start_of.Goals as goal

pub overflow_sub-result : goal.overflow_sub-result
overflow_sub-result c = search (rules, one-to-four _ (sym c.is_class.ensures ∙ c.if-not-is_class.false))

pub overflow_mul-result : goal.overflow_mul-result
overflow_mul-result c = search (rules, one-to-four _ (sym c.is_class.ensures ∙ c.if-not-is_class.false))

pub returns-clause-upper_bound : goal.returns-clause-upper_bound
returns-clause-upper_bound c = search (rules, one-to-four _ (sym c.is_class.ensures ∙ c.if-not-is_class.false))
