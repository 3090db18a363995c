-- `range::Range::negated` meets its contract. Assumes nothing.
use mathlib.Core.Path.{◌∙◌, sym}
use Rattle.range.specs.Arithmetic.{ends_neg, neg_of}
use Rattle.range.proofs.Fitting.{neg_of-is, sticky₁-none}
use Rattle.range.proofs.Range.negated.Goals as goal

pub returns-in_default : goal.returns-in_default
unfolding neg_of
returns-in_default c = sticky₁-none ends_neg c.args.self (rw c.in_default.is at c.checked.ensures.none)

pub returns : goal.returns
returns c = let a = c.in-Some.a in rw (sym (rw c.in-Some.is at c.checked.ensures.some)) (c.negated.ensures ∙ sym (neg_of-is a.range a.valid))
