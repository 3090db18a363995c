-- `bounds::valid::sum` meets its contract. Assumes nothing.
use borrow.Author.Rules.{rules}
use mathlib.Core.Path.{◌≡◌, ◌∙◌, ap}
use Rattle.range.specs.Limit.{kept}
use Rattle.range.specs.Arithmetic.{ends_sum, sum_of}
use Rattle.range.proofs.Fitting.{summing, valid-small}
use Rattle.bounds.proofs.Operands.{untested, sum-in-order}
use Rattle.bounds.proofs.valid.sum.Goals as goal

pub overflow_add-a : goal.overflow_add-a
overflow_add-a c = search (rules, summing, valid-small)

pub overflow_add-a-2 : goal.overflow_add-a-2
overflow_add-a-2 c = search (rules, summing, valid-small)

pub limited-requires : goal.limited-requires
limited-requires c =
    let made : c.new.result ≡ ends_sum c.args.a c.args.b = c.new.ensures ∙ search (rules, summing, valid-small) in
    rw made (sum-in-order c.args.a c.args.b c.requires.a_value c.requires.b_value)

pub returns : goal.returns
unfolding sum_of
returns c =
    let made : c.new.result ≡ ends_sum c.args.a c.args.b = c.new.ensures ∙ search (rules, summing, valid-small) in
    c.limited.ensures ∙ ap kept made ∙ untested ends_sum c.args.a c.args.b c.requires.a_value c.requires.b_value
