-- `bounds::valid::by` meets its contract. Assumes nothing.
use borrow.Author.Rules.{rules}
use mathlib.Core.Path.{◌≡◌, ap, ◌∙◌}
use Rattle.range.specs.Steps.{ends_by, sorted_of}
use Rattle.range.proofs.Fitting.{fitting}
use Rattle.bounds.proofs.valid.by.Goals as goal

pub overflow_mul-k : goal.overflow_mul-k
overflow_mul-k c = search (rules, fitting)

pub overflow_mul-k-2 : goal.overflow_mul-k-2
overflow_mul-k-2 c = search (rules, fitting)

pub returns : goal.returns
returns c =
    let made : c.new.result ≡ ends_by c.args.k c.args.r = c.new.ensures ∙ search (rules, fitting) in
    c.sorted.ensures ∙ ap sorted_of made
