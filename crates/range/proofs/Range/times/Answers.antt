-- `range::Range::times` meets its contract. Assumes nothing.
use mathlib.Core.Path.{◌∙◌, sym, ap}
use borrow.Author.Rules.{rules}
use Rattle.range.specs.Limit.{kept}
use Rattle.range.specs.Arithmetic.{ends_times, times_of}
use Rattle.range.specs.Steps.{ends_by}
use lib.IntN.{ℤ}
use Rattle.range.proofs.Fitting.{counting, read, sticky₁-made, sticky₁-none}
use Rattle.range.proofs.Range.times.Goals as goal

pub returns-in_default : goal.returns-in_default
unfolding times_of
returns-in_default c = sticky₁-none (ends_times c.args.k) c.args.self (rw c.in_default.is at c.checked.ensures.none)

pub by-requires : goal.by-requires
by-requires c = search (rules, counting)

pub returns : goal.returns
unfolding times_of
returns c =
    let a = c.in-Some.a in
    rw (sym (rw c.in-Some.is at c.checked.ensures.some))
    (sticky₁-made (ends_times c.args.k) a.range _ a.valid (c.kept.ensures ∙ ap kept (c.by.ensures ∙ ap (λ (n : ℤ). ends_by n a.range) (read c.from.result (search rules) c.from.ensures))))
