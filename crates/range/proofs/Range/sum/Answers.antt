-- `range::Range::sum` meets its contract. Assumes nothing.
use mathlib.Core.Path.{◌∙◌, sym, ap}
use mathlib.Core.Logic.{inl, inr}
use Rattle.range.specs.Limit.{kept}
use Rattle.range.specs.Arithmetic.{ends_sum, sum_of}
use Rattle.range.proofs.Fitting.{valid-small, sticky₂-made, sticky₂-none}
use Rattle.range.proofs.Range.sum.Goals as goal

pub returns-in_default : goal.returns-in_default
unfolding sum_of
returns-in_default c = sticky₂-none ends_sum c.args.self c.args.other (inr (rw c.in_default.is-1 at c.checked-2.ensures.none))

pub returns-in_default-2 : goal.returns-in_default-2
unfolding sum_of
returns-in_default-2 c = sticky₂-none ends_sum c.args.self c.args.other (inl (rw c.in_default.is-0 at c.checked.ensures.none))

pub ends_sum-requires : goal.ends_sum-requires
ends_sum-requires c =
    let w = c.in-Some-Some in
    record { small = valid-small w.a.range w.a.valid; small_2 = valid-small w.b.range w.b.valid }

pub returns : goal.returns
unfolding sum_of
returns c =
    let w = c.in-Some-Some in
    rw (sym (rw w.is-0 at c.checked.ensures.some), sym (rw w.is-1 at c.checked-2.ensures.some))
    (sticky₂-made ends_sum w.a.range w.b.range _ w.a.valid w.b.valid (c.kept.ensures ∙ ap kept c.ends_sum.ensures))
