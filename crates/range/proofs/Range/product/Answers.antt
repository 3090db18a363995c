-- `range::Range::product` meets its contract. Assumes nothing.
use mathlib.Core.Path.{◌∙◌, sym, ap}
use mathlib.Core.Logic.{inl, inr}
use Rattle.range.specs.Limit.{kept}
use Rattle.range.specs.Arithmetic.{ends_product, product_of}
use Rattle.range.proofs.Fitting.{sticky₂-made, sticky₂-none}
use Rattle.range.proofs.Range.product.Goals as goal

pub returns-in_default : goal.returns-in_default
unfolding product_of
returns-in_default c = sticky₂-none ends_product c.args.self c.args.other (inr (rw c.in_default.is-1 at c.checked-2.ensures.none))

pub returns-in_default-2 : goal.returns-in_default-2
unfolding product_of
returns-in_default-2 c = sticky₂-none ends_product c.args.self c.args.other (inl (rw c.in_default.is-0 at c.checked.ensures.none))

pub returns : goal.returns
unfolding product_of
returns c =
    let w = c.in-Some-Some in
    rw (sym (rw w.is-0 at c.checked.ensures.some), sym (rw w.is-1 at c.checked-2.ensures.some))
    (sticky₂-made ends_product w.a.range w.b.range _ w.a.valid w.b.valid (c.kept.ensures ∙ ap kept c.product.ensures))
