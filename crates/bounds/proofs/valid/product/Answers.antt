-- `bounds::valid::product` meets its contract. Assumes nothing.
use mathlib.Core.Path.{sym, ap, ◌∙◌}
use Rattle.range.specs.Arithmetic.{spread_of, ends_product, product_of}
use Rattle.range.specs.Steps.{scaled_within}
use Rattle.range.proofs.ScaledWithin.{scaled-within}
use Rattle.range.proofs.Zeros.{is-zero_range}
use Rattle.bounds.proofs.Operands.{untested, spread-in-order}
use Rattle.bounds.proofs.Zeros.{zero-product}
use Rattle.bounds.proofs.valid.product.Goals as goal

pub returns-then-is_zero : goal.returns-then-is_zero
returns-then-is_zero c =
    let a = c.args.a in
    let b = c.args.b in
    sym (ap (product_of a) (is-zero_range b (sym c.is_zero.ensures ∙ c.if-is_zero.true)) ∙ zero-product a c.requires.a_value)

pub returns : goal.returns
unfolding ends_product product_of
returns c =
    let a = c.args.a in
    let b = c.args.b in
    c.scaled_within.ensures
    ∙ ap scaled_within c.spread.ensures
    ∙ scaled-within (spread_of a b) (spread-in-order a b)
    ∙ untested ends_product a b c.requires.a_value c.requires.b_value
