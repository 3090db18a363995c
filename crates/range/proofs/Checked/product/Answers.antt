-- `range::Checked::product` meets its contract. Assumes nothing.
use mathlib.Core.Path.{◌∙◌, ap}
use Rattle.range.specs.Arithmetic.{scaled_of, ends_product}
use Rattle.range.proofs.Fitting.{spread-small}
use Rattle.range.proofs.Checked.product.Goals as goal

pub scaled-requires : goal.scaled-requires
scaled-requires c = let a = c.args.self in let b = c.args.other in rw c.spread.ensures (spread-small a.range b.range a.valid b.valid)

pub returns : goal.returns
unfolding ends_product
returns c = c.scaled.ensures ∙ ap scaled_of c.spread.ensures
