-- `range::Range::largest_magnitude` meets its contract. Assumes nothing.
use borrow.Author.Rules.{rules}
use mathlib.Core.Path.{◌∙◌}
use lib.IntN.{pos, ◌-ℤ◌, +ℤ_idl}
use Rattle.range.proofs.Fitting.{held, max-greater, read}
use Rattle.range.proofs.StarFits.{minus-low-fits, magnitude-made}
use Rattle.range.proofs.Range.largest_magnitude.Goals as goal

pub overflow_sub-self : goal.overflow_sub-self
overflow_sub-self c = search (rules, minus-low-fits, +ℤ_idl)

pub returns : goal.returns
returns c =
    let r = c.args.self in
    read c.max.result (search rules) (c.max.ensures.value ∙ max-greater (held (pos 0 -ℤ held r.low)) (held r.high) ∙ magnitude-made r c.requires)
