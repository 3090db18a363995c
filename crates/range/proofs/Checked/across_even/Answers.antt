-- `range::Checked::across_even` meets its contract. Assumes nothing.
use mathlib.Core.Path.{refl, ◌∙◌, ap}
use Rattle.range.specs.declared.Range.{Range}
use Rattle.range.specs.Power.{pow_above}
use Rattle.range.proofs.Climbing.{magnitudes, farther-made, across-magnitude, across-even}
use Rattle.range.proofs.Checked.across_even.Goals as goal

pub power_above-requires : goal.power_above-requires
power_above-requires c =
    let a = c.args.self.range in
    magnitudes
    (farther-made a c.negated.ensures c.from_zero.ensures c.from_zero-2.ensures c.ends_hull.ensures)
    (across-magnitude a c.requires.valid c.requires.left) refl c.requires.some

pub returns : goal.returns
returns c =
    let a = c.args.self.range in
    let e = c.args.e in
    across-even a c.requires.valid e c.requires.some c.requires.left
    (c.power_above.ensures
    ∙ ap (λ (r : Range). pow_above r e)
    (farther-made a c.negated.ensures c.from_zero.ensures c.from_zero-2.ensures c.ends_hull.ensures))
