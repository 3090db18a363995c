-- `range::Checked::across_odd` meets its contract. Assumes nothing.
use mathlib.Core.Path.{refl, ◌∙◌, ap, ap₂}
use Rattle.range.specs.declared.Range.{Range}
use Rattle.range.specs.Arithmetic.{neg_of, hull_of}
use Rattle.range.specs.Power.{pow_above}
use Rattle.range.proofs.Climbing.{magnitudes, low-made, low-magnitude, high-magnitude, across-odd}
use Rattle.range.proofs.Checked.across_odd.Goals as goal

pub power_above-requires : goal.power_above-requires
power_above-requires c =
    let a = c.args.self.range in
    magnitudes
    (low-made a c.negated.ensures c.from_zero.ensures)
    (low-magnitude a c.requires.valid c.requires.left) refl c.requires.some

pub power_above-high-requires : goal.power_above-high-requires
power_above-high-requires c = magnitudes c.from_zero-2.ensures (high-magnitude c.args.self.range c.requires.valid c.requires.right) refl c.requires.some

pub returns : goal.returns
returns c =
    let a = c.args.self.range in
    let e = c.args.e in
    let power : Range → Range = λ (r : Range). pow_above r e in
    across-odd a c.requires.valid e c.requires.some c.requires.left c.requires.right
    (c.hull.ensures
    ∙ ap₂ hull_of
    (c.negated-low.ensures
    ∙ ap neg_of (c.power_above.ensures ∙ ap power (low-made a c.negated.ensures c.from_zero.ensures)))
    (c.power_above-high.ensures ∙ ap power c.from_zero-2.ensures))
