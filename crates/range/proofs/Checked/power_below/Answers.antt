-- `range::Checked::power_below` meets its contract. Assumes nothing.
use mathlib.Core.Path.{◌∙◌, sym, ap}
use Rattle.range.specs.declared.Range.{Range}
use Rattle.range.specs.Arithmetic.{neg_of}
use Rattle.range.specs.Power.{pow_above}
use Rattle.range.proofs.Fitting.{neg-valid}
use Rattle.range.proofs.Climbing.{magnitudes, neg-above, below-even, below-odd}
use Rattle.range.proofs.Checked.power_below.Goals as goal

pub power_above-m-requires : goal.power_above-m-requires
power_above-m-requires c =
    let p = c.requires in
    let a = c.args.self.range in
    magnitudes c.negated.ensures (neg-valid a p.valid) (neg-above a p.sign) p.some

pub returns-then-even : goal.returns-then-even
returns-then-even c =
    let e = c.args.e in
    below-even c.args.self.range c.requires.valid e c.requires.some
    (sym c.even.ensures ∙ c.if-even.true)
    (c.power_above-m.ensures ∙ ap (λ (r : Range). pow_above r e) c.negated.ensures)

pub returns-else-even : goal.returns-else-even
returns-else-even c =
    let e = c.args.e in
    below-odd c.args.self.range c.requires.valid e c.requires.some c.requires.sign
    (sym c.even.ensures ∙ c.if-even.false)
    (c.negated-else-even.ensures ∙ ap neg_of (c.power_above-m.ensures ∙ ap (λ (r : Range). pow_above r e) c.negated.ensures))
