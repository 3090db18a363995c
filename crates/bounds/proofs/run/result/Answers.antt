-- `bounds::run::result` meets its contract. Assumes nothing.
use mathlib.Core.Path.{◌∙◌}
use Rattle.rules.specs.Rate.{limits_of}
use Rattle.bounds.specs.Terms.{extended_of}
use Rattle.bounds.proofs.run.result.Goals as goal

pub returns : goal.returns
unfolding limits_of
returns c =
    let e = c.spectrum-spectrum.ensures in
    let b = c.nonlinear-nonlinear.ensures in
    let whole = c.extended.ensures ∙ (λ i. extended_of (e i) (b i) (c.all_of.ensures i)) in
    λ i. record {
      value = c.value.ensures i;
      gradient = c.requires.gradient_value i;
      support = c.support.ensures i;
      nonlinear = b i;
      spectrum = e i;
      full = whole i;
    }
