-- `range::Range::is_zero` meets its contract. Assumes nothing.
use mathlib.Core.Path.{◌∙◌, ap₂}
use mathlib.Core.Bool.{◌&&◌}
use Rattle.range.specs.Steps.{is_zero}
use Rattle.range.proofs.Zeros.{zero_eq}
use Rattle.range.proofs.Range.is_zero.Goals as goal

pub returns : goal.returns
unfolding is_zero
returns c = let r = c.args.self in c.eq.ensures ∙ ap₂ ◌&&◌ (zero_eq r.low) (zero_eq r.high)
