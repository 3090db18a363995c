-- `range::Range::inverse` meets its contract. Assumes nothing.
use mathlib.Core.Path.{◌∙◌, ap}
use mathlib.Core.Path.{refl}
use Rattle.range.specs.Limit.{over}
use Rattle.range.specs.Arithmetic.{inverse_of}
use Rattle.range.proofs.Inverting.{inverse-invalid}
use Rattle.range.proofs.Range.inverse.Goals as goal

pub returns-in_default : goal.returns-in_default
returns-in_default c = inverse-invalid c.args.self over (rw c.in_default.is at c.checked.ensures.none) refl

pub returns : goal.returns
returns c = c.inverse.ensures ∙ ap inverse_of (rw c.in-Some.is at c.checked.ensures.some)
