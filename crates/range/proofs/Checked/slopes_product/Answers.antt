-- `range::Checked::slopes_product` meets its contract. Assumes nothing.
use mathlib.Core.Path.{◌∙◌, sym, ap₂}
use mathlib.Core.Bool.{◌||◌}
use Rattle.range.proofs.Zeros.{product-none}
use Rattle.range.proofs.Checked.slopes_product.Goals as goal

pub returns-then-is_zero : goal.returns-then-is_zero
returns-then-is_zero c = product-none _ _ (sym (ap₂ ◌||◌ c.is_zero.ensures c.is_zero-2.ensures) ∙ c.if-is_zero.true)
