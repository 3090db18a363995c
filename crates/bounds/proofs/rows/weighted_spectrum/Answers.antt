-- `bounds::rows::weighted_spectrum` meets its contract. Assumes nothing.
use mathlib.Core.Path.{ap, ◌∙◌}
use Rattle.range.specs.Limit.{is_valid}
use Rattle.bounds.proofs.rows.weighted_spectrum.Goals as goal

pub product-requires : goal.product-requires
product-requires c = record { a_value = ap is_valid c.value.ensures ∙ c.requires.j_value; b_value = ap is_valid c.spectrum.ensures ∙ c.requires.i_value }

pub returns : goal.returns
returns c = rw (c.product.ensures, c.value.ensures, c.spectrum.ensures)
