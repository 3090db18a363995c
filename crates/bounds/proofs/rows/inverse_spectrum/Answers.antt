-- `bounds::rows::inverse_spectrum` meets its contract. Assumes nothing.
use Rattle.rules.specs.Table.{inv_row}
use Rattle.bounds.proofs.rows.inverse_spectrum.Goals as goal

pub returns : goal.returns
unfolding inv_row
returns c =
    rw (
      c.product-2.ensures,
      c.sum.ensures,
      c.power.ensures,
      c.negated-own.ensures,
      c.extended.ensures,
      c.nonlinear.ensures,
      c.spectrum.ensures,
      c.times-squares.ensures,
      c.product.ensures,
      c.of_square.ensures,
      c.reach-p.ensures,
      c.requires.v_value,
    )
