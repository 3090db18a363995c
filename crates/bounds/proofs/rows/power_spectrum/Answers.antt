-- `bounds::rows::power_spectrum` meets its contract. Assumes nothing.
use Rattle.rules.specs.Table.{pow_row}
use Rattle.bounds.proofs.rows.power_spectrum.Goals as goal

pub returns : goal.returns
unfolding pow_row
returns c =
    rw (
      c.times.ensures,
      c.product.ensures,
      c.sum.ensures,
      c.power.ensures,
      c.product-own.ensures,
      c.extended.ensures,
      c.nonlinear.ensures,
      c.spectrum.ensures,
      c.times-squares.ensures,
      c.of_square.ensures,
      c.value-x.ensures,
      c.reach-p.ensures,
    )
