-- `bounds::rows::star_spectrum` meets its contract. Assumes nothing.
use Rattle.rules.specs.Sets.{only}
use Rattle.bounds.specs.Table.{gradient_at}
use Rattle.bounds.proofs.Validity.{value-valid, gradient-valid, spectrum-valid, read-valid}
use Rattle.bounds.proofs.rows.star_spectrum.Goals as goal

pub weighted_spectrum-a-requires : goal.weighted_spectrum-a-requires
weighted_spectrum-a-requires c = record { i_bound = c.requires.i_bound; j_bound = c.requires.j_bound; i_value = spectrum-valid _ c.requires.fine.valid; j_value = value-valid _ c.requires.fine_2.valid }

pub weighted_spectrum-b-requires : goal.weighted_spectrum-b-requires
weighted_spectrum-b-requires c = record { i_bound = c.requires.j_bound; j_bound = c.requires.i_bound; i_value = spectrum-valid _ c.requires.fine_2.valid; j_value = value-valid _ c.requires.fine.valid }

pub product-requires : goal.product-requires
product-requires c =
    let a = c.args in
    record {
      a_value = read-valid _ (gradient_at a.t.now a.i) (only c.reach.result) c.only_of-g.ensures
          (gradient-valid _ c.requires.fine.valid);
      b_value = read-valid _ (gradient_at a.t.now a.j) (only c.reach-2.result) c.only_of-h.ensures
          (gradient-valid _ c.requires.fine_2.valid);
    }

pub returns : goal.returns
returns c =
    rw (
      c.star.ensures,
      c.product.ensures,
      c.only_of-h.ensures,
      c.reach-2.ensures,
      c.only_of-g.ensures,
      c.reach.ensures,
      c.weighted_spectrum-b.ensures,
      c.weighted_spectrum-a.ensures,
    )
