-- `bounds::rows::joined_spectrum` meets its contract. Assumes nothing.
use Rattle.rules.specs.Sets.{◌∪◌}
use Rattle.bounds.specs.Terms.{Told}
use Rattle.bounds.specs.Table.{gradient_at}
use Rattle.bounds.proofs.Operands.{told-product, told-extended, told-sum-spectrum, told-cross-spectrum}
use Rattle.bounds.proofs.Validity.{value-valid, spectrum-valid}
use Rattle.bounds.proofs.rows.joined_spectrum.Goals as goal

pub weighted_spectrum-requires : goal.weighted_spectrum-requires
weighted_spectrum-requires c = record { i_bound = c.requires.i_bound; j_bound = c.requires.j_bound; i_value = spectrum-valid _ c.requires.fine.valid; j_value = value-valid _ c.requires.fine_2.valid }

pub weighted_spectrum-requires-2 : goal.weighted_spectrum-requires-2
weighted_spectrum-requires-2 c = record { i_bound = c.requires.j_bound; j_bound = c.requires.i_bound; i_value = spectrum-valid _ c.requires.fine_2.valid; j_value = value-valid _ c.requires.fine.valid }

pub of_sum-own-requires : goal.of_sum-own-requires
of_sum-own-requires c = record { told = rw c.weighted_spectrum.ensures (told-product _ _); told_2 = rw c.weighted_spectrum-2.ensures (told-product _ _) }

pub of_cross-requires : goal.of_cross-requires
of_cross-requires c = record { i_bound = c.requires.i_bound; j_bound = c.requires.j_bound }

pub told_sum-requires : goal.told_sum-requires
told_sum-requires c =
    let own-told : Told c.of_sum-own.result = rw c.of_sum-own.ensures (told-sum-spectrum _ _ _ _) in
    let args = c.args in
    let slopes = gradient_at args.t.now in
    let b = c.nonlinear-b.result ∪ c.nonlinear-c.result in
    let p = c.reach.result ∪ c.reach-2.result in record { told = rw c.of_cross.ensures (told-cross-spectrum p (slopes args.i) (slopes args.j)); told_2 = rw c.extended.ensures (told-extended _ b p own-told) }

pub returns : goal.returns
returns c =
    rw (
      c.told_sum.ensures,
      c.of_cross.ensures,
      c.extended.ensures,
      c.of_sum-own.ensures,
      c.weighted_spectrum-2.ensures,
      c.weighted_spectrum.ensures,
      c.nonlinear-c.ensures,
      c.nonlinear-b.ensures,
      c.reach-2.ensures,
      c.reach.ensures,
    )
