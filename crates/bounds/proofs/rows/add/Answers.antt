-- `bounds::rows::add` meets its contract. Assumes nothing.
use borrow.Author.Rules.{rules}
use mathlib.Core.Path.{refl, sym, ap, ap₂, subst, ◌∙◌}
use lib.Bits.{bit_or}
use Rattle.range.specs.Limit.{is_valid}
use Rattle.range.specs.Arithmetic.{sum_of}
use Rattle.rules.specs.Table.{add_row}
use Rattle.bounds.specs.Terms.{Told, sum_spectrum_of}
use Rattle.bounds.proofs.Members.{outside-union}
use Rattle.bounds.proofs.Operands.{told-valid, told-sum, told-sum-spectrum}
use Rattle.bounds.proofs.Validity.{value-valid, spectrum-valid}
use Rattle.bounds.proofs.Working.{filled-slopes, worked, worked-none}
use Rattle.bounds.proofs.Zeros.{zero-sum}
use Rattle.bounds.proofs.rows.add.Goals as goal

pub sum-requires : goal.sum-requires
sum-requires c = record { a_value = ap is_valid c.value.ensures ∙ value-valid _ c.requires.refers.fine.valid; b_value = ap is_valid c.value-2.ensures ∙ value-valid _ c.requires.refers_2.fine.valid }

pub of_sum-requires : goal.of_sum-requires
of_sum-requires c = record { told = told-valid _ (ap is_valid c.spectrum.ensures ∙ spectrum-valid _ c.requires.refers.fine.valid); told_2 = told-valid _ (ap is_valid c.spectrum-2.ensures ∙ spectrum-valid _ c.requires.refers_2.fine.valid) }

pub fill-requires-clause-told : goal.fill-requires-clause-told
fill-requires-clause-told c = λ g h r v w p. search (rules, told-sum)

pub returns-in_err-g : goal.returns-in_err-g
unfolding add_row
returns-in_err-g c =
    rw c.from_residual.ensures
    (worked-none _ _ (ap₂ bit_or c.support.ensures c.support-2.ensures) _
    (λ a. refl)
    (λ a o. let out = outside-union _ _ a o in ap₂ sum_of (c.requires.refers.fine.flat a out.0) (c.requires.refers_2.fine.flat a out.1) ∙ zero-sum)
    (c.in_err-g.ensures sum_of (λ g h r v w p. search rules)))

pub settle-requires : goal.settle-requires
settle-requires c =
    let q = filled-slopes (c.in_ok-g.ensures sum_of (λ g h r v w p. search rules)) in
    record {
      k_bound = c.requires.k_bound;
      told = subst Told (sym c.sum.ensures) (told-sum _ _);
      told_2 = subst Told (sym c.of_sum.ensures) (told-sum-spectrum _ _ _ _);
      g_valid = q.0;
      g_value = q.1;
    }

pub returns : goal.returns
unfolding add_row
returns c =
    worked _ _ (ap₂ bit_or c.support.ensures c.support-2.ensures) _
    (λ a. refl)
    (λ a o. let out = outside-union _ _ a o in ap₂ sum_of (c.requires.refers.fine.flat a out.0) (c.requires.refers_2.fine.flat a out.1) ∙ zero-sum)
    (c.in_ok-g.ensures sum_of (λ g h r v w p. search rules))
    (record {
      value = c.sum.ensures ∙ ap₂ sum_of c.value.ensures c.value-2.ensures;
      spectrum = c.of_sum.ensures ∙ (λ l. sum_spectrum_of (c.spectrum.ensures l) (c.nonlinear-b.ensures l) (c.spectrum-2.ensures l) (c.nonlinear-c.ensures l));
      support = ap₂ bit_or c.support.ensures c.support-2.ensures;
      nonlinear = ap₂ bit_or c.nonlinear-b.ensures c.nonlinear-c.ensures;
    })
    c.settle.ensures
