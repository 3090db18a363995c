-- `bounds::rows::addc` meets its contract. Assumes nothing.
use borrow.Author.Rules.{rules}
use mathlib.Core.Path.{◌≡◌, refl, sym, ap, ap₂, subst, ◌∙◌}
use Rattle.range.specs.Limit.{from_to, is_valid}
use Rattle.range.specs.Sums.{at}
use Rattle.range.specs.Arithmetic.{sum_of}
use Rattle.rules.specs.Table.{addc_row}
use Rattle.bounds.specs.Terms.{Told}
use Rattle.bounds.specs.Table.{gradient_at, line_at}
use Rattle.bounds.proofs.Operands.{told-valid, told-sum}
use Rattle.bounds.proofs.Validity.{value-valid, spectrum-valid}
use Rattle.bounds.proofs.Working.{own-filled, filled-slopes, worked}
use Rattle.bounds.proofs.Zeros.{point-valid}
use Rattle.bounds.proofs.rows.addc.Goals as goal

pub sum-requires : goal.sum-requires
sum-requires c =
    let point : c.new.result ≡ from_to c.args.c c.args.c = search (rules, c.new.ensures) in
    record { a_value = ap is_valid c.value.ensures ∙ value-valid _ c.requires.refers.fine.valid; b_value = ap is_valid point ∙ point-valid _ c.requires.c_bound }

pub settle-requires : goal.settle-requires
settle-requires c =
    let q = filled-slopes c.copied-g.ensures in
    record {
      k_bound = c.requires.k_bound;
      told = subst Told (sym c.sum.ensures) (told-sum _ _);
      told_2 = told-valid _ (ap is_valid c.spectrum.ensures ∙ spectrum-valid _ c.requires.refers.fine.valid);
      g_valid = q.0;
      g_value = q.1;
    }

pub returns : goal.returns
unfolding addc_row
returns c =
    let point : c.new.result ≡ from_to c.args.c c.args.c = search (rules, c.new.ensures) in
    worked (addc_row (line_at c.args.t.now c.args.i) c.args.c) _ refl (at (gradient_at c.args.t.now c.args.i)) (λ a. refl) c.requires.refers.fine.flat
    (own-filled c.requires.refers c.copied-g.ensures)
    (record {
      value = c.sum.ensures ∙ ap₂ sum_of c.value.ensures point;
      spectrum = c.spectrum.ensures;
      support = c.support.ensures;
      nonlinear = c.nonlinear.ensures;
    })
    c.settle.ensures
