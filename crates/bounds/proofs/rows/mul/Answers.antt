-- `bounds::rows::mul` meets its contract. Assumes nothing.
use borrow.Author.Rules.{rules}
use mathlib.Core.Path.{◌≡◌, sym, ap, ap₂, subst, ◌∙◌}
use mathlib.Core.Bool.{true}
use lib.Bits.{bit_or}
use Rattle.range.specs.declared.Range.{Range}
use Rattle.range.specs.Limit.{is_valid}
use Rattle.range.specs.Arithmetic.{sum_of, product_of}
use Rattle.range.specs.Sums.{at}
use Rattle.rules.specs.Table.{mul_row}
use Rattle.bounds.specs.Terms.{Told}
use Rattle.bounds.specs.Table.{gradient_at}
use Rattle.bounds.proofs.Heads.{told-mul}
use Rattle.bounds.proofs.Members.{outside-union}
use Rattle.bounds.proofs.Operands.{told-product, told-sum}
use Rattle.bounds.proofs.Validity.{value-valid}
use Rattle.bounds.proofs.Working.{refers-inside, filled-slopes, worked, worked-none}
use Rattle.bounds.proofs.Zeros.{zero-sum, zero-product}
use Rattle.bounds.proofs.rows.mul.Goals as goal

pub product-requires : goal.product-requires
product-requires c = record { a_value = ap is_valid c.value-v.ensures ∙ value-valid _ c.requires.refers.fine.valid; b_value = ap is_valid c.value-w.ensures ∙ value-valid _ c.requires.refers_2.fine.valid }

pub product_spectrum-requires : goal.product_spectrum-requires
product_spectrum-requires c = record { i_bound = refers-inside c.requires.refers c.requires.k_bound; j_bound = refers-inside c.requires.refers_2 c.requires.k_bound; fine = c.requires.refers.fine; fine_2 = c.requires.refers_2.fine }

pub fill-requires-clause-callable : goal.fill-requires-clause-callable
fill-requires-clause-callable c =
    let x : is_valid c.value-v.result ≡ true = ap is_valid c.value-v.ensures ∙ value-valid _ c.requires.refers.fine.valid in
    let y : is_valid c.value-w.result ≡ true = ap is_valid c.value-w.ensures ∙ value-valid _ c.requires.refers_2.fine.valid in
    λ g h v w. search (rules, told-product)

pub fill-requires-clause-told : goal.fill-requires-clause-told
fill-requires-clause-told c = λ g h r v w p. search (rules, told-sum)

pub returns-in_err-g : goal.returns-in_err-g
unfolding mul_row
returns-in_err-g c =
    let rule = λ (g h : Range). sum_of (product_of c.value-v.result h) (product_of c.value-w.result g) in
    rw c.from_residual.ensures
    (worked-none _ _ (ap₂ bit_or c.support.ensures c.support-2.ensures) _
    (λ a l. sum_of (product_of (c.value-v.ensures l) (at (gradient_at c.args.t.now c.args.j) a)) (product_of (c.value-w.ensures l) (at (gradient_at c.args.t.now c.args.i) a)))
    (λ a o.
    let out = outside-union _ _ a o in
    ap₂ sum_of
    (ap (product_of _) (c.requires.refers_2.fine.flat a out.1) ∙ zero-product _ (value-valid _ c.requires.refers.fine.valid))
    (ap (product_of _) (c.requires.refers.fine.flat a out.0) ∙ zero-product _ (value-valid _ c.requires.refers_2.fine.valid))
    ∙ zero-sum)
    (c.in_err-g.ensures rule (λ g h r v w p. search rules)))

pub settle-requires : goal.settle-requires
settle-requires c =
    let rule = λ (g h : Range). sum_of (product_of c.value-v.result h) (product_of c.value-w.result g) in
    let q = filled-slopes (c.in_ok-g.ensures rule (λ g h r v w p. search rules)) in
    record {
      k_bound = c.requires.k_bound;
      told = subst Told (sym c.product.ensures) (told-product _ _);
      told_2 = told-mul _ _ _ c.product_spectrum.ensures;
      g_valid = q.0;
      g_value = q.1;
    }

pub returns : goal.returns
unfolding mul_row
returns c =
    let rule = λ (g h : Range). sum_of (product_of c.value-v.result h) (product_of c.value-w.result g) in
    worked _ _ (ap₂ bit_or c.support.ensures c.support-2.ensures) _
    (λ a l. sum_of (product_of (c.value-v.ensures l) (at (gradient_at c.args.t.now c.args.j) a)) (product_of (c.value-w.ensures l) (at (gradient_at c.args.t.now c.args.i) a)))
    (λ a o.
    let out = outside-union _ _ a o in
    ap₂ sum_of
    (ap (product_of _) (c.requires.refers_2.fine.flat a out.1) ∙ zero-product _ (value-valid _ c.requires.refers.fine.valid))
    (ap (product_of _) (c.requires.refers.fine.flat a out.0) ∙ zero-product _ (value-valid _ c.requires.refers_2.fine.valid))
    ∙ zero-sum)
    (c.in_ok-g.ensures rule (λ g h r v w p. search rules))
    (record {
      value = c.product.ensures ∙ ap₂ product_of c.value-v.ensures c.value-w.ensures;
      spectrum = c.product_spectrum.ensures;
      support = ap₂ bit_or c.support.ensures c.support-2.ensures;
      nonlinear = ap₂ bit_or c.reach.ensures c.reach-2.ensures;
    })
    c.settle.ensures
