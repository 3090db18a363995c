-- `bounds::rows::mulc` meets its contract. Assumes nothing.
use borrow.Author.Rules.{rules}
use mathlib.Core.Path.{◌≡◌, sym, ap, ap₂, subst, ◌∙◌}
use mathlib.Core.Bool.{true}
use Rattle.range.specs.declared.Range.{Range}
use Rattle.range.specs.Limit.{from_to, is_valid}
use Rattle.range.specs.Arithmetic.{product_of}
use Rattle.range.specs.Sums.{at}
use Rattle.rules.specs.Table.{mulc_row}
use Rattle.bounds.specs.Terms.{Told}
use Rattle.bounds.specs.Table.{gradient_at}
use Rattle.bounds.proofs.Operands.{told-product}
use Rattle.bounds.proofs.Validity.{value-valid, spectrum-valid}
use Rattle.bounds.proofs.Working.{filled-slopes, worked, worked-none}
use Rattle.bounds.proofs.Zeros.{zero-product, point-valid}
use Rattle.bounds.proofs.rows.mulc.Goals as goal

pub product-requires : goal.product-requires
product-requires c =
    let point : c.new-q.result ≡ from_to c.args.c c.args.c = search (rules, c.new-q.ensures) in
    let constant-valid : is_valid c.new-q.result ≡ true = ap is_valid point ∙ point-valid _ c.requires.c_bound in
    record { a_value = constant-valid; b_value = ap is_valid c.value.ensures ∙ value-valid _ c.requires.refers.fine.valid }

pub product-requires-2 : goal.product-requires-2
product-requires-2 c =
    let point : c.new-q.result ≡ from_to c.args.c c.args.c = search (rules, c.new-q.ensures) in
    let constant-valid : is_valid c.new-q.result ≡ true = ap is_valid point ∙ point-valid _ c.requires.c_bound in
    record { a_value = constant-valid; b_value = ap is_valid c.spectrum.ensures ∙ spectrum-valid _ c.requires.refers.fine.valid }

pub fill-requires-clause-callable : goal.fill-requires-clause-callable
fill-requires-clause-callable c =
    let point : c.new-q.result ≡ from_to c.args.c c.args.c = search (rules, c.new-q.ensures) in
    let constant-valid : is_valid c.new-q.result ≡ true = ap is_valid point ∙ point-valid _ c.requires.c_bound in
    λ g h v w. search rules

pub fill-requires-clause-told : goal.fill-requires-clause-told
fill-requires-clause-told c = λ g h r v w p. search (rules, told-product)

pub returns-in_err-g : goal.returns-in_err-g
unfolding mulc_row
returns-in_err-g c =
    let point : c.new-q.result ≡ from_to c.args.c c.args.c = search (rules, c.new-q.ensures) in
    let rule = λ (g h : Range). product_of c.new-q.result g in
    rw c.from_residual.ensures
    (worked-none _ _ c.support.ensures _
    (λ a l. product_of (point l) (at (gradient_at c.args.t.now c.args.i) a))
    (λ a o. ap (product_of _) (c.requires.refers.fine.flat a o) ∙ zero-product _ (point-valid _ c.requires.c_bound))
    (c.in_err-g.ensures rule (λ g h r v w p. search rules)))

pub settle-requires : goal.settle-requires
settle-requires c =
    let rule = λ (g h : Range). product_of c.new-q.result g in
    let q = filled-slopes (c.in_ok-g.ensures rule (λ g h r v w p. search rules)) in
    record {
      k_bound = c.requires.k_bound;
      told = subst Told (sym c.product.ensures) (told-product _ _);
      told_2 = subst Told (sym c.product-2.ensures) (told-product _ _);
      g_valid = q.0;
      g_value = q.1;
    }

pub returns : goal.returns
unfolding mulc_row
returns c =
    let point : c.new-q.result ≡ from_to c.args.c c.args.c = search (rules, c.new-q.ensures) in
    let rule = λ (g h : Range). product_of c.new-q.result g in
    worked _ _ c.support.ensures _
    (λ a l. product_of (point l) (at (gradient_at c.args.t.now c.args.i) a))
    (λ a o. ap (product_of _) (c.requires.refers.fine.flat a o) ∙ zero-product _ (point-valid _ c.requires.c_bound))
    (c.in_ok-g.ensures rule (λ g h r v w p. search rules))
    (record {
      value = c.product.ensures ∙ ap₂ product_of point c.value.ensures;
      spectrum = c.product-2.ensures ∙ ap₂ product_of point c.spectrum.ensures;
      support = c.support.ensures;
      nonlinear = c.nonlinear.ensures;
    })
    c.settle.ensures
