-- `bounds::rows::inv` meets its contract. Assumes nothing.
use borrow.Author.Rules.{rules}
use mathlib.Core.Path.{◌≡◌, sym, ap, subst, ◌∙◌}
use mathlib.Core.Bool.{true}
use Rattle.range.specs.declared.Range.{Range}
use Rattle.range.specs.Limit.{is_valid}
use Rattle.range.specs.Arithmetic.{neg_of, product_of, inverse_of}
use Rattle.range.specs.Power.{pow_of}
use Rattle.range.specs.Sums.{at}
use Rattle.range.proofs.Fitting.{neg-valid, neg_of-is}
use Rattle.rules.specs.Table.{inv_row}
use Rattle.bounds.specs.Terms.{Told}
use Rattle.bounds.specs.Table.{value_at, gradient_at}
use Rattle.bounds.proofs.Heads.{told-inv}
use Rattle.bounds.proofs.Operands.{told-inverse, told-product}
use Rattle.bounds.proofs.Working.{refers-inside, filled-slopes, worked, worked-none, worked-over}
use Rattle.bounds.proofs.Signs.{product-negated}
use Rattle.bounds.proofs.Zeros.{zero-inverse, inverse-over}
use Rattle.bounds.proofs.rows.inv.Goals as goal

pub returns-then-not-valid : goal.returns-then-not-valid
unfolding inv_row
returns-then-not-valid c =
    let inverse-is : c.inverse-v.result ≡ inverse_of (value_at c.args.t.now c.args.i) = c.inverse-v.ensures ∙ ap inverse_of c.value.ensures in
    let square-is : c.power-q.result ≡ pow_of (inverse_of (value_at c.args.t.now c.args.i)) 2 = c.power-q.ensures ∙ ap (λ (v : Range). pow_of v 2) inverse-is in
    let over = sym (c.valid.ensures ∙ ap is_valid square-is) ∙ c.if-not-valid.true in
    worked-over _ _ _ (inverse-over _ over _)

pub inverse_spectrum-requires : goal.inverse_spectrum-requires
inverse_spectrum-requires c =
    let inverse-is : c.inverse-v.result ≡ inverse_of (value_at c.args.t.now c.args.i) = c.inverse-v.ensures ∙ ap inverse_of c.value.ensures in
    let line = c.requires.refers in
    record { i_bound = refers-inside line c.requires.k_bound; fine = line.fine; v_value = inverse-is }

pub fill-requires-clause-callable : goal.fill-requires-clause-callable
fill-requires-clause-callable c =
    let v = sym c.valid.ensures ∙ c.if-not-valid.false in
    let minus-valid : is_valid c.negated-minus.result ≡ true = ap is_valid (c.negated-minus.ensures ∙ neg_of-is _ v) ∙ neg-valid _ v in
    λ g h v w. search rules

pub fill-requires-clause-told : goal.fill-requires-clause-told
fill-requires-clause-told c = λ g h r v w p. search (rules, told-product)

pub returns-in_err-g : goal.returns-in_err-g
unfolding inv_row
returns-in_err-g c =
    let inverse-is : c.inverse-v.result ≡ inverse_of (value_at c.args.t.now c.args.i) = c.inverse-v.ensures ∙ ap inverse_of c.value.ensures in
    let square-is : c.power-q.result ≡ pow_of (inverse_of (value_at c.args.t.now c.args.i)) 2 = c.power-q.ensures ∙ ap (λ (v : Range). pow_of v 2) inverse-is in
    let v : is_valid c.power-q.result ≡ true = sym c.valid.ensures ∙ c.if-not-valid.false in
    let g = at (gradient_at c.args.t.now c.args.i) in
    let rule = λ (g h : Range). product_of c.negated-minus.result g in
    rw c.from_residual.ensures
    (worked-none _ _ c.support.ensures _
    (λ a.
    ap (λ (q : Range). product_of q (g a)) c.negated-minus.ensures
    ∙ product-negated _ (g a) v
    ∙ ap (λ (q : Range). neg_of (product_of q (g a))) square-is)
    (λ a o. zero-inverse _ _ (sym (ap is_valid square-is) ∙ v) (c.requires.refers.fine.flat a o))
    (c.in_err-g.ensures rule (λ g h r v w p. search rules)))

pub settle-requires : goal.settle-requires
settle-requires c =
    let rule = λ (g h : Range). product_of c.negated-minus.result g in
    let q = filled-slopes (c.in_ok-g.ensures rule (λ g h r v w p. search rules)) in
    record {
      k_bound = c.requires.k_bound;
      told = subst Told (sym c.inverse-v.ensures) (told-inverse _);
      told_2 = told-inv _ _ c.inverse_spectrum.ensures;
      g_valid = q.0;
      g_value = q.1;
    }

pub returns : goal.returns
unfolding inv_row
returns c =
    let inverse-is : c.inverse-v.result ≡ inverse_of (value_at c.args.t.now c.args.i) = c.inverse-v.ensures ∙ ap inverse_of c.value.ensures in
    let square-is : c.power-q.result ≡ pow_of (inverse_of (value_at c.args.t.now c.args.i)) 2 = c.power-q.ensures ∙ ap (λ (v : Range). pow_of v 2) inverse-is in
    let v : is_valid c.power-q.result ≡ true = sym c.valid.ensures ∙ c.if-not-valid.false in
    let g = at (gradient_at c.args.t.now c.args.i) in
    let rule = λ (g h : Range). product_of c.negated-minus.result g in
    worked _ _ c.support.ensures _
    (λ a.
    ap (λ (q : Range). product_of q (g a)) c.negated-minus.ensures
    ∙ product-negated _ (g a) v
    ∙ ap (λ (q : Range). neg_of (product_of q (g a))) square-is)
    (λ a o. zero-inverse _ _ (sym (ap is_valid square-is) ∙ v) (c.requires.refers.fine.flat a o))
    (c.in_ok-g.ensures rule (λ g h r v w p. search rules))
    (record { value = inverse-is; spectrum = c.inverse_spectrum.ensures; support = c.support.ensures; nonlinear = c.reach.ensures })
    c.settle.ensures
