-- `bounds::rows::pow` meets its contract. Assumes nothing.
use borrow.Author.Rules.{rules}
use mathlib.Core.Path.{◌≡◌, sym, ap, subst, ◌∙◌}
use mathlib.Core.Bool.{true}
use Prim.Native.Nat.{◌-◌}
use Rattle.range.specs.declared.Range.{Range}
use Rattle.range.specs.Limit.{is_valid}
use Rattle.range.specs.Arithmetic.{times_of, product_of}
use Rattle.range.specs.Power.{pow_of}
use Rattle.range.specs.Sums.{at}
use Rattle.rules.specs.Table.{pow_row}
use Rattle.bounds.specs.Terms.{Told}
use Rattle.bounds.specs.Table.{value_at, gradient_at}
use Rattle.bounds.proofs.Heads.{told-pow}
use Rattle.bounds.proofs.Operands.{told-power, told-times}
use Rattle.bounds.proofs.Working.{refers-inside, filled-slopes, worked, worked-none, worked-over}
use Rattle.bounds.proofs.Zeros.{zero-power, power-over}
use Rattle.bounds.proofs.rows.pow.Goals as goal

pub returns-then-not-valid : goal.returns-then-not-valid
unfolding pow_row
returns-then-not-valid c =
    let power-is : c.power-q.result ≡ pow_of (value_at c.args.t.now c.args.i) (c.args.m - 1) = c.power-q.ensures ∙ ap (λ (v : Range). pow_of v (c.args.m - 1)) c.value-x.ensures in
    let over = sym (c.valid.ensures ∙ ap is_valid power-is) ∙ c.if-not-valid.true in
    worked-over _ _ _ (power-over _ over _ c.args.m)

pub power_spectrum-requires : goal.power_spectrum-requires
power_spectrum-requires c =
    let line = c.requires.refers in
    record { i_bound = refers-inside line c.requires.k_bound; fine = line.fine; le_m = c.requires.le_m }

pub fill-requires-clause-callable : goal.fill-requires-clause-callable
fill-requires-clause-callable c =
    let power-valid : is_valid c.power-q.result ≡ true = sym c.valid.ensures ∙ c.if-not-valid.false in
    λ g h v w. search rules

pub fill-requires-clause-told : goal.fill-requires-clause-told
fill-requires-clause-told c = λ g h r v w p. search (rules, told-times)

pub returns-in_err-g : goal.returns-in_err-g
unfolding pow_row
returns-in_err-g c =
    let power-is : c.power-q.result ≡ pow_of (value_at c.args.t.now c.args.i) (c.args.m - 1) = c.power-q.ensures ∙ ap (λ (v : Range). pow_of v (c.args.m - 1)) c.value-x.ensures in
    let power-valid : is_valid c.power-q.result ≡ true = sym c.valid.ensures ∙ c.if-not-valid.false in
    let m = c.args.m in
    let rule = λ (g h : Range). times_of m (product_of c.power-q.result g) in
    rw c.from_residual.ensures
    (worked-none _ _ c.support.ensures _
    (λ a l. times_of m (product_of (power-is l) (at (gradient_at c.args.t.now c.args.i) a)))
    (λ a o. zero-power _ _ m (sym (ap is_valid power-is) ∙ power-valid) (c.requires.refers.fine.flat a o))
    (c.in_err-g.ensures rule (λ g h r v w p. search rules)))

pub settle-requires : goal.settle-requires
settle-requires c =
    let rule = λ (g h : Range). times_of c.args.m (product_of c.power-q.result g) in
    let q = filled-slopes (c.in_ok-g.ensures rule (λ g h r v w p. search rules)) in
    record {
      k_bound = c.requires.k_bound;
      told = subst Told (sym c.power.ensures) (told-power _ _);
      told_2 = told-pow _ _ _ c.power_spectrum.ensures;
      g_valid = q.0;
      g_value = q.1;
    }

pub returns : goal.returns
unfolding pow_row
returns c =
    let power-is : c.power-q.result ≡ pow_of (value_at c.args.t.now c.args.i) (c.args.m - 1) = c.power-q.ensures ∙ ap (λ (v : Range). pow_of v (c.args.m - 1)) c.value-x.ensures in
    let power-valid : is_valid c.power-q.result ≡ true = sym c.valid.ensures ∙ c.if-not-valid.false in
    let m = c.args.m in
    let rule = λ (g h : Range). times_of m (product_of c.power-q.result g) in
    worked _ _ c.support.ensures _
    (λ a l. times_of m (product_of (power-is l) (at (gradient_at c.args.t.now c.args.i) a)))
    (λ a o. zero-power _ _ m (sym (ap is_valid power-is) ∙ power-valid) (c.requires.refers.fine.flat a o))
    (c.in_ok-g.ensures rule (λ g h r v w p. search rules))
    (record {
      value = c.power.ensures ∙ ap (λ (v : Range). pow_of v m) c.value-x.ensures;
      spectrum = c.power_spectrum.ensures;
      support = c.support.ensures;
      nonlinear = c.reach.ensures;
    })
    c.settle.ensures
