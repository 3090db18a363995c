-- `bounds::run::inverts_zero` meets its contract. Assumes nothing.
use mathlib.Core.Path.{sym, ap, subst, ◌∙◌}
use Rattle.range.specs.Arithmetic.{holds_zero}
use Rattle.codelist.specs.declared.Op.{Op}
use Rattle.codelist.specs.Codelist.{Earlier, WellFormedOp}
use Rattle.rules.specs.Run.{inverts_zero}
use Rattle.bounds.specs.Table.{lines_up_to}
use Rattle.bounds.proofs.Running.{inverts-at}
use native.Mathlib.Omega.{arith}
use Rattle.std.proofs.lemmas.Grind.{common_steps}
use Rattle.bounds.proofs.run.inverts_zero.Goals as goal

pub returns-in-Inv : goal.returns-in-Inv
returns-in-Inv c =
    let earlier : Earlier c.args.k c.in-Inv.i = subst (WellFormedOp _) c.in-Inv.is c.requires.well_formed_op in
    let t = c.args.t.now in
    let k = c.args.k in
    c.holds_zero.ensures
    ∙ ap holds_zero c.value.ensures
    ∙ inverts-at t k _ _ earlier c.index.ensures.0
    ∙ ap (λ (q : Op). inverts_zero q (lines_up_to t k)) (sym c.in-Inv.is)

pub returns-in-Add : goal.returns-in-Add
unfolding inverts_zero
returns-in-Add c = grind (arith, common_steps)
