-- `text::printing::set_fields` meets its contract: the members among the factors passed are there. Assumes nothing.
use mathlib.Core.Path.{◌≡◌, ◌∙◌}
use native.Mathlib.Omega.{arith}
use Rattle.writer.proofs.Writing.{then-put}
use Rattle.text.specs.Output.{set_fields}
use Rattle.text.proofs.Members.{members-start, listed, unlisted}
use Rattle.text.proofs.printing.set_fields.Goals as goal
use Rattle.text.proofs.printing.set_fields.Goals.{then-set-a-eq1, else-set-a-eq1}

pub loop-a-init : goal.loop-a-init
loop-a-init c = members-start _ _

pub loop-a-preserved : goal.loop-a-preserved
loop-a-preserved c =
    let l = c.loop-a in
    elim c.if-set-a-eq1.branch [
      | then-set-a-eq1 w ↦
          listed _ _ _ _ l.invariant _ w.if-set-a-eq1.true (w.out-is ∙ (rw w.from.ensures at w.natural_field.ensures))
      | else-set-a-eq1 w ↦ w.out-is ∙ unlisted _ _ _ _ l.invariant w.if-set-a-eq1.false
    ]

pub returns : goal.returns
unfolding set_fields
returns c =
    let n : c.loop-a.a ≡ 8 = omega (arith, c.loop-a.auto.a-end, c.loop-a-test.false) in
    then-put _ _ _ _ _ (rw n at c.loop-a.invariant) c.byte.ensures
