-- `whole` meets its contract: by its sign. Assumes nothing.
use Prim.Native.Nat.{ℕ}
use mathlib.Core.List.{◌∷◌}
use mathlib.Core.Path.{ap, ap₂, ◌∙◌}
use borrow.Author.Rules.{rules}
use mir.Facts.{to_z-of_z}
use mir.Syntax.{w64}
use Rattle.codelist.specs.Text.{decimal}
use Rattle.writer.specs.Lent.{Lent, lent, put_text}
use Rattle.writer.proofs.Signs.{below-text, above-text}
use Rattle.writer.proofs.Writing.{put_then}
use Rattle.writer.proofs.whole.Goals as goal
use Rattle.writer.proofs.whole.Goals.{then-x-lt0, else-x-lt0}

pub returns : goal.returns
returns c =
    let o = lent c.args.buffer.now c.args.at in
    let x = to_z-of_z {w = w64} {z = c.args.x} (search rules) in
    let size = rw x at c.unsigned_abs.ensures.value in
    elim c.if-x-lt0.branch [
      | then-x-lt0 w ↦
          put_then _ _ _ _ _ (ap₂ lent w.buffer-is w.to-is ∙ w.byte-to.ensures) c.natural.ensures
          ∙ ap (put_text o) (ap (λ (k : ℕ). 45 ∷ decimal 19 k) size ∙ below-text c.args.x (rw x at w.if-x-lt0.true))
      | else-x-lt0 w ↦
          c.natural.ensures
          ∙ ap (λ (a : Lent). put_text a (decimal 19 c.unsigned_abs.result)) (ap₂ lent w.buffer-is w.to-is)
          ∙ ap (put_text o) (ap (decimal 19) size ∙ above-text c.args.x (rw x at w.if-x-lt0.false))
    ]
