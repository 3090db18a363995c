-- `natural` meets its contract: the digits before the last, and the last. Assumes nothing.
use Prim.Native.Nat.{◌+◌, ◌%◌}
use mathlib.Core.Path.{ap, ap₂, ◌∙◌, sym}
use borrow.Author.Rules.{rules}
use Rattle.writer.specs.Lent.{Lent, lent, put, put_text}
use Rattle.writer.proofs.Digits.{natural-more, natural-few}
use Rattle.writer.proofs.Writing.{put_one, then-put}
use Rattle.writer.proofs.+natural.Goals as goal
use Rattle.writer.proofs.+natural.Goals.{then-number-ge10, else-number-ge10}

pub returns : goal.returns
returns t c =
    let o = lent c.args.buffer.now c.args.at in
    elim c.if-number-ge10.branch [
      | then-number-ge10 w ↦
          then-put _ _ _ _ _ (ap₂ lent w.buffer-is w.to-is ∙ w.natural-to.ensures) c.byte.ensures
          ∙ ap (put_text o) (sym (natural-more _ w.if-number-ge10.true (search rules)))
      | else-number-ge10 w ↦
          put_one _ _ _ (c.byte.ensures ∙ ap (λ (x : Lent). put x (48 + c.args.number % 10)) (ap₂ lent w.buffer-is w.to-is))
          ∙ ap (put_text o) (sym (natural-few _ w.if-number-ge10.false))
    ]
