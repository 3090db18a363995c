-- `writer::line_of_signed` meets its contract: piece after piece. Assumes nothing.
use borrow.Author.Rules.{rules}
use mir.Facts.{to_z-of_z}
use mir.Syntax.{w64}
use mir.Val.{SFits}
use Rattle.writer.proofs.Writing.{then, then-put, put_then}
use Rattle.writer.proofs.line_of_signed.Goals as goal

pub returns : goal.returns
returns c =
    let f : SFits w64 c.args.x = search rules in
    then _ _ _ _ _ c.word-begun.ensures
    (then _ _ _ _ _ c.natural-first.ensures
    (put_then _ _ _ _ _ c.byte-parted.ensures (then-put _ _ _ _ _ (rw (to_z-of_z f) at c.whole-second.ensures) c.byte.ensures)))
