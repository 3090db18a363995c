-- `writer::line_of_two` meets its contract: piece after piece. Assumes nothing.
use Rattle.writer.proofs.Writing.{then, then-put, put_then}
use Rattle.writer.proofs.line_of_two.Goals as goal

pub returns : goal.returns
returns c =
    then _ _ _ _ _ c.word-begun.ensures
    (then _ _ _ _ _ c.natural-first.ensures
    (put_then _ _ _ _ _ c.byte-parted.ensures (then-put _ _ _ _ _ c.natural-second.ensures c.byte.ensures)))
