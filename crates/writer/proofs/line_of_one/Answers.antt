-- `writer::line_of_one` meets its contract: piece after piece. Assumes nothing.
use Rattle.writer.proofs.Writing.{then, then-put}
use Rattle.writer.proofs.line_of_one.Goals as goal

pub returns : goal.returns
returns c = then _ _ _ _ _ c.word-begun.ensures (then-put _ _ _ _ _ c.natural-numbered.ensures c.byte.ensures)
