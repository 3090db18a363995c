-- `writer::byte` meets its contract. Assumes nothing.
use borrow.Author.Tests.{lt-ltb, le-ltb}
use Rattle.writer.specs.Lent.{put}
use Rattle.writer.proofs.byte.Goals as goal

pub returns-then-at-buffer : goal.returns-then-at-buffer
unfolding put
returns-then-at-buffer c = simp (lt-ltb _ _ c.if-at-buffer.true)

pub returns-else-at-buffer : goal.returns-else-at-buffer
unfolding put
returns-else-at-buffer c = simp (le-ltb _ _ c.if-at-buffer.false)
