-- `Text::byte` meets its contract: its bytes have room for what is written. Assumes nothing.
use borrow.Author.Rules.{rules}
use Rattle.writer.proofs.Writing.{put_one, within}
use Rattle.writer.proofs.Text.byte.Goals as goal

pub invariant_of-self : goal.invariant_of-self
invariant_of-self g c = within _ _ _ _ (put_one _ _ _ c.byte-self-inside.ensures) (search rules) c.self.invariant
