-- `Text::line_of_whole` meets its contract: its bytes have room for what is written. Assumes nothing.
use borrow.Author.Rules.{rules}
use Rattle.writer.proofs.Writing.{within}
use Rattle.writer.proofs.Text.line_of_whole.Goals as goal

pub invariant_of-self : goal.invariant_of-self
invariant_of-self g c = within _ _ _ _ c.line_of_whole-self-inside.ensures (search rules) c.self.invariant
