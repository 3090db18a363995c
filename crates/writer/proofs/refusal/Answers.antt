-- `writer::refusal` meets its contract. Assumes nothing.
use Rattle.writer.specs.Texts.{refused_text}
use Rattle.writer.proofs.refusal.Goals as goal

pub returns : goal.returns
unfolding refused_text
returns c = c.line_of_two.ensures
