-- `text::printing::natural_field` meets its contract. Assumes nothing.
use Rattle.writer.proofs.Writing.{put_then}
use Rattle.text.specs.Output.{natural_field}
use Rattle.text.proofs.printing.natural_field.Goals as goal

pub returns : goal.returns
unfolding natural_field
returns c = put_then _ _ _ _ _ c.byte.ensures c.natural.ensures
