-- `text::printing::refusal` meets its contract. Assumes nothing.
use mathlib.Core.Path.{◌∙◌}
use Rattle.writer.proofs.Writing.{put_refused}
use Rattle.text.specs.Output.{refusal_text}
use Rattle.text.proofs.printing.refusal.Goals as goal

pub returns : goal.returns
unfolding refusal_text
returns c = put_refused _ _ c.refusal.ensures (c.from.ensures ∙ c.number.ensures) c.place.ensures
