-- `text::answer_after` meets its contract: what is put into the zeros is the written text. Assumes nothing.
use mathlib.Core.Path.{ap, ◌∙◌}
use Rattle.text.specs.Answer.{written}
use Rattle.text.proofs.Writing.{put_written}
use Rattle.text.proofs.answer_after.Goals as goal

pub returns-in-Ok : goal.returns-in-Ok
returns-in-Ok c = put_written _ _ _ c.new-out.ensures c.limits.ensures ∙ ap written c.in-Ok.ensures

pub returns-in-Err : goal.returns-in-Err
returns-in-Err c = put_written _ _ _ c.new-out.ensures c.refusal.ensures ∙ ap written c.in-Err.ensures
