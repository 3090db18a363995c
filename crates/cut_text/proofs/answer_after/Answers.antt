-- `cut_text::answer_after` meets its contract: what is put into the zeros is the written text. Assumes nothing.
use Rattle.std.proofs.Common.{ap, ◌∙◌}
use Rattle.writer.specs.Lent.{put_text}
use Rattle.text.proofs.Writing.{put_written}
use Rattle.cut_text.proofs.answer_after.Goals as goal

pub returns-in-Ok : goal.returns-in-Ok
returns-in-Ok c = put_written _ _ _ c.new-out.ensures (c.limits.ensures ∙ ap (put_text c.new-out.result) c.in-Ok.ensures)

pub returns-in-Err : goal.returns-in-Err
returns-in-Err c = put_written _ _ _ c.new-out.ensures (c.refused.ensures ∙ ap (put_text c.new-out.result) c.in-Err.ensures)
