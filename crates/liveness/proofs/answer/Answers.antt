use mathlib.Core.Path.{sym, ap₂, ◌∙◌}
use lib.Seq.{length-take-le}
use Rattle.writer.specs.Lent.{put_text}
use Rattle.writer.specs.Texts.{refused_text}
use Rattle.liveness.proofs.Printed.{text_inside, text_printed, refusal_printed}
use Rattle.liveness.proofs.answer.Goals as goal

pub slice_bounds-word-end : goal.slice_bounds-word-end
slice_bounds-word-end c = sym (length-take-le _ _ (text_inside c.args.sheet.now _ c.in-Ok.ensures.buffer_after _ c.in-Ok.ensures.value))

pub returns-in-Ok : goal.returns-in-Ok
returns-in-Ok c =
    c.word.ensures ∙ ap₂ put_text c.new-text.ensures (text_printed c.args.sheet.now _ c.in-Ok.ensures.buffer_after _ c.in-Ok.ensures.value)

pub returns-in-Err : goal.returns-in-Err
returns-in-Err c =
    c.refusal.ensures
    ∙ ap₂ put_text c.new-text.ensures
    (ap₂ refused_text (c.from.ensures ∙ c.number.ensures) c.place.ensures ∙ refusal_printed c.args.sheet.now _ c.in-Err.ensures.value)
