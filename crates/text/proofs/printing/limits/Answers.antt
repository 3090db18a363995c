-- `text::printing::limits` meets its contract: the lines one after another. Assumes nothing.
use Rattle.writer.proofs.Writing.{then}
use Rattle.text.specs.Output.{limits_text}
use Rattle.text.proofs.printing.limits.Goals as goal

pub returns : goal.returns
unfolding limits_text
returns c =
    then _ _ _ _ _ (then _ _ _ _ _ c.word.ensures c.range_fields.ensures)
    (then _ _ _ _ _ c.slope_lines.ensures
    (then _ _ _ _ _ (then _ _ _ _ _ c.word-2.ensures c.set_fields.ensures)
    (then _ _ _ _ _ (then _ _ _ _ _ c.word-3.ensures c.set_fields-2.ensures)
    (then _ _ _ _ _ (then _ _ _ _ _ c.word-4.ensures c.range_fields-2.ensures)
    (then _ _ _ _ _ c.word-5.ensures c.range_fields-3.ensures)))))
