-- `text::lent::limits` meets its contract: the lines one after another. Assumes nothing.
use Rattle.writer.proofs.Writing.{then}
use Rattle.text.specs.Output.{limits_text}
use Rattle.text.proofs.lent.limits.Goals as goal

pub returns : goal.returns
unfolding limits_text
returns c =
    then _ _ _ _ _ (then _ _ _ _ _ c.word-to.ensures c.range_fields-to.ensures)
    (then _ _ _ _ _ c.slope_lines-to.ensures
    (then _ _ _ _ _ (then _ _ _ _ _ c.word-to-2.ensures c.set_fields-to.ensures)
    (then _ _ _ _ _ (then _ _ _ _ _ c.word-to-3.ensures c.set_fields-to-2.ensures)
    (then _ _ _ _ _ (then _ _ _ _ _ c.word-to-4.ensures c.range_fields-to-2.ensures)
    (then _ _ _ _ _ c.word-to-5.ensures c.range_fields.ensures)))))
