-- `text::printing::range_fields` meets its contract. Assumes nothing.
use borrow.Author.Rules.{rules}
use mir.Facts.{to_z-of_z}
use mir.Syntax.{w64}
use Rattle.writer.proofs.Writing.{then, then-put}
use Rattle.text.specs.Output.{range_fields}
use Rattle.text.proofs.printing.range_fields.Goals as goal

pub returns : goal.returns
unfolding range_fields
returns c =
    let low = to_z-of_z {w = w64} {z = c.args.x.low} (search rules) in
    let high = to_z-of_z {w = w64} {z = c.args.x.high} (search rules) in
    then _ _ _ _ _ (rw low at c.whole_field.ensures) (then-put _ _ _ _ _ (rw high at c.whole_field-2.ensures) c.byte.ensures)
