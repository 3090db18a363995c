-- `text::printing::whole_field` meets its contract. Assumes nothing.
use mathlib.Core.Path.{ap, ◌∙◌}
use borrow.Author.Rules.{rules}
use mir.Facts.{to_z-of_z}
use mir.Syntax.{w64}
use Rattle.writer.specs.Lent.{put_text}
use Rattle.writer.proofs.Writing.{put_then}
use Rattle.text.proofs.Writing.{whole-field}
use Rattle.text.proofs.printing.whole_field.Goals as goal

pub returns : goal.returns
returns c =
    let x = to_z-of_z {w = w64} {z = c.args.x} (search rules) in
    put_then _ _ _ _ _ c.byte.ensures (rw x at c.whole.ensures)
    ∙ ap (put_text c.args.out.now) (whole-field c.args.x)
