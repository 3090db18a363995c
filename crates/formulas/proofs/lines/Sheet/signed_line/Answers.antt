-- `Sheet::signed_line` meets its contract.
use Rattle.std.proofs.Math.Facts.{to_z-of_z}
use Rattle.formulas.proofs.WrittenLines.{whole-text}
use Rattle.formulas.proofs.lines.Sheet.signed_line.Goals as goal

pub returns-clause-sheet : goal.returns-clause-sheet
returns-clause-sheet c =
    rw (c.number.ensures.sheet, c.line_of_signed.ensures, to_z-of_z c.ranges.x, whole-text c.args.w.now c.args.i c.args.x c.requires.1 c.requires.2)
