-- `Sheet::line` meets its contract.
use Rattle.formulas.proofs.WrittenLines.{natural-text}
use Rattle.formulas.proofs.lines.Sheet.line.Goals as goal

pub returns-clause-sheet : goal.returns-clause-sheet
returns-clause-sheet c = rw (c.number.ensures.sheet, c.line_of_two.ensures, natural-text c.args.w.now c.args.i c.args.j c.requires.1 c.requires.2)
