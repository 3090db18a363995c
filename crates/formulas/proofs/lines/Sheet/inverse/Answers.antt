-- `Sheet::inverse` meets its contract.
use Rattle.formulas.proofs.WrittenLines.{inverse-text}
use Rattle.formulas.proofs.lines.Sheet.inverse.Goals as goal

pub returns-clause-sheet : goal.returns-clause-sheet
returns-clause-sheet c = rw (c.number.ensures.sheet, c.line_of_one.ensures, inverse-text c.args.i c.requires.1)
