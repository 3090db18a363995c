-- `Sheet::new` meets its contract.
use Rattle.formulas.proofs.WrittenLines.{first-text}
use Rattle.formulas.proofs.lines.Sheet.new.Goals as goal

pub returns : goal.returns
returns c = rw (c.line_of_one.ensures, c.new-text.ensures, first-text c.args.factors c.requires)
