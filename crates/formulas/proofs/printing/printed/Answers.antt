-- `printing::printed` meets its contract: the sheet where loading accepts it, and else the refusal.
use Rattle.formulas.proofs.Answers.{prints-sheet, prints-refusal}
use Rattle.formulas.proofs.printing.printed.Goals as goal

pub returns-in-Ok-load : goal.returns-in-Ok-load
returns-in-Ok-load c = prints-sheet c.args.text.now c.args.count c.in-Ok.sheet c.in-Ok.ensures c.as_slice.ensures c.in-Ok-load.ensures

pub returns-in-Err-load : goal.returns-in-Err-load
returns-in-Err-load c =
    rw (c.refused.ensures, c.from.ensures, c.number.ensures, c.place.ensures)
    (prints-refusal c.args.text.now c.args.count c.in-Ok.sheet c.in-Ok.ensures c.as_slice.ensures c.in-Err-load.why c.in-Err-load.ensures)
