-- `printing::refused` meets its contract.
use Rattle.formulas.proofs.printing.refused.Goals as goal

pub returns : goal.returns
returns c = rw (c.refusal.ensures, c.new-out.ensures)
