-- `reader::reference` meets its contract, which is the same comparison.
use borrow.Author.Tests.{le-leb, lt-leb}
use Rattle.formulas.specs.Convert.{reference}
use Rattle.formulas.proofs.reader.reference.Goals as goal

pub returns-then-i-n : goal.returns-then-i-n
unfolding reference
returns-then-i-n c = simp (le-leb _ _ c.if-i-n.true)

pub returns-else-i-n : goal.returns-else-i-n
unfolding reference
returns-else-i-n c = simp (lt-leb _ _ c.if-i-n.false)
