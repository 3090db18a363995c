-- `bounds::spectrum::extended` meets its contract. Assumes nothing.
use borrow.Author.Rules.{rules}
use borrow.Author.Tests.{eq-eqb, ne_eqb}
use Rattle.range.proofs.Fitting.{branching}
use Rattle.bounds.proofs.spectrum.extended.Goals as goal

pub returns-then-b-c : goal.returns-then-b-c
returns-then-b-c c = search (rules, branching, eq-eqb)

pub returns-else-b-c : goal.returns-else-b-c
returns-else-b-c c = search (rules, branching, ne_eqb, c.hull.ensures)
