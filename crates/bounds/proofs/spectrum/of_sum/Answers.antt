-- `bounds::spectrum::of_sum` meets its contract. Assumes nothing.
use borrow.Author.Rules.{rules}
use Rattle.range.proofs.Fitting.{branching}
use Rattle.rules.specs.Sets.{◌∪◌}
use Rattle.bounds.proofs.Operands.{told-extended}
use Rattle.bounds.proofs.spectrum.of_sum.Goals as goal

pub told_sum-requires : goal.told_sum-requires
told_sum-requires c =
    let b = c.args.b in
    let d = c.args.c in record { told = rw c.extended.ensures (told-extended _ b (b ∪ d) c.requires.told); told_2 = rw c.extended-else-are_apart.ensures (told-extended _ d (b ∪ d) c.requires.told_2) }

pub returns-then-are_apart : goal.returns-then-are_apart
returns-then-are_apart c = search (rules, branching, c.told_hull.ensures)

pub returns-else-are_apart : goal.returns-else-are_apart
returns-else-are_apart c = search (rules, branching, c.told_sum.ensures, c.extended-else-are_apart.ensures, c.extended.ensures)
