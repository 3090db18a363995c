use Rattle.range.specs.declared.Range.{Range}
use Rattle.range.specs.Sums.{at}
use Rattle.bounds.specs.Table.{gradient_at, Gives}
use Rattle.bounds.proofs.Filling.{Holding, Filling}
use Rattle.bounds.proofs.table.Table.fill.Given as goal

abbrev pub invariant-loop-a : goal.invariant-loop-a
invariant-loop-a g l =
    Holding l.g l.initial.self l.k l.self
    × ((f : Range → Range → Range) → Gives (goal.F-post g l.rule) f
    → Filling l.set (λ b. f (at (gradient_at l.initial.self l.i) b) (at (gradient_at l.initial.self l.j) b)) l.g l.a)
