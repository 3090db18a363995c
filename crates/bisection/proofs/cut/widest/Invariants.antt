use mathlib.Core.Path.{◌≡◌}
use lib.ListN.{drop}
use Rattle.bisection.specs.Cut.{widest_from, widest}
use Rattle.bisection.specs.Box.{box_of}
use Rattle.bisection.proofs.cut.widest.Given as goal

abbrev pub invariant-loop-a : goal.invariant-loop-a
invariant-loop-a l = widest_from l.a l.best l.most (drop l.a (box_of l.n l.ends)) ≡ widest (box_of l.n l.ends)
