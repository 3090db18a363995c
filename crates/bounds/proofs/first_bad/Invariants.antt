use mathlib.Core.Path.{◌≡◌}
use Prim.Native.Nat.{◌+◌}
use lib.ListN.{drop}
use Rattle.rules.specs.Rate.{pairs, first_bad}
use Rattle.bounds.proofs.first_bad.Given as goal

abbrev pub invariant-loop-a : goal.invariant-loop-a
invariant-loop-a l = first_bad (l.a + 1) (drop l.a (pairs l.xs)) ≡ first_bad 1 (pairs l.xs)
