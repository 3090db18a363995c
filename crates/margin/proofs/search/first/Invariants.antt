use Prim.Native.Nat.{◌-◌}
use Rattle.margin.specs.Edge.{moves}
use Rattle.margin.proofs.Best.{Best}
use Rattle.margin.proofs.search.first.Given as goal

abbrev pub invariant-loop-factor : goal.invariant-loop-factor
invariant-loop-factor l = Best (moves l.c l.ranges l.ceiling) (l.factor - 1) l.best
