use Prim.Native.Nat.{◌≤◌, ◌-◌}
use Rattle.range.proofs.root.root_above.Given as goal

abbrev pub invariant-loop-r : goal.invariant-loop-r
invariant-loop-r l = l.r ≤ 3000000000

abbrev pub decreases-loop-r : goal.decreases-loop-r
decreases-loop-r l = 3000000000 - l.r
