use Prim.Native.Nat.{◌≤◌, ◌*◌}
use Rattle.range.proofs.root.least_root.Given as goal

abbrev pub invariant-loop-r : goal.invariant-loop-r
invariant-loop-r l = (l.r ≤ 3000000000) × (l.x ≤ l.r * l.r) × (1 ≤ l.r)

abbrev pub decreases-loop-r : goal.decreases-loop-r
decreases-loop-r l = l.r
