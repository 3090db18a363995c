use Prim.Native.Nat.{◌≤◌}
use Rattle.range.proofs.root.near_root.Given as goal

abbrev pub invariant-loop : goal.invariant-loop
invariant-loop l = (1 ≤ l.r) × (l.r ≤ 9000000000000000002)
