use mathlib.Core.Bool.{true, false}
use mathlib.Core.Path.{◌≡◌}
use Prim.Native.Nat.{ℕ, ◌-◌, ◌≤◌, ◌<◌}
use Rattle.margin.specs.Edge.{moves}
use Rattle.margin.proofs.search.least.Given as goal

abbrev pub invariant-loop-still : goal.invariant-loop-still
invariant-loop-still l = (l.still < l.moved) × (l.moved ≤ l.most) × (moves l.c l.ranges l.ceiling l.a l.moved ≡ true)
    × ((u : ℕ) → 1 ≤ u → u ≤ l.still → moves l.c l.ranges l.ceiling l.a u ≡ false)

abbrev pub decreases-loop-still : goal.decreases-loop-still
decreases-loop-still l = l.moved - l.still
