use mathlib.Core.Path.{◌≡◌}
use Prim.Native.Nat.{ℕ, ◌<◌}
use lib.ListN.{length}
use Rattle.range.specs.Arithmetic.{ends_hull}
use Rattle.range.specs.Sums.{at}
use Rattle.bisection.proofs.hull.limits.Given as goal

abbrev pub invariant-loop-a : goal.invariant-loop-a
invariant-loop-a l = (length l.gradient ≡ 8) × ((k : ℕ) → k < l.a → at l.gradient k ≡ ends_hull (at l.l.gradient k) (at l.m.gradient k))
