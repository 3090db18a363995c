-- Ranges that are read from a list of numbers, two for each range. Assumes nothing.
use mathlib.Core.Path.{◌≡◌, refl, sym, ap}
use mathlib.Core.List.{List}
use Prim.Native.Nat.{ℕ, zero, suc, ◌+◌, ◌*◌, ◌<◌}
use native.Mathlib.Nat.{add-zero}
use native.Mathlib.Omega.{arith}
use lib.IntN.{ℤ}
use Rattle.range.specs.Sums.{at, pair_at, ranges_from}

-- the range of the factor a
pub ranges-at : (t : List ℤ) (i a : ℕ) → a < 8 → at (ranges_from t i) a ≡ pair_at t (i + 2 * a)
ranges-at t i zero l = ap (pair_at t) (sym (add-zero i))
ranges-at t i (suc zero) l = refl
ranges-at t i (suc (suc zero)) l = refl
ranges-at t i (suc (suc (suc zero))) l = refl
ranges-at t i (suc (suc (suc (suc zero)))) l = refl
ranges-at t i (suc (suc (suc (suc (suc zero))))) l = refl
ranges-at t i (suc (suc (suc (suc (suc (suc zero)))))) l = refl
ranges-at t i (suc (suc (suc (suc (suc (suc (suc zero))))))) l = refl
ranges-at t i (suc (suc (suc (suc (suc (suc (suc (suc a)))))))) l = let f : ⊥ = omega arith in absurd f
