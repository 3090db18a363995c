-- The square roots of specs/Sqrt are what their records say, and keep the order.
use mathlib.Core.Path.{◌≡◌}
use mathlib.Core.Bool.{Bool, true, false, not, cond}
use Prim.Native.Nat.{ℕ, zero, suc, ◌+◌, ◌*◌, ◌/◌, ◌≤◌, ◌<◌, zero-le}
use native.Mathlib.Omega.{arith}
use native.Mathlib.Nat as N
use lib.Dec.{T, leb, leb→le, nleb→lt}
unfoldable pub use Rattle.exact.specs.Sqrt.{root_bits, floor_sqrt, ceil_sqrt}
pub use Rattle.exact.specs.Sqrt.{IsFloorSqrt, IsCeilSqrt}

-- ════ rounded down ════

step : (n m r : ℕ) → 4 * m ≤ n → n < 4 * m + 4 → IsFloorSqrt m r
    → IsFloorSqrt n (cond (leb ((2 * r + 1) * (2 * r + 1)) n) (2 * r + 1) (2 * r))
step n m r h k i = go (leb ((2 * r + 1) * (2 * r + 1)) n) (leb→le _ n) (nleb→lt _ n)
  where
    go : (c : Bool) → (T c → (2 * r + 1) * (2 * r + 1) ≤ n) → (T (not c) → n < (2 * r + 1) * (2 * r + 1))
        → IsFloorSqrt n (cond c (2 * r + 1) (2 * r))
    go true f g = let t = f tt in omega (arith, i.low, i.high)
    go false f g = let t = g tt in omega (arith, i.low, i.high)

bits : (f n : ℕ) → n ≤ f → IsFloorSqrt n (root_bits f n)
unfolding root_bits
bits zero n h = record { low = omega arith; high = omega arith }
bits (suc f) zero h = record { low = omega arith; high = omega arith }
bits (suc f) (suc n) h = step (suc n) (suc n / 4) (root_bits f (suc n / 4)) (omega arith) (omega arith) (bits f (suc n / 4) (omega arith))

pub floor-root : (n : ℕ) → IsFloorSqrt n (floor_sqrt n)
unfolding floor_sqrt
floor-root n = bits n n (N.le_refl n)

-- ════ rounded up ════

-- an order of squares is one of their roots
pub root-lt : {a b : ℕ} → a * a < b * b → a < b
root-lt {a} {b} h = N.lt_of_not-le (λ k. omega (arith, N.mul-le-mul k k))

pub ceil-root : (n : ℕ) → IsCeilSqrt n (ceil_sqrt n)
unfolding ceil_sqrt
ceil-root zero = record { high = omega arith; least = λ s h. zero-le }
ceil-root (suc n) = record { high = (floor-root n).high; least = λ s h. root-lt (N.lt_of_le_of_lt (floor-root n).low h) }

pub ceil-root-unique : {n r s : ℕ} → IsCeilSqrt n r → IsCeilSqrt n s → r ≡ s
ceil-root-unique {n} {r} {s} i j = N.le_antisymm (i.least s j.high) (j.least r i.high)

pub ceil-root-mono : {m n : ℕ} → m ≤ n → ceil_sqrt m ≤ ceil_sqrt n
ceil-root-mono {m} {n} h = (ceil-root m).least _ (N.le_trans h (ceil-root n).high)
