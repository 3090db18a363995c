-- The square root of a natural number, rounded down (`floor_sqrt`) and up (`ceil_sqrt`; 01, Cross: "the square root, rounded up").
-- Both compute on literals of any size: one step for each two bits.
use Rattle.std.specs.Prelude.{cond, ℕ, zero, suc, ◌+◌, ◌*◌, ◌/◌, ◌≤◌, ◌<◌, leb}

-- the root of n from the root of n / 4, whose bits are those of n's root but the last. The first argument bounds the steps
unfoldable pub root_bits : ℕ → ℕ → ℕ
root_bits zero n = zero
root_bits (suc f) zero = zero
root_bits (suc f) (suc n) = let r = 2 * root_bits f (suc n / 4) in cond (leb ((r + 1) * (r + 1)) (suc n)) (r + 1) r

-- the greatest r with r * r ≤ n
unfoldable pub floor_sqrt : ℕ → ℕ
floor_sqrt n = root_bits n n

-- the least r with n ≤ r * r: of n + 1, the first r with n < r * r
unfoldable pub ceil_sqrt : ℕ → ℕ
ceil_sqrt zero = zero
ceil_sqrt (suc n) = suc (floor_sqrt n)

-- what the two are: `floor-root` and `ceil-root` prove it of every n
pub record IsFloorSqrt (n r : ℕ) : Type 0 where
  pub low : r * r ≤ n
  pub high : n < suc r * suc r

pub record IsCeilSqrt (n r : ℕ) : Type 0 where
  pub high : n ≤ r * r
  pub least : (s : ℕ) → n ≤ s * s → r ≤ s
