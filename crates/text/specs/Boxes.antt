-- The box lines as the code holds them.
use Rattle.std.specs.Prelude as std
use Rattle.std.specs.Prelude.{◌≡◌, ℕ, ◌-◌, ◌≤◌, List, ◌++◌, length, take, replicate, ℤ, pos}
use Rattle.std.proofs.Math.Option.{Option, none, some}

-- The numbers of the box lines
abbrev pub numbers_of : std.Option (List ℤ) → Option (List ℤ)
numbers_of (std.Some xs) = some xs
numbers_of std.None = none

-- Sixteen numbers: those of the box lines, and zeros behind them
abbrev pub sixteen : List ℤ → List ℤ
sixteen xs = xs ++ replicate (16 - length xs) (pos 0)

-- The first `count` of sixteen numbers, and zeros behind them
pub record Fits (ends : List ℤ) (count : ℕ) : Type 0 where
  pub few : count ≤ 16
  pub whole : length (take count ends) ≡ count
  pub zeros : sixteen (take count ends) ≡ ends
