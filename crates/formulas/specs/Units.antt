-- A constant as it is written, in units of 1/10,000: 01, "c is in units".
use Rattle.std.specs.Prelude.{ℕ, ◌+◌, ◌-◌, ◌*◌, ◌^◌, List, [], ◌∷◌, length}

-- The number that digits write, after digits that write m
unfoldable pub number_from : ℕ → List ℕ → ℕ
number_from m [] = m
number_from m (d ∷ ds) = number_from (m * 10 + d) ds

-- The digits w before the point and p after it, of which there are at most four
unfoldable pub units_of : List ℕ → List ℕ → ℕ
units_of w p = number_from 0 w * 10_000 + number_from 0 p * 10 ^ (4 - length p)
