-- Sets of factors as masks: the factor a, counted from 0, is in the set whose binary digit at a is 1 (`has` of range's Sums).
use Rattle.std.specs.Prelude.{Bool, not, ◌&&◌, ℕ, ◌^◌, ◌-◌, eqb}
use Rattle.std.specs.Int.Bits.{bit_and, bit_or}
use Rattle.std.specs.Int.Count.{ones, count_trailing_zeros}

abbrev pub none : ℕ
none = 0

abbrev pub single : ℕ → ℕ
single i = 2 ^ i

-- the first n factors
abbrev pub all_of : ℕ → ℕ
all_of n = 2 ^ n - 1

infixl 65 ◌∪◌
abbrev pub ◌∪◌ : ℕ → ℕ → ℕ
s ∪ t = bit_or s t

-- "both sets are nonempty and share no factor"
unfoldable pub apart : ℕ → ℕ → Bool
apart s t = not (eqb s none) && (not (eqb t none) && eqb (bit_and s t) none)

-- "the number of factors in the set is 1", and that factor
unfoldable pub is_single : ℕ → Bool
is_single s = eqb (ones s) 1

unfoldable pub only : ℕ → ℕ
only s = count_trailing_zeros 8 s
