-- Units, 01: "All quantities are whole numbers of units; one unit is 1/10,000." The number that u units are, what it means that a number
-- lies in a range of units, and the nearest numbers of units below and above a number. That equal fractions are rounded alike is proved in
-- algebra's proofs/Frac.antt.
use Rattle.std.specs.Prelude.{refl, ℕ, zero, ◌<◌, ℤ, pos, neg_ℤ}
use mathlib.Core.Quot.{lift}
use Rattle.std.proofs.Common.{lit<}
use Rattle.std.proofs.Math.IntN.{ℤ_set}
use Rattle.algebra.specs.Frac.{Frac}
use Rattle.algebra.proofs.Frac as L
use Rattle.exact.specs.Div.{floor_div}
use Rattle.exact.specs.Rat.{ℚ, from_ℤ, ratio, neg_ℚ, ◌*ℚ◌, ◌≤ℚ◌}

-- units to one
abbrev pub scale : ℕ
scale = 10000

abbrev pub scale-pos : zero < scale
scale-pos = lit< tt

-- "The limit is 2,000,000,000 units, either sign."
abbrev pub limit : ℕ
limit = 2000000000

-- the number that u units are
unfoldable pub units : ℤ → ℚ
units u = ratio u scale scale-pos

-- x lies in the range from a to b units
pub record In (a b : ℤ) (x : ℚ) : Type 0 where
  pub low : units a ≤ℚ x
  pub high : x ≤ℚ units b

-- ════ rounding ════

-- a fraction, rounded toward −∞
abbrev pub floor_f : Frac → ℤ
floor_f x = floor_div x.num x.den

-- the greatest integer that is at most x
unfoldable pub floor_ℚ : ℚ → ℤ
unfolding floor_div
floor_ℚ x = lift ℤ_set floor_f (λ a b p. L.floor-cong floor_div (λ n d. refl) (λ n d. refl) p) x

-- the least integer that is at least x
unfoldable pub ceil_ℚ : ℚ → ℤ
ceil_ℚ x = neg_ℤ (floor_ℚ (neg_ℚ x))

-- the greatest number of units that is at most x
unfoldable pub down : ℚ → ℤ
down x = floor_ℚ (x *ℚ from_ℤ (pos scale))

-- the least number of units that is at least x
unfoldable pub up : ℚ → ℤ
up x = ceil_ℚ (x *ℚ from_ℤ (pos scale))
