-- Division of integers, rounded down (`floor_div`, `floor_quot`) and up (`ceil_div`, `ceil_quot`). All four compute on literals.
-- 01, Range arithmetic: products are divided by 10,000, and for the inverse 100,000,000 by an end, "the low end rounded toward minus
-- infinity, the high end toward plus infinity". No law speaks of a quotient by 0.
-- A quotient by a positive number is determined by one law: `floor-iff` (proofs/Div.antt) says which integers are at most
-- it, `ceil-iff` which at least.
use Rattle.std.specs.Prelude.{ℕ, suc, ◌/◌, ℤ, pos, negsuc, neg_ℤ}

-- rounded toward −∞: −(n + 1) / d is −(n / d + 1)
unfoldable pub floor_div : ℤ → ℕ → ℤ
floor_div (pos n) d = pos (n / d)
floor_div (negsuc n) d = negsuc (n / d)

-- rounded toward +∞
unfoldable pub ceil_div : ℤ → ℕ → ℤ
ceil_div a d = neg_ℤ (floor_div (neg_ℤ a) d)

-- by an integer of either sign, as 01's inverse divides: a / −d is −a / d
abbrev pub by_sign : (ℤ → ℕ → ℤ) → ℤ → ℤ → ℤ
by_sign div a (pos d) = div a d
by_sign div a (negsuc d) = div (neg_ℤ a) (suc d)

-- rounded toward −∞
unfoldable pub floor_quot : ℤ → ℤ → ℤ
floor_quot a d = by_sign floor_div a d

-- rounded toward +∞
unfoldable pub ceil_quot : ℤ → ℤ → ℤ
ceil_quot a d = by_sign ceil_div a d
