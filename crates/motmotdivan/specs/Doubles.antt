-- Doubles in bytes, and which whole numbers they are. 02, request 10: "Records are bytes, a double being eight of IEEE 754, lowest first", "doubles
-- equal to the whole numbers, 0 as plus zero", and "Minus zero counts as 0. A number that is no whole number, infinite ones and NaN among them, gets 18".
use Rattle.std.specs.Prelude.{ℕ, ◌*◌, ◌/◌, ◌%◌, Bool, cond, List, ℤ, pos, neg_ℤ, ◌==◌, to_bits, Float}
use Rattle.std.specs.Float.{nan, inf, fin, binary64}
use Rattle.std.specs.Float.Ieee.{up, down, of_int}
use Rattle.encoding.specs.Bytes.{low_first}

-- The eight bytes of a pattern
abbrev pub le_of : ℕ → List ℕ
le_of p = low_first 8 p

-- A whole number, or none
pub data Number : Type 0 where
  whole : ℤ → Number
  no_whole : Number

-- The number with a sign and a magnitude: minus zero is 0
abbrev pub signed : Bool → ℕ → ℤ
signed s c = cond s (neg_ℤ (pos c)) (pos c)

-- Which whole number a double is. A finite one is m · 2 ^ e, here m · up e / down e.
unfoldable pub whole_of : Float → Number
whole_of nan = no_whole
whole_of (inf s) = no_whole
whole_of (fin s m e) = cond (m * up e % down e == 0) (whole (signed s (m * up e / down e))) no_whole

-- The eight bytes of a whole number as a double
unfoldable pub double_of : ℤ → List ℕ
double_of z = le_of (to_bits binary64 (of_int binary64 z))
