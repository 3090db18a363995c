-- The record of ranges, sixteen doubles in 128 bytes, and the record of a result, twenty-four in 192. 02, request 10.
use Rattle.std.specs.Prelude.{ℕ, zero, suc, ◌+◌, ◌*◌, List, [], ◌∷◌, ◌++◌, take, drop, ℤ, pos, from_bits}
use Rattle.std.specs.Float.{binary64}
use Rattle.range.specs.declared.Range.{Range}
use Rattle.rules.specs.declared.Limits.{Limits}
use Rattle.encoding.specs.Bytes.{number_of}
use Rattle.motmotdivan.specs.Doubles.{Number, whole, no_whole, whole_of, double_of}

-- The pattern of the double at k, from 0, and the number that it is
abbrev pub pattern_at : List ℕ → ℕ → ℕ
pattern_at b k = number_of (take 8 (drop (8 * k) b))

unfoldable pub number_at : List ℕ → ℕ → Number
number_at b k = whole_of (from_bits binary64 (pattern_at b k))

-- What a record of ranges holds for the factors: their numbers, or, for 18, the lowest factor, from 1, with an end that is no whole number
pub data Read : Type 0 where
  numbers : List ℤ → Read
  fraction : ℕ → Read

-- The ends of factor a before what the later factors hold
abbrev pub before : ℕ → Number → Number → Read → Read
before a (whole l) (whole h) (numbers xs) = numbers (l ∷ h ∷ xs)
before a (whole l) (whole h) (fraction b) = fraction b
before a (whole l) no_whole r = fraction a
before a no_whole y r = fraction a

-- "two a factor": m factors from index a on
unfoldable pub read_from : List ℕ → ℕ → ℕ → Read
read_from b a zero = numbers []
read_from b a (suc m) = before (a + 1) (number_at b (2 * a)) (number_at b (2 * a + 1)) (read_from b (a + 1) m)

-- THE RANGES of n factors; "those past the last factor are ignored"
abbrev pub ranges_of : List ℕ → ℕ → Read
ranges_of b n = read_from b 0 n

-- "low before high"
unfoldable pub ends_of : List Range → List ℤ
ends_of [] = []
ends_of (r ∷ rs) = r.low ∷ r.high ∷ ends_of rs

-- "in the order value, eight slopes, depends, bent, bend, full, low before high, a set as the sum of 2^(i−1) over its factors i", which its mask is
abbrev pub result_numbers : Limits → List ℤ
result_numbers l =
    ends_of (l.value ∷ []) ++ ends_of l.gradient
    ++ (pos l.support ∷ pos l.nonlinear ∷ [])
    ++ ends_of (l.spectrum ∷ l.full ∷ [])

unfoldable pub doubles_of : List ℤ → List ℕ
doubles_of [] = []
doubles_of (z ∷ zs) = double_of z ++ doubles_of zs

-- THE RECORD OF A RESULT
unfoldable pub result_record : Limits → List ℕ
result_record l = doubles_of (result_numbers l)
