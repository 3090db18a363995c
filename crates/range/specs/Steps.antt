-- What private functions give, end by end, on the way to an operation of 01.
use Rattle.std.specs.Prelude.{◌≡◌, Bool, true, false, ◌&&◌, cond, ℕ, ◌+◌, ◌*◌, ◌/◌, ◌%◌, ◌≤◌, eqb, ℤ, pos, negsuc, neg_ℤ, nat_abs, ◌+ℤ◌, ◌*ℤ◌, ◌≤ℤ◌, ◌<ℤ◌}
use Rattle.std.specs.Int.Signed.{le_z}
use Rattle.exact.specs.Sqrt.{ceil_sqrt}
use Rattle.exact.specs.Div.{floor_div, ceil_div}
use Rattle.range.specs.declared.Range.{Range}
use Rattle.range.specs.declared.sums.Squares.{Squares}
use Rattle.range.specs.Limit.{least, most, from_to, over, is_valid, kept}
use Rattle.range.specs.Arithmetic.{lesser_of, greater_of, scaled_of}

-- ends of which two have a sum that fits
pub record Small (r : Range) : Type 0 where
  pub low : nat_abs r.low ≤ 4000000000000000000
  pub high : nat_abs r.high ≤ 4000000000000000000

-- What a division asks that raises its dividend x by k times the divisor d, and lowers the quotient by k (02, request 8: "a shift of the dividend by
-- a fixed multiple of the divisor"): the raised dividend is not below 0, and nothing on the way passes 9·10^18, which 63 bits hold.
pub record Shiftable (x d k : ℤ) : Type 0 where
  pub divisor : pos 0 <ℤ d
  pub times : pos 0 ≤ℤ k
  pub shift : (k *ℤ d) ≤ℤ pos 9000000000000000000
  pub above : pos 0 ≤ℤ (x +ℤ k *ℤ d)
  pub below : (x +ℤ k *ℤ d +ℤ d) ≤ℤ pos 9000000000000000000

-- k times each end, and two ends in order
abbrev pub ends_by : ℤ → Range → Range
ends_by k a = from_to (k *ℤ a.low) (k *ℤ a.high)

abbrev pub sorted_of : Range → Range
sorted_of r = from_to (lesser_of r.low r.high) (greater_of r.low r.high)

-- ends in order, divided by 10,000, outward, if they are within 10,000 times the limit: exactly then the quotients are within the limit
-- (`scaled-within`)
unfoldable pub scaled_within : Range → Range
scaled_within r =
    cond (le_z (least *ℤ pos 10000) r.low && (le_z r.low r.high && le_z r.high (most *ℤ pos 10000))) (scaled_of r) over

-- n divided by each end, outward, for ends above 0
abbrev pub ends_over : ℤ → Range → Range
ends_over n r = from_to (floor_div n (nat_abs r.low)) (ceil_div n (nat_abs r.high))

-- the inverse above 0, and below 0, where dividend and divisor change sign
abbrev pub inv_above : Range → Range
inv_above a = kept (ends_over (pos 100000000) (from_to a.high a.low))

abbrev pub inv_below : Range → Range
inv_below a = kept (ends_over (negsuc 99999999) (from_to (neg_ℤ a.high) (neg_ℤ a.low)))

-- from 0 on
abbrev pub up_to : ℤ → Range
up_to x = from_to (pos 0) x

-- A sum of squares as the sum of their quotients by 10,000, `whole`, and that of the remainders, `rest`. How far eight of them go, each at most
-- 4·10^18:
pub record EightSquares (q : Squares) : Type 0 where
  pub whole : q.whole ≤ 3200000000000000
  pub rest : q.rest ≤ 79992

-- the sum with the square x more, and the sum divided by 10,000 and rounded up
abbrev pub with_square : Squares → ℕ → Squares
with_square q x = record { whole = q.whole + x / 10000; rest = q.rest + x % 10000 }

abbrev pub rounded_up : Squares → ℕ
rounded_up q = q.whole + (q.rest + 9999) / 10000

-- whether both ends are 0
unfoldable pub is_zero : Range → Bool
is_zero r = eqb (nat_abs r.low) 0 && eqb (nat_abs r.high) 0

-- from −β to β, β the root of x·y, rounded up
abbrev pub around_root : ℕ → ℕ → Range
around_root x y = kept (from_to (neg_ℤ (pos (ceil_sqrt (x * y)))) (pos (ceil_sqrt (x * y))))

-- What the functions for the power e ask of a range, by the signs of its ends.
pub record Magnitudes (r : Range) (e : ℕ) : Type 0 where
  pub valid : is_valid r ≡ true
  pub sign : le_z (pos 0) r.low ≡ true
  pub some : 1 ≤ e

pub record Negatives (r : Range) (e : ℕ) : Type 0 where
  pub valid : is_valid r ≡ true
  pub sign : le_z r.high (pos 0) ≡ true
  pub some : 1 ≤ e

pub record Astride (r : Range) (e : ℕ) : Type 0 where
  pub valid : is_valid r ≡ true
  pub left : le_z (pos 0) r.low ≡ false
  pub right : le_z r.high (pos 0) ≡ false
  pub some : 1 ≤ e
