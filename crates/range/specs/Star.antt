-- 02, request 4: the bend of a product of two lines of one factor each, different ones (Λ⋆ of 000, equation 4.21; cases 4, 7 and 10 of its
-- Table 6). The Hessian has two rows: A and B bound its diagonal, C the product of the two slopes.
use Rattle.std.specs.Prelude.{Bool, ◌&&◌, cond, ℤ, pos, neg_ℤ, nat_abs, ◌+ℤ◌, ◌-ℤ◌, ◌*ℤ◌}
use Rattle.exact.specs.Div.{floor_div, ceil_div}
use Rattle.exact.specs.Sqrt.{ceil_sqrt}
use Rattle.range.specs.declared.Range.{Range}
use Rattle.range.specs.Limit.{from_to, over, is_valid}
use Rattle.range.specs.Arithmetic.{greater_of, ends_times}

-- "M the largest magnitude in C"
unfoldable pub magnitude_of : Range → ℤ
magnitude_of c = greater_of (neg_ℤ c.low) c.high

-- "R being the square root, rounded up, of (A low − B low)² + 4·M²"
unfoldable pub star_root : ℤ → ℤ → ℤ → ℤ
star_root a b m = pos (ceil_sqrt (nat_abs ((a -ℤ b) *ℤ (a -ℤ b) +ℤ pos 4 *ℤ (m *ℤ m))))

-- "the low end is half of (A low + B low − R), rounded down .. ; the high end is half of (A high + B high + R'), rounded up, with R' from the
-- high ends likewise"
unfoldable pub ends_star : Range → Range → Range → Range
ends_star a b c =
    let m = magnitude_of c in
    from_to
    (floor_div (a.low +ℤ b.low -ℤ star_root a.low b.low m) 2)
    (ceil_div (a.high +ℤ b.high +ℤ star_root a.high b.high m) 2)

-- No end passes 1,000,000,000: twice the range is within the limit (`half-iff`).
unfoldable pub is_half : Range → Bool
is_half r = is_valid (ends_times 2 r)

-- "Refusal 12 is also given at that line when an end of A, B or C passes 1,000,000,000 units, either sign."
unfoldable pub star_of : Range → Range → Range → Range
star_of a b c = cond (is_half a && (is_half b && is_half c)) (ends_star a b c) over
