-- 01, "Range arithmetic": "A range is combined with another by sum, negation, product, power, inverse and hull". Power is in Power.antt.
-- `ends..` is what 01 says of the ends of the result; the operation gives it where operands and result are valid (`sticky₁`, `sticky₂`).
use Rattle.std.specs.Prelude.{Bool, ◌&&◌, cond, ℕ, ℤ, pos, neg_ℤ, ◌+ℤ◌, ◌*ℤ◌}
use Rattle.std.specs.Int.Signed.{le_z}
use Rattle.exact.specs.Div.{floor_div, ceil_div, floor_quot, ceil_quot}
use Rattle.range.specs.declared.Range.{Range}
use Rattle.range.specs.Limit.{from_to, over, sticky₁, sticky₂}

-- The lesser and the greater of two numbers, and of four.
abbrev pub lesser_of : ℤ → ℤ → ℤ
lesser_of x y = cond (le_z x y) x y

abbrev pub greater_of : ℤ → ℤ → ℤ
greater_of x y = cond (le_z x y) y x

abbrev pub least_of : ℤ → ℤ → ℤ → ℤ → ℤ
least_of p q r s = lesser_of (lesser_of p q) (lesser_of r s)

abbrev pub greatest_of : ℤ → ℤ → ℤ → ℤ → ℤ
greatest_of p q r s = greater_of (greater_of p q) (greater_of r s)

-- "Sum, negation, and whole-number multiples are exact."
abbrev pub ends_sum : Range → Range → Range
ends_sum a b = from_to (a.low +ℤ b.low) (a.high +ℤ b.high)

unfoldable pub sum_of : Range → Range → Range
sum_of a b = sticky₂ ends_sum a b

abbrev pub ends_neg : Range → Range
ends_neg a = from_to (neg_ℤ a.high) (neg_ℤ a.low)

unfoldable pub neg_of : Range → Range
neg_of a = sticky₁ ends_neg a

abbrev pub ends_times : ℕ → Range → Range
ends_times k a = from_to (pos k *ℤ a.low) (pos k *ℤ a.high)

unfoldable pub times_of : ℕ → Range → Range
times_of k a = sticky₁ (ends_times k) a

-- "Product: least and greatest of the four end products, divided by 10,000; the low end rounded toward minus infinity, the high end toward
-- plus infinity."
abbrev pub least_product : Range → Range → ℤ
least_product a b = least_of (a.low *ℤ b.low) (a.low *ℤ b.high) (a.high *ℤ b.low) (a.high *ℤ b.high)

abbrev pub greatest_product : Range → Range → ℤ
greatest_product a b = greatest_of (a.low *ℤ b.low) (a.low *ℤ b.high) (a.high *ℤ b.low) (a.high *ℤ b.high)

abbrev pub spread_of : Range → Range → Range
spread_of a b = from_to (least_product a b) (greatest_product a b)

abbrev pub scaled_of : Range → Range
scaled_of r = from_to (floor_div r.low 10000) (ceil_div r.high 10000)

unfoldable pub ends_product : Range → Range → Range
ends_product a b = scaled_of (spread_of a b)

unfoldable pub product_of : Range → Range → Range
product_of a b = sticky₂ ends_product a b

-- "Inverse: 100,000,000 divided by the other end, rounded the same way." A range that holds 0 has none, which its caller refuses with 11
-- ("low ≤ 0 ≤ high") before.
abbrev pub holds_zero : Range → Bool
holds_zero a = le_z a.low (pos 0) && le_z (pos 0) a.high

unfoldable pub ends_inverse : Range → Range
ends_inverse a = from_to (floor_quot (pos 100000000) a.high) (ceil_quot (pos 100000000) a.low)

unfoldable pub inverse_of : Range → Range
inverse_of a = cond (holds_zero a) over (sticky₁ ends_inverse a)

-- "hull (least range holding both)"
abbrev pub ends_hull : Range → Range → Range
ends_hull a b = from_to (lesser_of a.low b.low) (greater_of a.high b.high)

unfoldable pub hull_of : Range → Range → Range
hull_of a b = sticky₂ ends_hull a b
