-- What private functions ask and give on the way to the difference.
use Rattle.std.specs.Prelude.{◌≡◌, true, cond, List, ℕ, ◌*◌, ◌≤◌, ◌<◌, ℤ, pos, nat_abs, ◌+ℤ◌, ◌-ℤ◌, ◌*ℤ◌, length}
use Rattle.std.specs.Int.Signed.{le_z}
use Rattle.exact.specs.Div.{floor_div, ceil_div}
use Rattle.range.specs.declared.Range.{Range}
use Rattle.range.specs.Limit.{is_valid}
use Rattle.range.specs.Sums.{at}
use Rattle.rules.specs.Rate.{pairs}
use Rattle.increments.specs.declared.total.Total.{Total}
use Rattle.increments.specs.Call.{first, second}

-- the slope's end whose product with d is the lesser, and the one whose product is the greater
abbrev pub least_end : Range → ℤ → ℤ
least_end g d = cond (le_z (pos 0) d) g.low g.high

abbrev pub greatest_end : Range → ℤ → ℤ
greatest_end g d = cond (le_z (pos 0) d) g.high g.low

-- sums that leave room for one product more, and for what rounding up adds
pub record Room (t : Total) : Type 0 where
  pub whole : nat_abs t.whole ≤ 10000000000000000
  pub rest : nat_abs t.rest ≤ 900000000000000

-- the sum with e·d more, e parted by 10,000
abbrev pub with_product : Total → ℤ → ℤ → Total
with_product t e d = record {
  whole = t.whole +ℤ floor_div e 10000 *ℤ d;
  rest = t.rest +ℤ (e -ℤ pos 10000 *ℤ floor_div e 10000) *ℤ d;
}

-- the sum divided by 10,000, rounded down and up
abbrev pub rounded_down : Total → ℤ
rounded_down t = t.whole +ℤ floor_div t.rest 10000

abbrev pub rounded_up : Total → ℤ
rounded_up t = t.whole +ℤ ceil_div t.rest 10000

-- what rating says of a class's ranges and slopes
pub record Classed (n : ℕ) (g : List Range) (xs : List ℤ) : Type 0 where
  pub few : n ≤ 8
  pub count : length (pairs xs) ≡ n
  pub ranges : (a : ℕ) → a < n → is_valid (at (pairs xs) a) ≡ true
  pub slopes : (a : ℕ) → a < n → is_valid (at g a) ≡ true

-- and of its slopes and two boats that are inside
pub record Apart (n : ℕ) (g : List Range) (bs : List ℤ) : Type 0 where
  pub few : n ≤ 8
  pub count : length bs ≡ 2 * n
  pub slopes : (a : ℕ) → a < n → is_valid (at g a) ≡ true
  pub first : (a : ℕ) → a < n → nat_abs (first bs a) ≤ 2000000000
  pub second : (a : ℕ) → a < n → nat_abs (second n bs a) ≤ 2000000000
