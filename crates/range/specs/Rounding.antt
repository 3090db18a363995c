-- 02, request 2, "Brokers find the bend of eight-factor classes needlessly wide": that rounding the sum of the largest squares once, and not each
-- square, makes no range wider. `square_sum_each`, `squares_each` and `root_each` are the sum and the ranges of 01 before that request; they serve
-- this record alone. Proved in proofs/Rounding.antt: `rounded-once`.
use Rattle.std.specs.Prelude.{◌&&◌, cond, List, ℕ, ◌*◌, ℤ, pos, neg_ℤ, nat_abs, ◌+ℤ◌, ◌≤ℤ◌}
use Rattle.exact.specs.Div.{ceil_div}
use Rattle.exact.specs.Sqrt.{ceil_sqrt}
use Rattle.range.specs.declared.Range.{Range}
use Rattle.range.specs.Limit.{from_to, over, kept}
use Rattle.range.specs.Sums.{sum_over_ℤ, at, valid_over, largest_square, square_sum, squares_of, root_of}
use Rattle.range.specs.Laws.{◌⊑◌}

-- 01, Sq: "the sum of the largest squares, each divided by 10,000 and rounded up".
unfoldable pub square_sum_each : ℕ → List Range → ℤ
square_sum_each s g = sum_over_ℤ s (λ a. ceil_div (largest_square (at g a)) 10000)

-- Made of it as `squares_of` and `root_of` are made of `square_sum`.
unfoldable pub squares_each : ℕ → List Range → Range
squares_each s g = cond (valid_over s g) (kept (from_to (pos 0) (square_sum_each s g))) over

unfoldable pub root_each : ℕ → List Range → List Range → Range
root_each s g h =
    let b = pos (ceil_sqrt (nat_abs (square_sum_each s g) * nat_abs (square_sum_each s h))) in
    cond (valid_over s g && valid_over s h) (kept (from_to (neg_ℤ b) b)) over

pub record RoundedOnce : Type 0 where
  -- the sum is no larger than it was, and at most seven units smaller: of eight roundings one is left
  pub sum : (s : ℕ) (g : List Range) → square_sum s g ≤ℤ square_sum_each s g
  pub near : (s : ℕ) (g : List Range) → square_sum_each s g ≤ℤ (square_sum s g +ℤ pos 7)
  -- Sq and the root of Cross lie inside what they were, and are valid wherever those were
  pub squares : (s : ℕ) (g : List Range) → squares_of s g ⊑ squares_each s g
  pub root : (s : ℕ) (g h : List Range) → root_of s g h ⊑ root_each s g h
