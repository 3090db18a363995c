-- Sums over the factors of a set: 01, "Range arithmetic" ("A sum over the factors of a set is one step, so only its total counts, and no
-- product or square summed in it"), for the sums in Sq and Cross of "Sets and bends".
use Rattle.std.specs.Prelude.{Bool, true, ◌&&◌, ◌||◌, not, cond, List, [], ◌∷◌, ℕ, zero, suc, ◌+◌, ◌*◌, ◌/◌, ◌%◌, ◌^◌, eqb, ℤ, pos, neg_ℤ, ◌+ℤ◌, ◌*ℤ◌, nat_abs, get_or}
use Rattle.algebra.specs.Sum.{sum_below}
use Rattle.exact.specs.Div.{ceil_div}
use Rattle.exact.specs.Sqrt.{ceil_sqrt}
use Rattle.range.specs.declared.Range.{Range}
use Rattle.range.specs.Limit.{from_to, zero_range, over, is_valid, kept}
use Rattle.range.specs.Arithmetic.{greater_of, ends_product}

-- A set of factors is a mask: the factor a, counted from 0, is in the set s where the binary digit of s at a is 1.
unfoldable pub has : ℕ → ℕ → Bool
has s a = eqb (s / 2 ^ a % 2) 1

-- The sum of f over the factors in s, from a zero and an addition; and of integers. There are at most eight factors.
unfoldable pub sum_over : {R : Type 0} → R → (R → R → R) → ℕ → (ℕ → R) → R
sum_over 𝟘 add s f = sum_below 𝟘 add 8 (λ a. cond (has s a) (f a) 𝟘)

abbrev pub sum_over_ℤ : ℕ → (ℕ → ℤ) → ℤ
sum_over_ℤ s f = sum_over (pos 0) ◌+ℤ◌ s f

-- A list of ranges, one for each factor.
abbrev pub at : List Range → ℕ → Range
at g a = get_or g a zero_range

-- Ranges as a list of numbers, two for each range: the one whose low end is at the offset m. Past the list's end the numbers are 0.
abbrev pub pair_at : List ℤ → ℕ → Range
pair_at t m = from_to (get_or t m (pos 0)) (get_or t (m + 1) (pos 0))

-- Eight ranges in a row of such a list, one for each factor, which begin at the offset i.
abbrev pub ranges_from : List ℤ → ℕ → List Range
ranges_from t i =
    pair_at t i
    ∷ pair_at t (i + 2)
    ∷ pair_at t (i + 4)
    ∷ pair_at t (i + 6)
    ∷ pair_at t (i + 8)
    ∷ pair_at t (i + 10)
    ∷ pair_at t (i + 12)
    ∷ pair_at t (i + 14)
    ∷ []

-- Those of the factors in s are all valid: of the first n factors, and of all.
unfoldable pub valid_below : ℕ → ℕ → List Range → Bool
valid_below zero s g = true
valid_below (suc n) s g = valid_below n s g && (not (has s n) || is_valid (at g n))

abbrev pub valid_over : ℕ → List Range → Bool
valid_over s g = valid_below 8 s g

-- Cross: "the sum of the products".
unfoldable pub ends_products : ℕ → List Range → List Range → Range
ends_products s g h =
    from_to
    (sum_over_ℤ s (λ a. (ends_product (at g a) (at h a)).low))
    (sum_over_ℤ s (λ a. (ends_product (at g a) (at h a)).high))

unfoldable pub products_of : ℕ → List Range → List Range → Range
products_of s g h = cond (valid_over s g && valid_over s h) (kept (ends_products s g h)) over

-- Sq: "the largest squares": the larger of the squares of the ends, not divided.
unfoldable pub largest_square : Range → ℤ
largest_square r = greater_of (r.low *ℤ r.low) (r.high *ℤ r.high)

-- 02, request 2: "the exact sum of the largest squares, divided by 10,000 and rounded up a single time".
unfoldable pub square_sum : ℕ → List Range → ℤ
square_sum s g = ceil_div (sum_over_ℤ s (λ a. largest_square (at g a))) 10000

-- Sq: "from 0 to the sum of the largest squares".
abbrev pub ends_squares : ℕ → List Range → Range
ends_squares s g = from_to (pos 0) (square_sum s g)

unfoldable pub squares_of : ℕ → List Range → Range
squares_of s g = cond (valid_over s g) (kept (ends_squares s g)) over

-- Cross: "[−β, β], where β is the square root, rounded up, of the product of the two sums used in Sq; here β counts as an end and the two
-- sums do not". The root of x units times y units is √(x·y) units.
unfoldable pub root_sum : ℕ → List Range → List Range → ℤ
root_sum s g h = pos (ceil_sqrt (nat_abs (square_sum s g) * nat_abs (square_sum s h)))

abbrev pub ends_root : ℕ → List Range → List Range → Range
ends_root s g h = from_to (neg_ℤ (root_sum s g h)) (root_sum s g h)

unfoldable pub root_of : ℕ → List Range → List Range → Range
root_of s g h = cond (valid_over s g && valid_over s h) (kept (ends_root s g h)) over
