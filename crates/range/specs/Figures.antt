-- Figures of 01 that ranges alone decide, in units, computed from the definitions: one table, shown correct as a whole (`figures-hold`).
-- The rest of "Figures to hold it to" needs a codelist.
use Rattle.std.specs.Prelude.{◌≡◌, refl, List, [], ◌∷◌, map, ℕ, ℤ, pos, neg_ℤ}
use Rattle.algebra.specs.Sum.{sum_below}
use Rattle.exact.specs.Div.{floor_div, ceil_div, floor_quot, ceil_quot}
use Rattle.exact.specs.Sqrt.{root_bits, floor_sqrt, ceil_sqrt}
use Rattle.range.specs.declared.Range.{Range}
use Rattle.range.specs.Limit.{from_to, zero_range, one_range, whole_range, over, is_valid, both_valid, kept}
use Rattle.range.specs.Arithmetic.{sum_of, neg_of, times_of, scaled_of, ends_product, product_of, ends_inverse, inverse_of, hull_of}
use Rattle.range.specs.Power.{chain, ups_within, pow_above, pow_below, pow_across_even, pow_across_odd, pow_across, pow_by_sign, pow_of}
use Rattle.range.specs.Sums.{has, sum_over, valid_below, ends_products, products_of}
use Rattle.range.specs.Sums.{largest_square, square_sum, squares_of, root_sum, root_of}
use Rattle.range.specs.Star.{magnitude_of, star_root, ends_star, is_half, star_of}
use Rattle.range.specs.Steps.{scaled_within}

record Figure : Type 0 where
  computed : Range
  expected : Range

infix 4 ◌gives◌
abbrev ◌gives◌ : Range → Range → Figure
r gives s = record { computed = r; expected = s }

-- u units below 0
abbrev − : ℕ → ℤ
− u = neg_ℤ (pos u)

-- the range of one number, and a list of two factors' ranges
abbrev only : ℤ → Range
only u = from_to u u

abbrev two : Range → Range → List Range
two g h = g ∷ h ∷ []

-- all eight factors, each in the whole span
abbrev eight : List Range
eight = whole_range ∷ whole_range ∷ whole_range ∷ whole_range ∷ whole_range ∷ whole_range ∷ whole_range ∷ whole_range ∷ []

abbrev half : Range
half = from_to (− 1000000000) (pos 1000000000)

abbrev figures : List Figure
figures =
    -- "Range arithmetic": "sum, negation, and whole-number multiples are exact", up to the limit; "hull (least range holding both)"
    (sum_of whole_range one_range gives over)
    ∷ (sum_of whole_range zero_range gives whole_range)
    ∷ (neg_of (from_to (− 10000) (pos 30000)) gives from_to (− 30000) (pos 10000))
    ∷ (neg_of over gives over)
    ∷ (times_of 8 (from_to (− 250000000) (pos 250000000)) gives whole_range)
    ∷ (hull_of (only (pos 20000)) zero_range gives from_to (pos 0) (pos 20000))
    -- "Figures to hold it to": `pow→1→2` on 10000..30000
    ∷ (pow_of (from_to (pos 10000) (pos 30000)) 2 gives from_to (pos 10000) (pos 90000))
    -- `inv→1` on 20000..40000: V, V_k² and G
    ∷ (inverse_of (from_to (pos 20000) (pos 40000)) gives from_to (pos 2500) (pos 5000))
    ∷ (pow_of (from_to (pos 2500) (pos 5000)) 2 gives from_to (pos 625) (pos 2500))
    ∷ (neg_of (product_of (from_to (pos 625) (pos 2500)) one_range) gives from_to (− 2500) (− 625))
    -- `inv→1` on 30000..30000: V and V_k², whose negation is G; and at −30000
    ∷ (inverse_of (only (pos 30000)) gives from_to (pos 3333) (pos 3334))
    ∷ (pow_of (from_to (pos 3333) (pos 3334)) 2 gives from_to (pos 1110) (pos 1112))
    ∷ (inverse_of (only (− 30000)) gives from_to (− 3334) (− 3333))
    -- `pow→1→3` on −10000..20000: V and G
    ∷ (pow_of (from_to (− 10000) (pos 20000)) 3 gives from_to (− 10000) (pos 80000))
    ∷ (times_of 3 (pow_of (from_to (− 10000) (pos 20000)) 2) gives from_to (pos 0) (pos 120000))
    -- `mulc→1→-1` on 5000..5000: V and G
    ∷ (product_of (only (− 1)) (only (pos 5000)) gives from_to (− 1) (pos 0))
    ∷ (product_of (only (− 1)) one_range gives only (− 1))
    -- `mul→1→2` of the printed example: V
    ∷ (product_of (from_to (pos 10000) (pos 20000)) (from_to (pos 30000) (pos 40000)) gives from_to (pos 30000) (pos 80000))
    -- its bend, Cross over two factors: −β..β, where β counts
    ∷ (root_of 3 (two one_range zero_range) (two zero_range one_range) gives from_to (− 10000) (pos 10000))
    -- `pow→1→2`, `mul→3→2` on 10000..10000 by 01's rule alone: the sum of the products in Cross, and β
    ∷ (products_of 3 (two (only (pos 20000)) zero_range) (two zero_range one_range) gives zero_range)
    ∷ (root_of 3 (two (only (pos 20000)) zero_range) (two zero_range one_range) gives from_to (− 20000) (pos 20000))
    -- `inv→1` on 0..10000 has no V (refusal 11); on 1..1 it has, and V_k² passes the limit (refusal 12)
    ∷ (inverse_of (from_to (pos 0) (pos 10000)) gives over)
    ∷ (inverse_of (only (pos 1)) gives only (pos 100000000))
    ∷ (pow_of (only (pos 100000000)) 2 gives over)
    -- Edges: an end of 2000000000 and 2000000001
    ∷ (kept (from_to (− 2000000000) (pos 2000000000)) gives whole_range)
    ∷ (kept (from_to (pos 0) (pos 2000000001)) gives over)
    ∷ (kept (from_to (− 2000000001) (pos 0)) gives over)
    -- "Errors a good programmer would make": dividing toward zero, −1 and 1 by 10,000 (−0.5 units are in `mulc`, above)
    ∷ (scaled_of (only (− 1)) gives from_to (− 1) (pos 0))
    ∷ (scaled_of (only (pos 1)) gives from_to (pos 0) (pos 1))
    -- squaring −1..2 by its ends, as numbers and as units; its product with itself is another range
    ∷ (pow_of (from_to (− 10000) (pos 20000)) 2 gives from_to (pos 0) (pos 40000))
    ∷ (pow_of (from_to (− 1) (pos 2)) 2 gives from_to (pos 0) (pos 1))
    ∷ (product_of (from_to (− 10000) (pos 20000)) (from_to (− 10000) (pos 20000)) gives from_to (− 20000) (pos 40000))
    -- rounding β down: √2 is more than 1.4142
    ∷ (root_of 3 (two one_range one_range) (two one_range zero_range) gives from_to (− 14143) (pos 14143))
    -- "β counts as an end and the two sums do not", "only its total counts, and no product or square summed in it"
    ∷ (root_of 3 (two (only (pos 50000000)) zero_range) (two zero_range (only (pos 100))) gives from_to (− 500000) (pos 500000))
    ∷ (squares_of 3 (two (only (pos 50000000)) zero_range) gives over)
    ∷ (products_of 3 (two (only (pos 2000000000)) (only (− 2000000000))) (two (only (pos 20000)) (only (pos 20000))) gives zero_range)
    -- 02, request 2: the sum of the largest squares is divided by 10,000 and rounded up once (each by itself gave 0..2)
    ∷ (squares_of 3 (two (only (pos 1)) (only (pos 1))) gives from_to (pos 0) (pos 1))
    ∷ (squares_of 255 eight gives over)
    ∷ (root_of 255 eight eight gives over)
    -- 02, request 4: the same `mul` by its rule, A 20000, B 0 and C 20000 or −20000; halves of −1 and 5, rounded outward; A, B and C up to
    -- 1,000,000,000, and one of them a unit beyond
    ∷ (star_of (only (pos 20000)) zero_range (only (pos 20000)) gives from_to (− 12361) (pos 32361))
    ∷ (star_of zero_range (only (pos 20000)) (only (− 20000)) gives from_to (− 12361) (pos 32361))
    ∷ (star_of (only (pos 2)) zero_range (only (pos 1)) gives from_to (− 1) (pos 3))
    ∷ (star_of half half half gives whole_range)
    ∷ (star_of (only (pos 1000000001)) zero_range zero_range gives over)
    ∷ (star_of zero_range (only (− 1000000001)) zero_range gives over)
    ∷ (star_of zero_range zero_range (only (− 1000000001)) gives over)
    -- 02, request 8, "the same quotient for all dividends it can meet": dividends about 0, about 10,000 and about 10,000 times the limit; the greatest of a
    -- product, either sign, in a sum of products; divisors of the inverse
    ∷ (scaled_within (only (− 20000000000001)) gives over)
    ∷ (scaled_within (only (− 20000000000000)) gives only (− 2000000000))
    ∷ (scaled_within (only (− 10001)) gives from_to (− 2) (− 1))
    ∷ (scaled_within (only (− 10000)) gives only (− 1))
    ∷ (scaled_within (only (− 9999)) gives from_to (− 1) (pos 0))
    ∷ (scaled_within (only (− 1)) gives from_to (− 1) (pos 0))
    ∷ (scaled_within zero_range gives zero_range)
    ∷ (scaled_within (only (pos 1)) gives from_to (pos 0) (pos 1))
    ∷ (scaled_within (only (pos 9999)) gives from_to (pos 0) (pos 1))
    ∷ (scaled_within (only (pos 10000)) gives only (pos 1))
    ∷ (scaled_within (only (pos 10001)) gives from_to (pos 1) (pos 2))
    ∷ (scaled_within (only (pos 20000000000000)) gives only (pos 2000000000))
    ∷ (scaled_within (only (pos 20000000000001)) gives over)
    ∷ (scaled_within over gives over)
    ∷ (ends_products 1 (two whole_range zero_range) (two whole_range zero_range) gives from_to (− 400000000000000) (pos 400000000000000))
    ∷ (products_of 3 (two (only (pos 2000000000)) (only (− 2000000000))) (two (only (pos 2000000000)) (only (pos 2000000000))) gives zero_range)
    ∷ (inverse_of (only (− 2000000000)) gives from_to (− 1) (pos 0))
    ∷ (inverse_of (only (− 3)) gives from_to (− 33333334) (− 33333333))
    ∷ (inverse_of (only (− 1)) gives only (− 100000000))
    ∷ (inverse_of (only (pos 3)) gives from_to (pos 33333333) (pos 33333334))
    ∷ (inverse_of (only (pos 2000000000)) gives from_to (pos 0) (pos 1))
    ∷ []

pub figures-hold : map (λ f. f.computed) figures ≡ map (λ f. f.expected) figures
unfolding sum_of neg_of times_of ends_product product_of ends_inverse inverse_of hull_of
    pow_of pow_by_sign pow_above pow_below pow_across pow_across_even pow_across_odd chain ups_within
    products_of ends_products squares_of largest_square square_sum root_of root_sum sum_over has valid_below sum_below
    magnitude_of star_root ends_star is_half star_of scaled_within
    is_valid both_valid kept floor_div ceil_div floor_quot ceil_quot ceil_sqrt floor_sqrt root_bits
figures-hold = refl
