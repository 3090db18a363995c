-- 02, request 6: figures worked out from the definitions. Each is a codelist with its ranges, a depth, and V or the refusal.
use Rattle.std.specs.Prelude.{◌≡◌, refl, List, [], ◌∷◌, map, ℕ, suc, ℤ, pos}
use Rattle.std.specs.Int.Count.{ones, ones_in, count_trailing_zeros}
use Rattle.algebra.specs.Sum.{sum_below}
use Rattle.exact.specs.Div.{floor_div, ceil_div, floor_quot, ceil_quot}
use Rattle.exact.specs.Sqrt.{ceil_sqrt, floor_sqrt, root_bits}
use Rattle.codelist.specs.declared.Op.{Op}
use Rattle.codelist.specs.declared.Op.TheVariants.{Mul, AddC, MulC, Inv}
use Rattle.codelist.specs.declared.Year.TheVariants.{Y2016}
use Rattle.codelist.specs.Codelist.{well_formed_ops, ratable}
use Rattle.codelist.specs.Load.{codelist_of}
use Rattle.range.specs.declared.Range.{Range}
use Rattle.range.specs.Limit.{from_to, zero_range, is_valid, both_valid, kept}
use Rattle.range.specs.Arithmetic.{sum_of, neg_of, times_of, ends_product, product_of, ends_inverse, inverse_of, hull_of}
use Rattle.range.specs.Power.{chain, ups_within, pow_above, pow_below, pow_across_even, pow_across_odd, pow_across, pow_by_sign, pow_of}
use Rattle.range.specs.Sums.{has, sum_over, valid_below, ends_products, products_of, largest_square, square_sum, squares_of, root_sum, root_of}
use Rattle.range.specs.Star.{magnitude_of, star_root, ends_star, is_half, star_of}
use Rattle.rules.specs.declared.Refusal.TheVariants.{NoCodelist, RangeCount, BadRange, Divisor}
use Rattle.rules.specs.Sets.{apart, is_single, only}
use Rattle.rules.specs.Table.{factor_row, add_row, addc_row, mulc_row, mul_row, pow_row, inv_row, line_of}
use Rattle.rules.specs.Run.{row_of, inverts_zero, within, run_ops, factor_lines, bent_in, lines_of}
use Rattle.rules.specs.Rate.{last, limits_of, no_limits, first_bad, rate_ranges}
use Rattle.rules.specs.Figures.{◌to◌, −, ends}
use Rattle.bisection.specs.declared.Refusal.TheVariants.{Depth, Rate}
use Rattle.bisection.specs.InFull.{Outcome}
use Rattle.bisection.specs.InFull.{Accepted, Refused}
use Rattle.bisection.specs.Cut.{widest_from, widest, narrow, cut_point, lower_part, upper_part, hull_limits, parts, parts_of, counted_of, cut_of}

-- a codelist's factors and operations, and the ranges of its factors
pub record Class : Type 0 where
  pub factors : ℕ
  pub operations : List Op
  pub ranges : List Range

-- what a figure says of an answer: the outcome and V
pub record Figure : Type 0 where
  pub outcome : Outcome
  pub value : Range

-- what a class gives at each depth from 0 on
pub record Row : Type 0 where
  pub class : Class
  pub gives : List Figure

abbrev is : Range → Figure
is v = record { outcome = Accepted; value = v }

abbrev pub rows : List Row
rows =
    -- `mul 1 1` on −10000..20000: V −20000..40000, −5000..40000, −1250..40000
    record {
      class = record { factors = 1; operations = Mul 1 1 ∷ []; ranges = from_to (− 10000) (pos 20000) ∷ [] };
      gives = is (from_to (− 20000) (pos 40000)) ∷ is (from_to (− 5000) (pos 40000)) ∷ is (from_to (− 1250) (pos 40000)) ∷ [];
    }
    -- `mulc 1 2000000`, `addc 2 300`, `mul 2 3` on −3..0, cut at −2 first and not at −1: V −18..18, −12..18, −6..18
    ∷ record {
      class = record { factors = 1; operations = MulC 1 (pos 2000000) ∷ AddC 2 (pos 300) ∷ Mul 2 3 ∷ []; ranges = from_to (− 3) (pos 0) ∷ [] };
      gives = is (from_to (− 18) (pos 18)) ∷ is (from_to (− 12) (pos 18)) ∷ is (from_to (− 6) (pos 18)) ∷ [];
    }
    -- two factors on −10000..10000, `mul 1 1`, the lowest factor is cut: V −10000..10000, 0..10000
    ∷ record {
      class = record {
        factors = 2;
        operations = Mul 1 1 ∷ [];
        ranges = from_to (− 10000) (pos 10000) ∷ from_to (− 10000) (pos 10000) ∷ [];
      };
      gives = is (from_to (− 10000) (pos 10000)) ∷ is (0 to 10000) ∷ [];
    }
    -- `mul 1 1`, `addc 2 10000`, `inv 3` on −10000..20000: 11 at 4, then V 2000..20000, 2000..11429
    ∷ record {
      class = record { factors = 1; operations = Mul 1 1 ∷ AddC 2 (pos 10000) ∷ Inv 3 ∷ []; ranges = from_to (− 10000) (pos 20000) ∷ [] };
      gives = record { outcome = Refused (Rate (Divisor 4)); value = zero_range } ∷ is (2000 to 20000) ∷ is (2000 to 11429) ∷ [];
    }
    -- what 02's request 11 does not say: narrower ranges at the SAME depth may give more, since the point where they are cut moves. `mul 1 1` on
    -- −10000..10000 is cut at 0: V −10000..10000, 0..10000; on −10000..6000 at −2000: V −6000..10000, −1200..10000
    ∷ record {
      class = record { factors = 1; operations = Mul 1 1 ∷ []; ranges = from_to (− 10000) (pos 10000) ∷ [] };
      gives = is (from_to (− 10000) (pos 10000)) ∷ is (0 to 10000) ∷ [];
    }
    ∷ record {
      class = record { factors = 1; operations = Mul 1 1 ∷ []; ranges = from_to (− 10000) (pos 6000) ∷ [] };
      gives = is (from_to (− 6000) (pos 10000)) ∷ is (from_to (− 1200) (pos 10000)) ∷ [];
    }
    ∷ []

-- WHAT THE CUT GIVES of a class at a depth, and at as many as are listed
abbrev pub figure_of : Class → ℤ → Figure
figure_of k d =
    let c = codelist_of Y2016 k.factors (map (λ o. record { op = o }) k.operations) in
    let b = cut_of (record { codelist = c }) (ends k.ranges) d in
    record { outcome = b.outcome; value = b.limits.value }

abbrev pub figures_from : Class → ℕ → List Figure → List Figure
figures_from k d [] = []
figures_from k d (f ∷ fs) = figure_of k (pos d) ∷ figures_from k (suc d) fs

pub all_right : map (λ r. figures_from r.class 0 r.gives) rows ≡ map (λ r. r.gives) rows
unfolding cut_of counted_of parts_of parts hull_limits lower_part upper_part cut_point narrow widest widest_from
    rate_ranges no_limits first_bad limits_of last lines_of bent_in run_ops factor_lines row_of inverts_zero within line_of
    factor_row add_row addc_row mulc_row mul_row pow_row inv_row apart is_single only
    codelist_of ratable well_formed_ops
    is_valid both_valid kept sum_of neg_of times_of ends_product product_of ends_inverse inverse_of hull_of
    chain ups_within pow_above pow_below pow_across_even pow_across_odd pow_across pow_by_sign pow_of
    has sum_over sum_below valid_below ends_products products_of largest_square square_sum squares_of root_sum root_of
    magnitude_of star_root ends_star is_half star_of
    floor_div ceil_div floor_quot ceil_quot ceil_sqrt floor_sqrt root_bits ones ones_in count_trailing_zeros
all_right = refl

-- a call, and its outcome
pub record Call : Type 0 where
  pub factors : ℕ
  pub operations : List Op
  pub numbers : List ℤ
  pub depth : ℤ
  pub outcome : Outcome

-- the order of the refusals: each call has what the later ones are refused for, too
abbrev pub calls : List Call
calls =
    -- no operation, depth 7, no numbers: 10
    record { factors = 1; operations = []; numbers = []; depth = pos 7; outcome = Refused (Rate NoCodelist) }
    -- depth 7, and depth −1, no numbers: 16
    ∷ record { factors = 1; operations = Mul 1 1 ∷ []; numbers = []; depth = pos 7; outcome = Refused Depth }
    ∷ record { factors = 1; operations = Mul 1 1 ∷ []; numbers = []; depth = − 1; outcome = Refused Depth }
    -- depth 6, and a number too many: 8
    ∷ record { factors = 1; operations = Mul 1 1 ∷ []; numbers = pos 2 ∷ pos 1 ∷ pos 0 ∷ []; depth = pos 6; outcome = Refused (Rate RangeCount) }
    -- depth 6, and a range that is turned round: 9 at the factor
    ∷ record { factors = 1; operations = Mul 1 1 ∷ []; numbers = pos 2 ∷ pos 1 ∷ []; depth = pos 6; outcome = Refused (Rate (BadRange 1)) }
    ∷ []

abbrev pub outcome_of : Call → Outcome
outcome_of k = (cut_of (record { codelist = codelist_of Y2016 k.factors (map (λ o. record { op = o }) k.operations) }) k.numbers k.depth).outcome

pub calls-right : map outcome_of calls ≡ map (λ k. k.outcome) calls
unfolding cut_of counted_of parts_of first_bad codelist_of ratable well_formed_ops is_valid
calls-right = refl
