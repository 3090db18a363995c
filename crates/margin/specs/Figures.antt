-- 02, request 14: figures worked out from the definitions. Each is a codelist with the ranges of its factors, a ceiling, and the answer.
use Rattle.std.specs.Prelude.{◌≡◌, refl, List, [], ◌∷◌, map, ℕ, ℤ, pos}
use Rattle.std.specs.Int.Count.{ones, ones_in, count_trailing_zeros}
use Rattle.algebra.specs.Sum.{sum_below}
use Rattle.exact.specs.Div.{floor_div, ceil_div, floor_quot, ceil_quot}
use Rattle.exact.specs.Sqrt.{ceil_sqrt, floor_sqrt, root_bits}
use Rattle.codelist.specs.declared.Op.{Op}
use Rattle.codelist.specs.declared.Op.TheVariants.{Add, AddC, MulC, Pow, Inv}
use Rattle.codelist.specs.declared.Codelist.{Codelist}
use Rattle.codelist.specs.declared.Year.TheVariants.{Y2016}
use Rattle.codelist.specs.Codelist.{well_formed_ops, ratable}
use Rattle.codelist.specs.Load.{codelist_of}
use Rattle.range.specs.declared.Range.{Range}
use Rattle.range.specs.Limit.{is_valid, both_valid, kept}
use Rattle.range.specs.Arithmetic.{sum_of, neg_of, times_of, ends_product, product_of, ends_inverse, inverse_of, hull_of}
use Rattle.range.specs.Power.{chain, ups_within, pow_above, pow_below, pow_across_even, pow_across_odd, pow_across, pow_by_sign, pow_of}
use Rattle.range.specs.Sums.{has, sum_over, valid_below, ends_products, products_of, largest_square, square_sum, squares_of, root_sum, root_of}
use Rattle.range.specs.Star.{magnitude_of, star_root, ends_star, is_half, star_of}
use Rattle.rules.specs.declared.Refusal.TheVariants.{BadRange, Divisor, Overflow}
use Rattle.rules.specs.InFull as rating
use Rattle.rules.specs.Sets.{apart, is_single, only}
use Rattle.rules.specs.Table.{factor_row, add_row, addc_row, mulc_row, mul_row, pow_row, inv_row, line_of}
use Rattle.rules.specs.Run.{row_of, inverts_zero, within, run_ops, factor_lines, bent_in, lines_of}
use Rattle.rules.specs.Rate.{last, limits_of, no_limits, first_bad, rate_ranges, rate_of}
use Rattle.rules.specs.Figures.{◌to◌, −, ends}
use Rattle.margin.specs.declared.Refusal.TheVariants.{Rate, Ceiling}
use Rattle.margin.specs.InFull.{Edge, Widen, Nowhere, Refused}
use Rattle.margin.specs.Edge.{wider, moves, row, rows, candidates, first_that, edge_of, edge_for}

-- a codelist's factors and operations, and the ranges of its factors
pub record Class : Type 0 where
  pub factors : ℕ
  pub operations : List Op
  pub ranges : List Range

abbrev pub codelist_in : Class → Codelist
codelist_in k = codelist_of Y2016 k.factors (map (λ o. record { op = o }) k.operations)

-- `factors→2`, `add→1→2`
abbrev pub sum : Range → Range → Class
sum a b = record { factors = 2; operations = Add 1 2 ∷ []; ranges = a ∷ b ∷ [] }

-- `factors→1`, `addc→1→-1000`, `inv→2`
abbrev pub inverse : Range → Class
inverse a = record { factors = 1; operations = AddC 1 (− 1000) ∷ Inv 2 ∷ []; ranges = a ∷ [] }

-- `factors→1`, `pow→1→2`, `mulc→2→500000000`, `addc→3→-20000`, `inv→4`
abbrev pub steep : Range → Class
steep a = record { factors = 1; operations = Pow 1 2 ∷ MulC 2 (pos 500000000) ∷ AddC 3 (− 20000) ∷ Inv 4 ∷ []; ranges = a ∷ [] }

pub record Figure : Type 0 where
  pub class : Class
  pub ceiling : ℤ
  pub gives : Edge

abbrev pub figures : List Figure
figures =
    -- on 0..10 and 0..20 the value's high end is 30: one unit passes it, and the first factor comes first
    record { class = sum (0 to 10) (0 to 20); ceiling = pos 30; gives = Widen 1 1 }
    ∷ record { class = sum (0 to 10) (0 to 20); ceiling = pos 31; gives = Widen 1 2 }
    ∷ record { class = sum (0 to 10) (0 to 20); ceiling = pos 129; gives = Widen 1 100 }
    ∷ record { class = sum (0 to 10) (0 to 20); ceiling = pos 130; gives = Nowhere }
    ∷ record { class = sum (0 to 10) (0 to 20); ceiling = pos 29; gives = Refused Ceiling }
    -- a ceiling at the limit, and one beyond it on either side
    ∷ record { class = sum (0 to 1999999999) (0 to 0); ceiling = pos 2000000000; gives = Widen 1 2 }
    ∷ record { class = sum (0 to 10) (0 to 20); ceiling = pos 2000000001; gives = Refused Ceiling }
    ∷ record { class = sum (0 to 10) (0 to 20); ceiling = − 2000000001; gives = Refused Ceiling }
    -- the ranges' own refusal comes before the ceiling's
    ∷ record { class = sum (0 to 10) (1 to 0); ceiling = pos 2000000001; gives = Refused (Rate (BadRange 2)) }
    -- by refusals: 12 at line 3, and 11 at line 5, by a rounded unit that is multiplied
    ∷ record { class = inverse (0 to 700); ceiling = pos 2000000000; gives = Widen 1 85 }
    ∷ record { class = steep (0 to 0); ceiling = pos 2000000000; gives = Widen 1 1 }
    ∷ []

abbrev pub edge_in : Figure → Edge
edge_in f = edge_for (record { codelist = codelist_in f.class }) (ends f.class.ranges) f.ceiling

pub all_right : map edge_in figures ≡ map (λ f. f.gives) figures
unfolding edge_for edge_of first_that candidates rows row moves wider rate_of
    rate_ranges no_limits first_bad limits_of last lines_of bent_in run_ops factor_lines row_of inverts_zero within line_of
    factor_row add_row addc_row mulc_row mul_row pow_row inv_row apart is_single only
    codelist_of ratable well_formed_ops
    is_valid both_valid kept sum_of neg_of times_of ends_product product_of ends_inverse inverse_of hull_of
    chain ups_within pow_above pow_below pow_across_even pow_across_odd pow_across pow_by_sign pow_of
    has sum_over sum_below valid_below ends_products products_of largest_square square_sum squares_of root_sum root_of
    magnitude_of star_root ends_star is_half star_of
    floor_div ceil_div floor_quot ceil_quot ceil_sqrt floor_sqrt root_bits ones ones_in count_trailing_zeros
all_right = refl

-- what plain rating of a class gives after a widening of its first factor
pub record Reason : Type 0 where
  pub class : Class
  pub units : ℕ
  pub outcome : rating.Outcome

-- one unit less is accepted
abbrev pub reasons : List Reason
reasons =
    record { class = inverse (0 to 700); units = 84; outcome = rating.Rated }
    ∷ record { class = inverse (0 to 700); units = 85; outcome = rating.Refused (Overflow 3) }
    ∷ record { class = steep (0 to 0); units = 0; outcome = rating.Rated }
    ∷ record { class = steep (0 to 0); units = 1; outcome = rating.Refused (Divisor 5) }
    ∷ record { class = sum (0 to 1999999999) (0 to 0); units = 1; outcome = rating.Rated }
    ∷ record { class = sum (0 to 1999999999) (0 to 0); units = 2; outcome = rating.Refused (BadRange 1) }
    ∷ []

abbrev pub outcome_in : Reason → rating.Outcome
outcome_in r = (rate_of (codelist_in r.class) (wider (ends r.class.ranges) 1 r.units)).outcome

pub reasons-right : map outcome_in reasons ≡ map (λ r. r.outcome) reasons
unfolding wider rate_of
    rate_ranges no_limits first_bad limits_of last lines_of bent_in run_ops factor_lines row_of inverts_zero within line_of
    factor_row add_row addc_row mulc_row mul_row pow_row inv_row apart is_single only
    codelist_of ratable well_formed_ops
    is_valid both_valid kept sum_of neg_of times_of ends_product product_of ends_inverse inverse_of hull_of
    chain ups_within pow_above pow_below pow_across_even pow_across_odd pow_across pow_by_sign pow_of
    has sum_over sum_below valid_below ends_products products_of largest_square square_sum squares_of root_sum root_of
    magnitude_of star_root ends_star is_half star_of
    floor_div ceil_div floor_quot ceil_quot ceil_sqrt floor_sqrt root_bits ones ones_in count_trailing_zeros
reasons-right = refl
