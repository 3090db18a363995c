-- Figures of the call, worked out from the definitions: a codelist's factors and operations, the numbers of its ranges and of two boats, and the
-- answer.
use Rattle.std.specs.Prelude.{◌≡◌, refl, List, [], ◌∷◌, map, ℕ, ℤ, pos}
use Rattle.std.specs.Int.Count.{ones, ones_in, count_trailing_zeros}
use Rattle.algebra.specs.Sum.{sum_below}
use Rattle.exact.specs.Div.{floor_div, ceil_div, floor_quot, ceil_quot}
use Rattle.exact.specs.Sqrt.{ceil_sqrt, floor_sqrt, root_bits}
use Rattle.codelist.specs.declared.Op.{Op}
use Rattle.codelist.specs.declared.Op.TheVariants.{Add, Mul, AddC, MulC, Pow, Inv}
use Rattle.codelist.specs.declared.Year.TheVariants.{Y2016}
use Rattle.codelist.specs.Codelist.{well_formed_ops, ratable}
use Rattle.codelist.specs.Load.{codelist_of}
use Rattle.range.specs.Limit.{is_valid, both_valid, kept}
use Rattle.range.specs.Arithmetic.{sum_of, neg_of, times_of, ends_product, product_of, ends_inverse, inverse_of, hull_of}
use Rattle.range.specs.Power.{chain, ups_within, pow_above, pow_below, pow_across_even, pow_across_odd, pow_across, pow_by_sign, pow_of}
use Rattle.range.specs.Sums.{has, sum_over, valid_below, ends_products, products_of, largest_square, square_sum, squares_of, root_sum, root_of}
use Rattle.range.specs.Star.{magnitude_of, star_root, ends_star, is_half, star_of}
use Rattle.rules.specs.declared.Refusal.TheVariants.{NoCodelist, RangeCount, BadRange, Divisor}
use Rattle.rules.specs.Sets.{apart, is_single, only}
use Rattle.rules.specs.Table.{factor_row, add_row, addc_row, mulc_row, mul_row, pow_row, inv_row, line_of}
use Rattle.rules.specs.Run.{row_of, inverts_zero, within, run_ops, factor_lines, bent_in, lines_of}
use Rattle.rules.specs.Rate.{last, limits_of, no_limits, first_bad, rate_ranges, rate_of}
use Rattle.rules.specs.Figures.{−}
use Rattle.engine.specs.InFull.{Accepted}
use Rattle.engine.specs.declared.Refusal.TheVariants.{Rate}
use Rattle.engine.specs.Engine.{rated_of}
use Rattle.increments.specs.InFull.{Difference}
use Rattle.increments.specs.Call.{holds, outside_from, first_outside, least_sum, greatest_sum, refused_with, boats_of, sisters_of}

pub record Figure : Type 0 where
  pub factors : ℕ
  pub operations : List Op
  pub ranges : List ℤ
  pub boats : List ℤ
  pub gives : Difference

abbrev between : ℤ → ℤ → Difference
between l h = record { outcome = Accepted; low = l; high = h }

abbrev pub figures : List Figure
figures =
    -- `pow→1→2` on 10000..30000, G 20000..60000: the boats at 1 and 3, the same the other way, and one boat twice
    record {
      factors = 1;
      operations = Pow 1 2 ∷ [];
      ranges = pos 10000 ∷ pos 30000 ∷ [];
      boats = pos 10000 ∷ pos 30000 ∷ [];
      gives = between (pos 40000) (pos 120000);
    }
    ∷ record {
      factors = 1;
      operations = Pow 1 2 ∷ [];
      ranges = pos 10000 ∷ pos 30000 ∷ [];
      boats = pos 30000 ∷ pos 10000 ∷ [];
      gives = between (− 120000) (− 40000);
    }
    ∷ record {
      factors = 1;
      operations = Pow 1 2 ∷ [];
      ranges = pos 10000 ∷ pos 30000 ∷ [];
      boats = pos 20000 ∷ pos 20000 ∷ [];
      gives = between (pos 0) (pos 0);
    }
    -- examples/sisters/dinghy.in: a length of 4 m and 2 years beside 4.2 m and 5 years
    ∷ record {
      factors = 2;
      operations = Pow 1 2 ∷ MulC 3 (pos 15000) ∷ MulC 2 (− 8000) ∷ Add 4 5 ∷ AddC 6 (pos 200000) ∷ [];
      ranges = pos 35000 ∷ pos 50000 ∷ pos 0 ∷ pos 100000 ∷ [];
      boats = pos 40000 ∷ pos 20000 ∷ pos 42000 ∷ pos 50000 ∷ [];
      gives = between (− 3000) (pos 6000);
    }
    -- `mulc→1→67` on 8..9, G 67..67: rounded outward
    ∷ record {
      factors = 1;
      operations = MulC 1 (pos 67) ∷ [];
      ranges = pos 8 ∷ pos 9 ∷ [];
      boats = pos 8 ∷ pos 9 ∷ [];
      gives = between (pos 0) (pos 1);
    }
    -- `mul→1→2` on 6..16 and −22..31, G −22..31 and 6..16: the sum of four products, rounded once
    ∷ record {
      factors = 2;
      operations = Mul 1 2 ∷ [];
      ranges = pos 6 ∷ pos 16 ∷ − 22 ∷ pos 31 ∷ [];
      boats = pos 10 ∷ pos 25 ∷ pos 13 ∷ pos 6 ∷ [];
      gives = between (− 1) (pos 0);
    }
    -- 10, whatever the numbers
    ∷ record {
      factors = 1;
      operations = [];
      ranges = [];
      boats = [];
      gives = refused_with (Rate NoCodelist);
    }
    -- the class's 8, 9 and 11 before the boats' 8
    ∷ record {
      factors = 1;
      operations = Pow 1 2 ∷ [];
      ranges = pos 10000 ∷ [];
      boats = [];
      gives = refused_with (Rate RangeCount);
    }
    ∷ record {
      factors = 1;
      operations = Pow 1 2 ∷ [];
      ranges = pos 2 ∷ pos 1 ∷ [];
      boats = [];
      gives = refused_with (Rate (BadRange 1));
    }
    ∷ record {
      factors = 1;
      operations = Inv 1 ∷ [];
      ranges = − 1 ∷ pos 1 ∷ [];
      boats = [];
      gives = refused_with (Rate (Divisor 2));
    }
    -- a number too few, and too many: 8, before 9
    ∷ record {
      factors = 1;
      operations = Pow 1 2 ∷ [];
      ranges = pos 10000 ∷ pos 30000 ∷ [];
      boats = pos 9999 ∷ [];
      gives = refused_with (Rate RangeCount);
    }
    ∷ record {
      factors = 1;
      operations = Pow 1 2 ∷ [];
      ranges = pos 10000 ∷ pos 30000 ∷ [];
      boats = pos 9999 ∷ pos 10000 ∷ pos 10000 ∷ [];
      gives = refused_with (Rate RangeCount);
    }
    -- a unit below the range, and above it: 9 at the lowest factor, of whichever boat
    ∷ record {
      factors = 1;
      operations = Pow 1 2 ∷ [];
      ranges = pos 10000 ∷ pos 30000 ∷ [];
      boats = pos 10000 ∷ pos 9999 ∷ [];
      gives = refused_with (Rate (BadRange 1));
    }
    ∷ record {
      factors = 2;
      operations = Mul 1 2 ∷ [];
      ranges = pos 6 ∷ pos 16 ∷ − 22 ∷ pos 31 ∷ [];
      boats = pos 10 ∷ pos 32 ∷ pos 10 ∷ pos 31 ∷ [];
      gives = refused_with (Rate (BadRange 2));
    }
    ∷ record {
      factors = 2;
      operations = Mul 1 2 ∷ [];
      ranges = pos 6 ∷ pos 16 ∷ − 22 ∷ pos 31 ∷ [];
      boats = pos 10 ∷ pos 32 ∷ pos 17 ∷ pos 31 ∷ [];
      gives = refused_with (Rate (BadRange 1));
    }
    ∷ []

abbrev pub answer_of : Figure → Difference
answer_of f = sisters_of (record { codelist = codelist_of Y2016 f.factors (map (λ o. record { op = o }) f.operations) }) f.ranges f.boats

pub all_right : map answer_of figures ≡ map (λ f. f.gives) figures
unfolding sisters_of boats_of first_outside outside_from holds least_sum greatest_sum
    rated_of rate_of rate_ranges no_limits first_bad limits_of last lines_of bent_in run_ops factor_lines row_of inverts_zero within line_of
    factor_row add_row addc_row mulc_row mul_row pow_row inv_row apart is_single only
    codelist_of ratable well_formed_ops
    is_valid both_valid kept sum_of neg_of times_of ends_product product_of ends_inverse inverse_of hull_of
    chain ups_within pow_above pow_below pow_across_even pow_across_odd pow_across pow_by_sign pow_of
    has sum_over sum_below valid_below ends_products products_of largest_square square_sum squares_of root_sum root_of
    magnitude_of star_root ends_star is_half star_of
    floor_div ceil_div floor_quot ceil_quot ceil_sqrt floor_sqrt root_bits ones ones_in count_trailing_zeros
all_right = refl
