-- 02, request 3: figures from the definitions themselves, by computing.
use Rattle.std.specs.Prelude.{◌≡◌, refl, List, [], ◌∷◌, map, ℕ, ℤ, pos, negsuc, replicate}
use Rattle.std.specs.Int.Count.{ones, ones_in, count_trailing_zeros}
use Rattle.algebra.specs.Sum.{sum_below}
use Rattle.exact.specs.Div.{floor_div, ceil_div, floor_quot, ceil_quot}
use Rattle.exact.specs.Sqrt.{ceil_sqrt, floor_sqrt, root_bits}
use Rattle.codelist.specs.declared.Op.TheVariants.{Inv, MulC}
use Rattle.codelist.specs.declared.Year.TheVariants.{Y2016}
use Rattle.codelist.specs.Codelist.{well_formed_ops, ratable}
use Rattle.codelist.specs.Load.{empty, codelist_of}
use Rattle.range.specs.Limit.{is_valid, both_valid, kept}
use Rattle.range.specs.Arithmetic.{sum_of, neg_of, times_of, ends_product, product_of, ends_inverse, inverse_of, hull_of}
use Rattle.range.specs.Power.{chain, ups_within, pow_above, pow_below, pow_across_even, pow_across_odd, pow_across, pow_by_sign, pow_of}
use Rattle.range.specs.Sums.{has, sum_over, valid_below, ends_products, products_of, largest_square, square_sum, squares_of, root_sum, root_of}
use Rattle.rules.specs.Sets.{apart, is_single, only}
use Rattle.rules.specs.Table.{factor_row, add_row, addc_row, mulc_row, mul_row, pow_row, inv_row, line_of}
use Rattle.rules.specs.Run.{row_of, inverts_zero, within, run_ops, factor_lines, bent_in, lines_of}
use Rattle.rules.specs.Rate.{last, limits_of, first_bad, rate_ranges, rate_of}
use Rattle.engine.specs.declared.Engine.{Engine}
use Rattle.engine.specs.Engine.{empty_engine, rated_of}
use Rattle.boats.specs.Boats.{doubled, boat_rating}
use Rattle.boats.specs.Report.{leads, figures_of}
use Rattle.boats.specs.InFull.{Counted}
use Rattle.boats.specs.declared.Refusal.TheVariants.{NoCodelist, Boats}
use Rattle.boats.specs.Fleet.{no_report, reported, refused, fleet_of, fleet_of_numbers}

-- A page: the engine, its boats, and what is answered
pub record Figure : Type 0 where
  pub engine : Engine
  pub boats : List (List ℤ)
  pub answers : Counted

-- one factor, `inv→1`; and one factor, `mulc→1→-10000`
abbrev pub inverse : Engine
inverse = record { codelist = codelist_of Y2016 1 (record { op = Inv 1 } ∷ []) }

abbrev pub negative : Engine
negative = record { codelist = codelist_of Y2016 1 (record { op = MulC 1 (negsuc 9999) } ∷ []) }

-- a boat with this first number, and seven others that are beyond the limit
abbrev pub boat : ℕ → List ℤ
boat u = pos u ∷ replicate 7 (pos 2000000001)

abbrev pub figures : List Figure
figures =
    -- 40000: 2500..2500. 20000: 5000..5000, and the first of two with it. 2000000001 is beyond the limit: 9. 0: 11. 1: 12.
    record {
      engine = inverse;
      boats = boat 40000 ∷ boat 20000 ∷ boat 2000000001 ∷ boat 20000 ∷ boat 0 ∷ boat 1 ∷ [];
      answers = reported (record { accepted = 3; range = 1; divisor = 1; limit = 1; low = pos 12500; high = pos 12500; greatest = 2 });
    }
    -- no boat is accepted
    ∷ record {
      engine = inverse;
      boats = boat 0 ∷ boat 1 ∷ [];
      answers = reported (record { accepted = 0; range = 0; divisor = 1; limit = 1; low = pos 0; high = pos 0; greatest = 0 });
    }
    -- every high end is below 0, and the greatest is −20000
    ∷ record {
      engine = negative;
      boats = boat 40000 ∷ boat 20000 ∷ [];
      answers = reported (record { accepted = 2; range = 0; divisor = 0; limit = 0; low = negsuc 59999; high = negsuc 59999; greatest = 2 });
    }
    ∷ record { engine = inverse; boats = []; answers = reported no_report }
    -- the order of the refusals: 10, and then 14
    ∷ record { engine = empty_engine; boats = replicate 1001 (boat 20000); answers = refused NoCodelist }
    ∷ record { engine = inverse; boats = replicate 1001 (boat 20000); answers = refused Boats }
    ∷ []

-- the same, computed
abbrev pub computed : Figure → Figure
computed f = record { engine = f.engine; boats = f.boats; answers = fleet_of f.engine f.boats }

pub figures-right : map computed figures ≡ figures
unfolding fleet_of figures_of leads boat_rating doubled rated_of empty_engine empty
    rate_of rate_ranges first_bad limits_of last lines_of bent_in run_ops factor_lines row_of inverts_zero within line_of
    factor_row add_row addc_row mulc_row mul_row pow_row inv_row apart is_single only
    codelist_of ratable well_formed_ops
    is_valid both_valid kept sum_of neg_of times_of ends_product product_of ends_inverse inverse_of hull_of
    chain ups_within pow_above pow_below pow_across_even pow_across_odd pow_across pow_by_sign pow_of
    has sum_over sum_below valid_below ends_products products_of largest_square square_sum squares_of root_sum root_of
    floor_div ceil_div floor_quot ceil_quot ceil_sqrt floor_sqrt root_bits ones ones_in count_trailing_zeros
figures-right = refl

-- nine numbers are a record and an unfinished one
pub unfinished : fleet_of_numbers inverse (replicate 9 (pos 20000)) ≡ refused Boats
unfolding fleet_of_numbers codelist_of ratable well_formed_ops
unfinished = refl
