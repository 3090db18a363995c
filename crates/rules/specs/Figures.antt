-- 01, "Figures to hold it to": the starred ones, and those of 02, from the rules themselves. Each is a codelist with ranges and what rating gives.
use Rattle.std.specs.Prelude.{◌≡◌, refl, List, [], ◌∷◌, map, ℕ, ℤ, pos, neg_ℤ}
use Rattle.std.specs.Int.Count.{ones, ones_in, count_trailing_zeros}
use Rattle.algebra.specs.Sum.{sum_below}
use Rattle.exact.specs.Div.{floor_div, ceil_div, floor_quot, ceil_quot}
use Rattle.exact.specs.Sqrt.{ceil_sqrt, floor_sqrt, root_bits}
use Rattle.codelist.specs.declared.Op.{Op}
use Rattle.codelist.specs.declared.Op.TheVariants.{Add, Mul, AddC, MulC, Pow, Inv}
use Rattle.codelist.specs.declared.Year.{Year}
use Rattle.codelist.specs.declared.Year.TheVariants.{Y2016, Y2014}
use Rattle.codelist.specs.Codelist.{well_formed_ops, ratable}
use Rattle.codelist.specs.Load.{codelist_of}
use Rattle.range.specs.declared.Range.{Range}
use Rattle.range.specs.Limit.{from_to, zero_range, is_valid, both_valid, kept}
use Rattle.range.specs.Arithmetic.{sum_of, neg_of, times_of, ends_product, product_of, ends_inverse, inverse_of, hull_of}
use Rattle.range.specs.Power.{chain, ups_within, pow_above, pow_below, pow_across_even, pow_across_odd, pow_across, pow_by_sign, pow_of}
use Rattle.range.specs.Sums.{has, sum_over, valid_below, ends_products, products_of, largest_square, square_sum, squares_of, root_sum, root_of}
use Rattle.range.specs.Star.{magnitude_of, star_root, ends_star, is_half, star_of}
use Rattle.rules.specs.declared.Refusal.TheVariants.{NoCodelist, Divisor, Overflow}
use Rattle.rules.specs.InFull.{Rating}
use Rattle.rules.specs.Sets.{apart, is_single, only}
use Rattle.rules.specs.Table.{factor_row, add_row, addc_row, mulc_row, mul_row, pow_row, inv_row, eight, line_of}
use Rattle.rules.specs.Run.{row_of, inverts_zero, within, run_ops, factor_lines, bent_in, lines_of}
use Rattle.rules.specs.Rate.{last, limits_of, rated, refused, first_bad, rate_ranges, rate_of}

-- a codelist's factors and operations, the ranges of its factors, and what rating gives
pub record Figure : Type 0 where
  pub factors : ℕ
  pub operations : List Op
  pub ranges : List Range
  pub gives : Rating

-- l..h, of units not below 0, and u units below 0
infix 90 ◌to◌
abbrev pub ◌to◌ : ℕ → ℕ → Range
l to h = from_to (pos l) (pos h)

abbrev pub − : ℕ → ℤ
− u = neg_ℤ (pos u)

-- the slopes of two factors, and 0, 0 beyond
abbrev pub slopes : Range → Range → List Range
slopes g h = g ∷ h ∷ zero_range ∷ zero_range ∷ zero_range ∷ zero_range ∷ zero_range ∷ zero_range ∷ []

-- V, G, P, B, E and the full bend
abbrev pub limits : Range → List Range → ℕ → ℕ → Range → Range → Rating
limits v g p b e f = rated (record { value = v; gradient = g; support = p; nonlinear = b; spectrum = e; full = f })

abbrev pub figures : List Figure
figures =
    -- `pow→1→2` on 10000..30000: V 10000..90000, G 20000..60000, E 20000..20000
    record {
      factors = 1;
      operations = Pow 1 2 ∷ [];
      ranges = 10000 to 30000 ∷ [];
      gives = limits (10000 to 90000) (slopes (20000 to 60000) zero_range) 1 1 (20000 to 20000) (20000 to 20000);
    }
    -- `inv→1` on 20000..40000: V 2500..5000, G −2500..−625, E 312..2500
    ∷ record {
      factors = 1;
      operations = Inv 1 ∷ [];
      ranges = 20000 to 40000 ∷ [];
      gives = limits (2500 to 5000) (slopes (from_to (− 2500) (− 625)) zero_range) 1 1 (312 to 2500) (312 to 2500);
    }
    -- `inv→1` on 30000..30000: V 3333..3334, G −1112..−1110, E 739..742
    ∷ record {
      factors = 1;
      operations = Inv 1 ∷ [];
      ranges = 30000 to 30000 ∷ [];
      gives = limits (3333 to 3334) (slopes (from_to (− 1112) (− 1110)) zero_range) 1 1 (739 to 742) (739 to 742);
    }
    -- `pow→1→3` on −10000..20000: V −10000..80000, G 0..120000, E −60000..120000
    ∷ record {
      factors = 1;
      operations = Pow 1 3 ∷ [];
      ranges = from_to (− 10000) (pos 20000) ∷ [];
      gives =
          let e = from_to (− 60000) (pos 120000) in
          limits (from_to (− 10000) (pos 80000)) (slopes (0 to 120000) zero_range) 1 1 e e;
    }
    -- `mulc→1→-1` on 5000..5000: V −1..0, G −1..−1, B empty
    ∷ record {
      factors = 1;
      operations = MulC 1 (− 1) ∷ [];
      ranges = 5000 to 5000 ∷ [];
      gives = limits (from_to (− 1) (pos 0)) (slopes (from_to (− 1) (− 1)) zero_range) 1 0 zero_range zero_range;
    }
    -- Two factors, `pow→1→2`, ranges 10000..30000 and 0..10000: E 20000..20000, full 0..20000
    ∷ record {
      factors = 2;
      operations = Pow 1 2 ∷ [];
      ranges = 10000 to 30000 ∷ 0 to 10000 ∷ [];
      gives = limits (10000 to 90000) (slopes (20000 to 60000) zero_range) 1 1 (20000 to 20000) (0 to 20000);
    }
    -- Two factors on 0..10000, both squared and added: E 20000..20000
    ∷ record {
      factors = 2;
      operations = Pow 1 2 ∷ Pow 2 2 ∷ Add 3 4 ∷ [];
      ranges = 0 to 10000 ∷ 0 to 10000 ∷ [];
      gives = limits (0 to 20000) (slopes (0 to 20000) (0 to 20000)) 3 3 (20000 to 20000) (20000 to 20000);
    }
    -- Ranges 10000..20000 and 30000..40000, `mul→1→2`, `pow→1→2`, `add→3→4`: V 40000..120000, slopes 50000..80000 and 10000..20000,
    -- E −10000..30000
    ∷ record {
      factors = 2;
      operations = Mul 1 2 ∷ Pow 1 2 ∷ Add 3 4 ∷ [];
      ranges = 10000 to 20000 ∷ 30000 to 40000 ∷ [];
      gives =
          let e = from_to (− 10000) (pos 30000) in
          limits (40000 to 120000) (slopes (50000 to 80000) (10000 to 20000)) 3 3 e e;
    }
    -- Both ranges 10000..10000, `pow→1→2`, `mul→3→2`: "The figure of 01 with E −20000..40000 becomes −12361..32361" (02, request 4)
    ∷ record {
      factors = 2;
      operations = Pow 1 2 ∷ Mul 3 2 ∷ [];
      ranges = 10000 to 10000 ∷ 10000 to 10000 ∷ [];
      gives =
          let e = from_to (− 12361) (pos 32361) in
          limits (10000 to 10000) (slopes (20000 to 20000) (10000 to 10000)) 3 3 e e;
    }
    -- `inv→1` on 0..10000: 11 at line 2
    ∷ record { factors = 1; operations = Inv 1 ∷ []; ranges = 0 to 10000 ∷ []; gives = refused (Divisor 2) }
    -- on 1..1: 12 at line 2
    ∷ record { factors = 1; operations = Inv 1 ∷ []; ranges = 1 to 1 ∷ []; gives = refused (Overflow 2) }
    -- 02, request 2: the largest squares are added exactly and rounded up once. In Cross, two factors on 0..0, `mulc→1→1`, `mulc→2→1`, `add→3→4`,
    -- `mulc→1→5000`, `mulc→2→5000`, `add→6→7`, `mul→5→8`: E −71..73 (each square rounded up: −100..102)
    ∷ record {
      factors = 2;
      operations = MulC 1 (pos 1) ∷ MulC 2 (pos 1) ∷ Add 3 4 ∷ MulC 1 (pos 5000) ∷ MulC 2 (pos 5000) ∷ Add 6 7 ∷ Mul 5 8 ∷ [];
      ranges = zero_range ∷ zero_range ∷ [];
      gives = let e = from_to (− 71) (pos 73) in limits zero_range (slopes zero_range zero_range) 3 3 e e;
    }
    -- In Sq, eight factors on 0..10000, all added, `mulc→15→5001`, `pow→16→2`: V 0..160065, slopes and E 0..40018 (each square rounded up: E 0..40032)
    ∷ record {
      factors = 8;
      operations =
          Add 1 2 ∷ Add 9 3 ∷ Add 10 4 ∷ Add 11 5 ∷ Add 12 6 ∷ Add 13 7 ∷ Add 14 8 ∷ MulC 15 (pos 5001) ∷ Pow 16 2 ∷ [];
      ranges = eight (λ a. 0 to 10000);
      gives = limits (0 to 160065) (eight (λ a. 0 to 40018)) 255 255 (0 to 40018) (0 to 40018);
    }
    -- Both factors on 2000000..2000000, `mulc→1→3001771`, `mulc→2→3315022`, `add→3→4`, `inv→5`: V 0..1, slopes −301..0 and −332..0, E 0..40 (each
    -- square rounded up: Sq is 2000000001, and 12 at line 6)
    ∷ record {
      factors = 2;
      operations = MulC 1 (pos 3001771) ∷ MulC 2 (pos 3315022) ∷ Add 3 4 ∷ Inv 5 ∷ [];
      ranges = 2000000 to 2000000 ∷ 2000000 to 2000000 ∷ [];
      gives = limits (0 to 1) (slopes (from_to (− 301) (pos 0)) (from_to (− 332) (pos 0))) 3 3 (0 to 40) (0 to 40);
    }
    -- 02, request 4: products of two single-factor lines. The figure above with the lines exchanged, `mul→2→3`; case 7, `pow→2→2`, `mul→1→3`
    ∷ record {
      factors = 2;
      operations = Pow 1 2 ∷ Mul 2 3 ∷ [];
      ranges = 10000 to 10000 ∷ 10000 to 10000 ∷ [];
      gives =
          let e = from_to (− 12361) (pos 32361) in
          limits (10000 to 10000) (slopes (20000 to 20000) (10000 to 10000)) 3 3 e e;
    }
    ∷ record {
      factors = 2;
      operations = Pow 2 2 ∷ Mul 1 3 ∷ [];
      ranges = 10000 to 10000 ∷ 10000 to 10000 ∷ [];
      gives =
          let e = from_to (− 12361) (pos 32361) in
          limits (10000 to 10000) (slopes (10000 to 10000) (20000 to 20000)) 3 3 e e;
    }
    -- case 10, both lines bent: `pow→1→2`, `pow→2→2`, `mul→3→4` on 10000..20000 and 10000..10000 (01's rule: −60000..160000)
    ∷ record {
      factors = 2;
      operations = Pow 1 2 ∷ Pow 2 2 ∷ Mul 3 4 ∷ [];
      ranges = 10000 to 20000 ∷ 10000 to 10000 ∷ [];
      gives =
          let e = from_to (− 60000) (pos 135441) in
          limits (10000 to 40000) (slopes (20000 to 40000) (20000 to 80000)) 3 3 e e;
    }
    -- two lines of the same factor keep 01's rule: `pow→1→2`, `mul→2→1` on 10000..10000
    ∷ record {
      factors = 1;
      operations = Pow 1 2 ∷ Mul 2 1 ∷ [];
      ranges = 10000 to 10000 ∷ [];
      gives = limits (10000 to 10000) (slopes (30000 to 30000) zero_range) 1 1 (60000 to 60000) (60000 to 60000);
    }
    -- and so do two lines that are not bent: `mulc→1→50`, `mulc→2→150`, `mul→3→4` on 0..0 twice (by the new rule −1..1)
    ∷ record {
      factors = 2;
      operations = MulC 1 (pos 50) ∷ MulC 2 (pos 150) ∷ Mul 3 4 ∷ [];
      ranges = 0 to 0 ∷ 0 to 0 ∷ [];
      gives = let e = from_to (− 2) (pos 2) in limits (0 to 0) (slopes (0 to 0) (0 to 0)) 3 3 e e;
    }
    -- "when an end of A, B or C passes 1,000,000,000 units": C at that, and one unit more; A at that, and two units more; B two units more
    ∷ record {
      factors = 2;
      operations = Pow 1 2 ∷ MulC 2 (pos 1000000000) ∷ Mul 3 4 ∷ [];
      ranges = 5000 to 5000 ∷ 0 to 0 ∷ [];
      gives =
          let e = from_to (− 1000000000) (pos 1000000000) in
          limits (0 to 0) (slopes (0 to 0) (250000000 to 250000000)) 3 3 e e;
    }
    ∷ record {
      factors = 2;
      operations = Pow 1 2 ∷ MulC 2 (pos 1000000001) ∷ Mul 3 4 ∷ [];
      ranges = 5000 to 5000 ∷ 0 to 0 ∷ [];
      gives = refused (Overflow 5);
    }
    ∷ record {
      factors = 2;
      operations = Pow 1 2 ∷ Mul 3 2 ∷ [];
      ranges = 0 to 0 ∷ 500000000 to 500000000 ∷ [];
      gives = let e = 0 to 1000000000 in limits (0 to 0) (slopes (0 to 0) (0 to 0)) 3 3 e e;
    }
    ∷ record {
      factors = 2;
      operations = Pow 1 2 ∷ Mul 3 2 ∷ [];
      ranges = 0 to 0 ∷ 500000001 to 500000001 ∷ [];
      gives = refused (Overflow 4);
    }
    ∷ record {
      factors = 2;
      operations = Pow 2 2 ∷ Mul 1 3 ∷ [];
      ranges = 500000001 to 500000001 ∷ 0 to 0 ∷ [];
      gives = refused (Overflow 4);
    }
    -- 02, request 5: a codelist with `mulc→1→0` is one that no accepted load leaves, so that rating refuses it with 10: whatever uses the line, and before
    -- 8 (no range) and 9 (2..1)
    ∷ record { factors = 1; operations = MulC 1 (pos 0) ∷ []; ranges = 1 to 1 ∷ []; gives = refused NoCodelist }
    ∷ record { factors = 1; operations = MulC 1 (pos 0) ∷ Pow 1 2 ∷ []; ranges = 1 to 1 ∷ []; gives = refused NoCodelist }
    ∷ record { factors = 1; operations = MulC 1 (pos 0) ∷ []; ranges = []; gives = refused NoCodelist }
    ∷ record { factors = 1; operations = MulC 1 (pos 0) ∷ []; ranges = 2 to 1 ∷ []; gives = refused NoCodelist }
    -- `mulc→1→1` and `addc→1→0` on 0..0 are rated
    ∷ record {
      factors = 1;
      operations = MulC 1 (pos 1) ∷ [];
      ranges = 0 to 0 ∷ [];
      gives = limits (0 to 0) (slopes (1 to 1) zero_range) 1 0 zero_range zero_range;
    }
    ∷ record {
      factors = 1;
      operations = AddC 1 (pos 0) ∷ [];
      ranges = 0 to 0 ∷ [];
      gives = limits (0 to 0) (slopes (10000 to 10000) zero_range) 1 0 zero_range zero_range;
    }
    ∷ []

-- 02, request 9: the same arithmetic "without sets"
abbrev pub figures2014 : List Figure
figures2014 =
    -- Example 1 of 000, "Two factors on 0..10000, both squared and added": bend and full bend 0..40000 (2016: 20000..20000)
    record {
      factors = 2;
      operations = Pow 1 2 ∷ Pow 2 2 ∷ Add 3 4 ∷ [];
      ranges = 0 to 10000 ∷ 0 to 10000 ∷ [];
      gives = limits (0 to 20000) (slopes (0 to 20000) (0 to 20000)) 3 3 (0 to 40000) (0 to 40000);
    }
    -- "request 4 unused": both ranges 10000..10000, `pow→1→2`, `mul→3→2`: E −20000..40000, 01's figure (2016: −12361..32361)
    ∷ record {
      factors = 2;
      operations = Pow 1 2 ∷ Mul 3 2 ∷ [];
      ranges = 10000 to 10000 ∷ 10000 to 10000 ∷ [];
      gives =
          let e = from_to (− 20000) (pos 40000) in
          limits (10000 to 10000) (slopes (20000 to 20000) (10000 to 10000)) 3 3 e e;
    }
    -- and with it its refusal: `pow→1→2`, `mulc→2→1000000001`, `mul→3→4` on 5000 and 0 (2016: 12 at line 5)
    ∷ record {
      factors = 2;
      operations = Pow 1 2 ∷ MulC 2 (pos 1000000001) ∷ Mul 3 4 ∷ [];
      ranges = 5000 to 5000 ∷ 0 to 0 ∷ [];
      gives =
          let e = from_to (− 1000000002) (pos 1000000002) in
          limits (0 to 0) (slopes (0 to 0) (250000000 to 250000001)) 3 3 e e;
    }
    -- "every line's bent set all factors", and "depends-on sets are as now": two factors, `pow→1→2`, ranges 10000..30000 and 0..10000: B {1, 2}, P {1},
    -- bend and full bend 0..20000
    ∷ record {
      factors = 2;
      operations = Pow 1 2 ∷ [];
      ranges = 10000 to 30000 ∷ 0 to 10000 ∷ [];
      gives = limits (10000 to 90000) (slopes (20000 to 60000) zero_range) 1 3 (0 to 20000) (0 to 20000);
    }
    -- that of a line without a bend, too: `mulc→1→20000` on 10000..10000, E 0..0
    ∷ record {
      factors = 1;
      operations = MulC 1 (pos 20000) ∷ [];
      ranges = 10000 to 10000 ∷ [];
      gives = limits (20000 to 20000) (slopes (20000 to 20000) zero_range) 1 1 zero_range zero_range;
    }
    -- for one factor (23) is the second power, as now: `pow→1→2` on 10000..30000
    ∷ record {
      factors = 1;
      operations = Pow 1 2 ∷ [];
      ranges = 10000 to 30000 ∷ [];
      gives = limits (10000 to 90000) (slopes (20000 to 60000) zero_range) 1 1 (20000 to 20000) (20000 to 20000);
    }
    -- a product of two factors: (24), −10000..10000
    ∷ record {
      factors = 2;
      operations = Mul 1 2 ∷ [];
      ranges = 10000 to 20000 ∷ 30000 to 40000 ∷ [];
      gives =
          let e = from_to (− 10000) (pos 10000) in
          limits (30000 to 80000) (slopes (30000 to 40000) (10000 to 20000)) 3 3 e e;
    }
    -- an inverse beside a second factor, `inv→1` on 20000..40000: (23) is 0..10000, E 0..2500 (2016: 312..2500)
    ∷ record {
      factors = 2;
      operations = Inv 1 ∷ [];
      ranges = 20000 to 40000 ∷ 0 to 10000 ∷ [];
      gives = limits (2500 to 5000) (slopes (from_to (− 2500) (− 625)) zero_range) 1 3 (0 to 2500) (0 to 2500);
    }
    -- 11 and 12 as now: `inv→1` on 0..10000, and on 1..1
    ∷ record { factors = 1; operations = Inv 1 ∷ []; ranges = 0 to 10000 ∷ []; gives = refused (Divisor 2) }
    ∷ record { factors = 1; operations = Inv 1 ∷ []; ranges = 1 to 1 ∷ []; gives = refused (Overflow 2) }
    -- and 02's request 5
    ∷ record { factors = 1; operations = MulC 1 (pos 0) ∷ []; ranges = 1 to 1 ∷ []; gives = refused NoCodelist }
    ∷ []

-- two numbers a range
abbrev pub ends : List Range → List ℤ
ends [] = []
ends (r ∷ rs) = r.low ∷ r.high ∷ ends rs

-- WHAT RATING GIVES for a figure, by the rules of a year, and that it is so for each
abbrev pub rating_of : Year → Figure → Rating
rating_of y f = rate_of (codelist_of y f.factors (map (λ o. record { op = o }) f.operations)) (ends f.ranges)

pub all_right : (map (rating_of Y2016) figures ≡ map (λ f. f.gives) figures) × (map (rating_of Y2014) figures2014 ≡ map (λ f. f.gives) figures2014)
unfolding rate_of rate_ranges first_bad limits_of last lines_of bent_in run_ops factor_lines row_of inverts_zero within line_of
    factor_row add_row addc_row mulc_row mul_row pow_row inv_row apart is_single only
    codelist_of ratable well_formed_ops
    is_valid both_valid kept sum_of neg_of times_of ends_product product_of ends_inverse inverse_of hull_of
    chain ups_within pow_above pow_below pow_across_even pow_across_odd pow_across pow_by_sign pow_of
    has sum_over sum_below valid_below ends_products products_of largest_square square_sum squares_of root_sum root_of
    magnitude_of star_root ends_star is_half star_of
    floor_div ceil_div floor_quot ceil_quot ceil_sqrt floor_sqrt root_bits ones ones_in count_trailing_zeros
all_right = (refl, refl)
