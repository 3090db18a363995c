-- 02, request 1, and requests 5 and 9 where a sheet is tidied: figures from the definitions themselves, by computing.
use Rattle.std.specs.Prelude.{List, [], ◌∷◌, ◌++◌, map, ◌≡◌, refl, ℕ, ℤ, pos, length, replicate}
use Rattle.std.specs.Int.Count.{ones, ones_in, count_trailing_zeros}
use Rattle.algebra.specs.Sum.{sum_below}
use Rattle.exact.specs.Div.{floor_div, ceil_div, floor_quot, ceil_quot}
use Rattle.exact.specs.Sqrt.{ceil_sqrt, floor_sqrt, root_bits}
use Rattle.codelist.specs.declared.Codelist.{Codelist}
use Rattle.codelist.specs.declared.Op.{Op}
use Rattle.codelist.specs.declared.Op.TheVariants.{Inv, Pow, MulC}
use Rattle.codelist.specs.declared.Refusal.TheVariants.{ZeroMultiplier}
use Rattle.codelist.specs.declared.Year.{Year}
use Rattle.codelist.specs.declared.Year.TheVariants.{Y2016, Y2014}
use Rattle.codelist.specs.Codelist.{well_formed_ops, ratable}
use Rattle.codelist.specs.Conditions.{is_between, refers_back, exponent_fits, constant_fits, multiplier_fits}
use Rattle.codelist.specs.Load.{empty, codelist_of, value_of, checked_of, operation_lines, load_of}
use Rattle.codelist.specs.Read.{peek, rest, digit, digits, positive, numeral, field, literal, named, keyword, pair, operands}
use Rattle.codelist.specs.Read.{operation_line, first_fields, first_line}
use Rattle.codelist.specs.Text.{decimal, numeral_text, year_of}
use Rattle.codelist.specs.Write.{numeral_of, text_with, text_of}
use Rattle.range.specs.Limit.{is_valid, both_valid, kept}
use Rattle.range.specs.Arithmetic.{sum_of, neg_of, times_of, ends_product, product_of, ends_inverse, inverse_of, hull_of}
use Rattle.range.specs.Power.{chain, ups_within, pow_above, pow_below, pow_across_even, pow_across_odd, pow_across, pow_by_sign, pow_of}
use Rattle.range.specs.Sums.{has, sum_over, valid_below, ends_products, products_of, largest_square, square_sum, squares_of, root_sum, root_of}
use Rattle.rules.specs.InFull.{Rating}
use Rattle.rules.specs.declared.Refusal.TheVariants.{NoCodelist, Divisor}
use Rattle.rules.specs.Sets.{apart, is_single, only}
use Rattle.rules.specs.Table.{factor_row, add_row, addc_row, mulc_row, mul_row, pow_row, inv_row, line_of}
use Rattle.rules.specs.Run as Run
use Rattle.rules.specs.Run.{row_of, inverts_zero, run_ops, factor_lines, bent_in, lines_of}
use Rattle.rules.specs.Rate.{last, limits_of, refused, first_bad, rate_ranges, rate_of}
use Rattle.rules.specs.Figures.{◌to◌, slopes, limits}
use Rattle.range.specs.Limit.{zero_range}
use Rattle.liveness.specs.InFull.{Outcome, Written, Refused}
use Rattle.liveness.specs.declared.Refusal.TheVariants.{Load, Short}
use Rattle.liveness.specs.Used.{used_by, used}
use Rattle.liveness.specs.Tidied as Tidied
use Rattle.liveness.specs.Tidied.{picked, position, tidy_ops, tidied}
use Rattle.liveness.specs.Tidy.{tidy_of, buffer_of}

-- A sheet, numbers and a buffer; what rating gives of the sheet and of the tidied one; what the call gives and leaves in the buffer
pub record Figure : Type 0 where
  pub sheet : Codelist
  pub numbers : List ℤ
  pub buffer : List ℕ
  pub rates : Rating
  pub rates-tidied : Rating
  pub gives : Outcome
  pub leaves : List ℕ

abbrev pub sheet_of : Year → ℕ → List Op → Codelist
sheet_of y n os = codelist_of y n (map (λ o. record { op = o }) os)

-- a buffer of so many bytes
abbrev pub bytes : ℕ → List ℕ
bytes k = replicate k 7

-- `factors→1`, `inv→1`, `pow→1→2`, and the text without its dead line: a dropped line was the one refused
abbrev pub dead-divisor : Codelist
dead-divisor = sheet_of Y2016 1 (Inv 1 ∷ Pow 1 2 ∷ [])

abbrev pub without-divisor : List ℕ
without-divisor =
    (102 ∷ 97 ∷ 99 ∷ 116 ∷ 111 ∷ 114 ∷ 115 ∷ 9 ∷ 49 ∷ 10 ∷ []) ++ (112 ∷ 111 ∷ 119 ∷ 9 ∷ 49 ∷ 9 ∷ 50 ∷ 10 ∷ [])

-- the same with `factors→1→2014`: the year is named
abbrev pub dead-divisor-2014 : Codelist
dead-divisor-2014 = sheet_of Y2014 1 (Inv 1 ∷ Pow 1 2 ∷ [])

abbrev pub without-divisor-2014 : List ℕ
without-divisor-2014 =
    (102 ∷ 97 ∷ 99 ∷ 116 ∷ 111 ∷ 114 ∷ 115 ∷ 9 ∷ 49 ∷ 9 ∷ 50 ∷ 48 ∷ 49 ∷ 52 ∷ 10 ∷ []) ++ (112 ∷ 111 ∷ 119 ∷ 9 ∷ 49 ∷ 9 ∷ 50 ∷ 10 ∷ [])

-- `factors→2`, `inv→2`, `pow→1→2`, `mulc→4→5000` becomes `factors→2`, `pow→1→2`, `mulc→3→5000`, of 30 bytes: an unused factor is kept
abbrev pub dead-line : Codelist
dead-line = sheet_of Y2016 2 (Inv 2 ∷ Pow 1 2 ∷ MulC 4 (pos 5000) ∷ [])

abbrev pub without-line : List ℕ
without-line =
    (102 ∷ 97 ∷ 99 ∷ 116 ∷ 111 ∷ 114 ∷ 115 ∷ 9 ∷ 50 ∷ 10 ∷ [])
    ++ ((112 ∷ 111 ∷ 119 ∷ 9 ∷ 49 ∷ 9 ∷ 50 ∷ 10 ∷ [])
    ++ ((109 ∷ 117 ∷ 108 ∷ 99 ∷ 9 ∷ 51 ∷ 9 ∷ 53 ∷ 48 ∷ 48 ∷ 48 ∷ 10 ∷ [])))

-- `factors→1`, `mulc→1→0`, `pow→1→2`
abbrev pub dead-zero : Codelist
dead-zero = sheet_of Y2016 1 (MulC 1 (pos 0) ∷ Pow 1 2 ∷ [])

-- V 0..5000, G 0..10000, E 10000..10000
abbrev pub half-square : Rating
half-square = limits (0 to 5000) (slopes (0 to 10000) zero_range) 1 1 (10000 to 10000) (0 to 10000)

abbrev pub two-boxes : List ℤ
two-boxes = pos 0 ∷ pos 10000 ∷ pos 10000 ∷ pos 20000 ∷ []

abbrev pub figures : List Figure
figures =
    -- on 0..10000: 11 at line 2; tidied V 0..10000, G 0..20000, E 20000..20000
    record {
      sheet = dead-divisor;
      numbers = pos 0 ∷ pos 10000 ∷ [];
      buffer = bytes 18;
      rates = refused (Divisor 2);
      rates-tidied = limits (0 to 10000) (slopes (0 to 20000) zero_range) 1 1 (20000 to 20000) (20000 to 20000);
      gives = Written 18;
      leaves = without-divisor;
    }
    -- 02, request 9: five bytes more
    ∷ record {
      sheet = dead-divisor-2014;
      numbers = pos 0 ∷ pos 10000 ∷ [];
      buffer = bytes 23;
      rates = refused (Divisor 2);
      rates-tidied = limits (0 to 10000) (slopes (0 to 20000) zero_range) 1 1 (20000 to 20000) (20000 to 20000);
      gives = Written 23;
      leaves = without-divisor-2014;
    }
    -- 29 bytes are too few
    ∷ record {
      sheet = dead-line;
      numbers = two-boxes;
      buffer = bytes 29;
      rates = half-square;
      rates-tidied = half-square;
      gives = Refused Short;
      leaves = bytes 29;
    }
    ∷ record {
      sheet = dead-line;
      numbers = two-boxes;
      buffer = bytes 30;
      rates = half-square;
      rates-tidied = half-square;
      gives = Written 30;
      leaves = without-line;
    }
    -- of 32 the last two stay
    ∷ record {
      sheet = dead-line;
      numbers = two-boxes;
      buffer = bytes 32;
      rates = half-square;
      rates-tidied = half-square;
      gives = Written 30;
      leaves = without-line ++ bytes 2;
    }
    -- 02, request 5: 15 at text line 2 for a `mulc` by 0, though the line is dead, and no byte is touched
    ∷ record {
      sheet = dead-zero;
      numbers = pos 0 ∷ pos 10000 ∷ [];
      buffer = bytes 18;
      rates = refused NoCodelist;
      rates-tidied = limits (0 to 10000) (slopes (0 to 20000) zero_range) 1 1 (20000 to 20000) (20000 to 20000);
      gives = Refused (Load (ZeroMultiplier 2));
      leaves = bytes 18;
    }
    ∷ []

-- the same, computed
abbrev pub computed : Figure → Figure
computed f = record {
  sheet = f.sheet;
  numbers = f.numbers;
  buffer = f.buffer;
  rates = rate_of f.sheet f.numbers;
  rates-tidied = rate_of (tidied f.sheet) f.numbers;
  gives = tidy_of (text_of f.sheet) (length f.buffer);
  leaves = buffer_of (text_of f.sheet) f.buffer;
}

pub figures-right : map computed figures ≡ figures
unfolding rate_of rate_ranges first_bad limits_of last lines_of bent_in run_ops factor_lines row_of inverts_zero Run.within line_of
    factor_row add_row addc_row mulc_row mul_row pow_row inv_row apart is_single only
    ratable well_formed_ops
    is_valid both_valid kept sum_of neg_of times_of ends_product product_of ends_inverse inverse_of hull_of
    chain ups_within pow_above pow_below pow_across_even pow_across_odd pow_across pow_by_sign pow_of
    has sum_over sum_below valid_below ends_products products_of largest_square square_sum squares_of root_sum root_of
    floor_div ceil_div floor_quot ceil_quot ceil_sqrt floor_sqrt root_bits ones ones_in count_trailing_zeros
    tidy_of buffer_of load_of operation_lines checked_of value_of codelist_of empty is_between refers_back exponent_fits constant_fits multiplier_fits
    peek rest digit digits positive numeral field literal named keyword pair operands operation_line first_fields first_line year_of
    decimal numeral_text numeral_of text_with text_of
    used_by used Tidied.kept picked position tidy_ops tidied
figures-right = refl
