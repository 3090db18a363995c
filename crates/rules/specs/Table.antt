-- 01, "Sets and bends": lift, join, Sq and Cross, and the table, row by row, as formulas over the lines that a row refers to; and 02, request
-- 4: cases 4, 7 and 10 of Table 6 in 000.
use Rattle.std.specs.Prelude.{Bool, not, ◌&&◌, cond, List, [], ◌∷◌, ℕ, ◌-◌, eqb, ℤ}
use Rattle.range.specs.declared.Range.{Range}
use Rattle.range.specs.Limit.{from_to, zero_range, one_range}
use Rattle.range.specs.Sums.{at}
use Rattle.rules.specs.declared.Line.{Line}
use Rattle.rules.specs.Formula.{Formula, given, ◌⊕◌, ◌⊗◌, negated, times, power, inverse, hull, choose, sticky}
use Rattle.rules.specs.Formula.{sum_of_products, sum_of_squares, root_of_squares, star}
use Rattle.rules.specs.Sets.{none, single, ◌∪◌, apart, is_single, only}

-- ════ spectra ════

abbrev zero : Formula
zero = given zero_range

-- 01's lift of E from B to a larger set: "E if the sets are equal, else the hull of E and zero".
abbrev pub extended : Formula → ℕ → ℕ → Formula
extended e b c = choose (eqb b c) e (hull e zero)

-- 01's join of two bends: "hull if both sets are nonempty and share no factor; else both lifted to the union and summed".
abbrev pub spectrum_of_sum : Formula → ℕ → Formula → ℕ → Formula
spectrum_of_sum e b f c = choose (apart b c) (hull e f) (extended e b (b ∪ c) ⊕ extended f c (b ∪ c))

-- 01's Sq (Λs of the sources): "the second power if the number of factors in the set is 1; else from 0 to the sum of the largest squares", since
-- 02, request 2, their "exact sum .., divided by 10,000 and rounded up a single time" (`ends_squares` of range's Sums).
abbrev pub square_spectrum : ℕ → List Range → Formula
square_spectrum s g = choose (is_single s) (power (given (at g (only s))) 2) (sum_of_squares s g)

-- 01's Cross (Λt): "twice the product if the set has one factor; else the sum of the products plus [−β, β]" (β: `ends_root` of range's Sums).
abbrev pub cross_spectrum : ℕ → List Range → List Range → Formula
cross_spectrum s g h =
    choose (is_single s) (times 2 (given (at g (only s)) ⊗ given (at h (only s)))) (sum_of_products s g h ⊕ root_of_squares s g h)

-- ════ the table ════

-- A row: the formulas of V, of the slope of each factor and of E, and the sets P and B.
pub record Row : Type 0 where
  pub value : Formula
  pub slope : ℕ → Formula
  pub support : ℕ
  pub nonlinear : ℕ
  pub spectrum : Formula

-- a line's V, G and E, as they stand in a row's formulas
abbrev value_of : Line → Formula
value_of x = given x.value

abbrev slope_of : Line → ℕ → Formula
slope_of x a = given (at x.gradient a)

abbrev spectrum_of : Line → Formula
spectrum_of x = given x.spectrum

-- a number of units, as a range
abbrev constant : ℤ → Formula
constant c = given (from_to c c)

-- What the bend of a `mul`, `pow` or `inv` is over, of each line that it refers to. 01 has P_i there ("both P_i"). In 2016 a line's B is part of its P,
-- so that this is P_i (`YearSets` of Years); in 2014 every line's B is all factors (02, request 9), and so is this: one table serves both years.
abbrev pub reach : Line → ℕ
reach x = x.support ∪ x.nonlinear

-- factor i, counted from 0: "its range | one at i, else zero | {i}, empty | zero", with the bent set f in place of the empty one ("with every line's
-- bent set all factors")
unfoldable pub factor_row : ℕ → ℕ → Range → Row
factor_row f i r = record {
  value = given r;
  slope = λ a. given (cond (eqb a i) one_range zero_range);
  support = single i;
  nonlinear = f;
  spectrum = zero;
}

-- add: "V_i + V_j | G_i + G_j | unions | join"
unfoldable pub add_row : Line → Line → Row
add_row x y = record {
  value = value_of x ⊕ value_of y;
  slope = λ a. slope_of x a ⊕ slope_of y a;
  support = x.support ∪ y.support;
  nonlinear = x.nonlinear ∪ y.nonlinear;
  spectrum = spectrum_of_sum (spectrum_of x) x.nonlinear (spectrum_of y) y.nonlinear;
}

-- addc: "V_i + c | G_i | kept | E_i"
unfoldable pub addc_row : Line → ℤ → Row
addc_row x c = record {
  value = value_of x ⊕ constant c;
  slope = slope_of x;
  support = x.support;
  nonlinear = x.nonlinear;
  spectrum = spectrum_of x;
}

-- mulc: "c·V_i | c·G_i | kept | c·E_i". c is in units, so these are products, rounded outward, and not the exact whole-number multiples that
-- m, m−1 and 2 stand for below.
unfoldable pub mulc_row : Line → ℤ → Row
mulc_row x c = record {
  value = constant c ⊗ value_of x;
  slope = λ a. constant c ⊗ slope_of x a;
  support = x.support;
  nonlinear = x.nonlinear;
  spectrum = constant c ⊗ spectrum_of x;
}

-- 01's E of a `mul`: "Cross + lift of join(V_j·E_i, V_i·E_j)"
abbrev pub product_spectrum : Line → Line → Formula
product_spectrum x y =
    let s = reach x ∪ reach y in
    let join = spectrum_of_sum (value_of y ⊗ spectrum_of x) x.nonlinear (value_of x ⊗ spectrum_of y) y.nonlinear in
    cross_spectrum s x.gradient y.gradient ⊕ extended join (x.nonlinear ∪ y.nonlinear) s

-- 02, request 4: "`mul` of lines whose depends-on sets are one factor each, different, at least one bent"; by `reach` and B of the two, so that no two
-- lines of 2014 are such ("request 4 unused")
abbrev pub are_singles : ℕ → ℕ → ℕ → ℕ → Bool
are_singles p q b c = is_single p && (is_single q && (apart p q && not (eqb (b ∪ c) none)))

abbrev pub singles : Line → Line → Bool
singles x y = are_singles (reach x) (reach y) x.nonlinear y.nonlinear

-- "With A = V_j·E_i, B = V_i·E_j and C the product of the two slopes"; where a line is not bent its E is zero: cases 4 and 7
abbrev pub star_spectrum : Line → Line → Formula
star_spectrum x y =
    star (value_of y ⊗ spectrum_of x) (value_of x ⊗ spectrum_of y) (slope_of x (only (reach x)) ⊗ slope_of y (only (reach y)))

-- mul: "V_i·V_j | V_i·G_j + V_j·G_i | both: union of P", and E by the lines' sets
unfoldable pub mul_row : Line → Line → Row
mul_row x y = record {
  value = value_of x ⊗ value_of y;
  slope = λ a. value_of x ⊗ slope_of y a ⊕ value_of y ⊗ slope_of x a;
  support = x.support ∪ y.support;
  nonlinear = reach x ∪ reach y;
  spectrum = choose (singles x y) (star_spectrum x y) (product_spectrum x y);
}

-- pow: "V_i^m | m(V_i^(m−1)·G_i) | both P_i | m(V_i^(m−2)·((m−1)·Sq + V_i·lift E_i))"
unfoldable pub pow_row : Line → ℕ → Row
pow_row x m =
    let s = reach x in
    let lift = extended (spectrum_of x) x.nonlinear s in
    record {
      value = power (value_of x) m;
      slope = λ a. times m (power (value_of x) (m - 1) ⊗ slope_of x a);
      support = x.support;
      nonlinear = s;
      spectrum = times m (power (value_of x) (m - 2) ⊗ (times (m - 1) (square_spectrum s x.gradient) ⊕ value_of x ⊗ lift));
    }

-- inv: "inverse of V_i | −(V_k²·G_i) | both P_i | V_k²·(2(V_k·Sq) − lift E_i)". "V_k is the line's own V, and V_k² its second power."
unfoldable pub inv_row : Line → Row
inv_row x =
    let s = reach x in
    let v = inverse (value_of x) in
    let lift = extended (spectrum_of x) x.nonlinear s in
    record {
      value = v;
      slope = λ a. negated (power v 2 ⊗ slope_of x a);
      support = x.support;
      nonlinear = s;
      spectrum = power v 2 ⊗ (times 2 (v ⊗ square_spectrum s x.gradient) ⊕ negated lift);
    }

-- ════ lines ════

-- "The slopes are eight pairs, and a pair beyond the last factor is 0, 0": so the rows come out there (`Shaped` of Promises).
abbrev pub eight : {A : Type 0} → (ℕ → A) → List A
eight g = g 0 ∷ g 1 ∷ g 2 ∷ g 3 ∷ g 4 ∷ g 5 ∷ g 6 ∷ g 7 ∷ []

-- the line of a row, as the engine works it out
unfoldable pub line_of : Row → Line
line_of r = record {
  value = sticky r.value;
  gradient = eight (λ a. sticky (r.slope a));
  support = r.support;
  nonlinear = r.nonlinear;
  spectrum = sticky r.spectrum;
}
