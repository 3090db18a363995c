-- The run over a codelist's lines, with refusals 11 and 12. 01, "Sets and bends" and "Rating: .. then codelist lines in order, 11 before 12".
use Rattle.std.specs.Prelude.{Bool, true, false, ◌&&◌, cond, List, [], ◌∷◌, ◌++◌, ℕ, suc, ◌-◌, get_or, length, take}
use Rattle.codelist.specs.declared.Op.{Op}
use Rattle.codelist.specs.declared.Op.TheVariants.{Add, Mul, AddC, MulC, Pow, Inv}
use Rattle.codelist.specs.declared.Entry.{Entry}
use Rattle.codelist.specs.declared.Codelist.{Codelist}
use Rattle.codelist.specs.declared.Year.{Year}
use Rattle.codelist.specs.declared.Year.TheVariants.{Y2016, Y2014}
use Rattle.range.specs.declared.Range.{Range}
use Rattle.range.specs.Limit.{zero_range, is_valid}
use Rattle.range.specs.Arithmetic.{holds_zero}
use Rattle.rules.specs.declared.Line.{Line}
use Rattle.rules.specs.declared.Refusal.{Refusal}
use Rattle.rules.specs.declared.Refusal.TheVariants.{Divisor, Overflow}
use Rattle.rules.specs.Sets.{none, all_of}
use Rattle.rules.specs.Table.{Row, factor_row, add_row, addc_row, mulc_row, mul_row, pow_row, inv_row, eight, line_of}

-- ════ a line ════

-- what a reference to no line gives: no ratable codelist has one
unfoldable pub no_line : Line
no_line = record { value = zero_range; gradient = eight (λ a. zero_range); support = none; nonlinear = none; spectrum = zero_range }

-- codelist line i, counted from 1
abbrev pub line : List Line → ℕ → Line
line ls i = get_or ls (i - 1) no_line

-- the row of an operation, over the lines before it
unfoldable pub row_of : Op → List Line → Row
row_of (Add i j) ls = add_row (line ls i) (line ls j)
row_of (Mul i j) ls = mul_row (line ls i) (line ls j)
row_of (AddC i c) ls = addc_row (line ls i) c
row_of (MulC i c) ls = mulc_row (line ls i) c
row_of (Pow i m) ls = pow_row (line ls i) m
row_of (Inv i) ls = inv_row (line ls i)

-- 11: "the range to be inverted has low ≤ 0 ≤ high"
unfoldable pub inverts_zero : Op → List Line → Bool
inverts_zero (Inv i) ls = holds_zero (line ls i).value
inverts_zero (Add i j) ls = false
inverts_zero (Mul i j) ls = false
inverts_zero (AddC i c) ls = false
inverts_zero (MulC i c) ls = false
inverts_zero (Pow i m) ls = false

-- no range of the line is `over`: 12 is given exactly where this fails, which `Overflow` pins to the steps of the row
abbrev pub each_valid : List Range → Bool
each_valid [] = true
each_valid (r ∷ rs) = is_valid r && each_valid rs

unfoldable pub within : Line → Bool
within l = is_valid l.value && (each_valid l.gradient && is_valid l.spectrum)

-- ════ the run ════

-- all lines, or a refusal
pub data Lines : Type 0 where
  through : List Line → Lines
  stopped : Refusal → Lines

-- the lines that are there, and the operations to come: "codelist lines in order, 11 before 12"
unfoldable pub run_ops : List Entry → List Line → Lines
run_ops [] ls = through ls
run_ops (o ∷ os) ls =
    let k = suc (length ls) in
    let l = line_of (row_of o.op ls) in
    cond (inverts_zero o.op ls) (stopped (Divisor k)) (cond (within l) (run_ops os (ls ++ (l ∷ []))) (stopped (Overflow k)))

-- the factors' lines, with the bent set f: i is the first one's factor, counted from 0
unfoldable pub factor_lines : ℕ → ℕ → List Range → List Line
factor_lines f i [] = []
factor_lines f i (r ∷ rs) = line_of (factor_row f i r) ∷ factor_lines f (suc i) rs

-- The factors that every line of a codelist is bent in, whatever its row: none of its n factors, or, in 2014, all ("every line's bent set all
-- factors"; 02, request 9). A factor's line has them, and every row hands them on (`YearSets` of Years), so that the year enters here alone.
unfoldable pub bent_in : Year → ℕ → ℕ
bent_in Y2016 n = none
bent_in Y2014 n = all_of n

abbrev pub always_bent : Codelist → ℕ
always_bent c = bent_in c.year c.factors

abbrev pub operations : Codelist → List Entry
operations c = take c.count c.ops

unfoldable pub lines_of : Codelist → List Range → Lines
lines_of c rs = run_ops (operations c) (factor_lines (always_bent c) 0 rs)
