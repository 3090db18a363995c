-- 02, request 9: 2014 "means source document 001, Table 2, with every line's bent set all factors, join as a plain sum and request 4 unused". The rules
-- of Table 2 for λ, row by row, over n factors: no set stands in them. That 01's own rows come to the same where every bent set is all factors is
-- stated here, and proved in proofs/TableTwo.antt.
use Rattle.std.specs.Prelude.{◌≡◌, List, ℕ, ◌^◌, ◌-◌, ◌≤◌, ◌<◌, eqb, length}
use Rattle.codelist.specs.declared.Op.{Op}
use Rattle.codelist.specs.declared.Op.TheVariants.{Add, Mul, AddC, MulC, Pow, Inv}
use Rattle.codelist.specs.Codelist.{WellFormedOp}
use Rattle.range.specs.declared.Range.{Range}
use Rattle.range.specs.Limit.{from_to}
use Rattle.range.specs.Sums.{at}
use Rattle.rules.specs.declared.Line.{Line}
use Rattle.rules.specs.Formula.{Formula, given, ◌⊕◌, ◌⊗◌, negated, times, power, inverse, choose, sticky, unlimited, produced}
use Rattle.rules.specs.Formula.{sum_of_products, sum_of_squares, root_of_squares}
use Rattle.rules.specs.Sets.{all_of}
use Rattle.rules.specs.Table.{Row}
use Rattle.rules.specs.Run.{line, row_of}
use Rattle.rules.specs.Overflow.{AllLines}

-- ════ 001, Table 2 ════

-- (23): "[0, Σ max(a_i²)] if n > 1, [a]² if n = 1", rounded as 02's request 2 has it
abbrev pub Λs : ℕ → List Range → Formula
Λs n a = choose (eqb n 1) (power (given (at a 0)) 2) (sum_of_squares (all_of n) a)

-- (24): "[−β, β] + Σ [a_i][b_i] if n > 1, 2[a][b] if n = 1"
abbrev pub Λt : ℕ → List Range → List Range → Formula
Λt n a b = choose (eqb n 1) (times 2 (given (at a 0) ⊗ given (at b 0))) (sum_of_products (all_of n) a b ⊕ root_of_squares (all_of n) a b)

-- y_i, y'_i and λ_i of a line
abbrev y : List Line → ℕ → Formula
y ls i = given (line ls i).value

abbrev y' : List Line → ℕ → List Range
y' ls i = (line ls i).gradient

abbrev eigen : List Line → ℕ → Formula
eigen ls i = given (line ls i).spectrum

-- λ_k of an operation, over the lines before it. The order in which three terms are summed is 01's, Cross before the join.
unfoldable pub table_two : ℕ → Op → List Line → Formula
-- "add: [λ_i] + [λ_j]"
table_two n (Add i j) ls = eigen ls i ⊕ eigen ls j
-- "mul: [y_j][λ_i] + [y_i][λ_j] + [Λ_t([y'_i], [y'_j])]"
table_two n (Mul i j) ls = Λt n (y' ls i) (y' ls j) ⊕ (y ls j ⊗ eigen ls i ⊕ y ls i ⊗ eigen ls j)
-- "addConst: [λ_i]", "mulByConst: c[λ_i]"
table_two n (AddC i c) ls = eigen ls i
table_two n (MulC i c) ls = given (from_to c c) ⊗ eigen ls i
-- "powNat: m[y_i]^(m−2)((m−1)[Λ_s([y'_i])] + [y_i][λ_i])"
table_two n (Pow i m) ls = times m (power (y ls i) (m - 2) ⊗ (times (m - 1) (Λs n (y' ls i)) ⊕ y ls i ⊗ eigen ls i))
-- "oneOver: [y_k]²(2[y_k][Λ_s([y'_i])] − [λ_i])"
table_two n (Inv i) ls =
    let v = inverse (y ls i) in
    power v 2 ⊗ (times 2 (v ⊗ Λs n (y' ls i)) ⊕ negated (eigen ls i))

-- A row of 2014: V, G and P are 01's ("rounding and depends-on sets are as now"), B is all factors, and E is λ_k.
unfoldable pub row_in_2014 : ℕ → Op → List Line → Row
row_in_2014 n o ls =
    let r = row_of o ls in
    record { value = r.value; slope = r.slope; support = r.support; nonlinear = all_of n; spectrum = table_two n o ls }

-- ════ WHAT IS PROMISED ════

-- a line of 2014, of a codelist with n factors
pub record Bent (n : ℕ) (l : Line) : Type 0 where
  pub support : l.support < 2 ^ n
  pub nonlinear : l.nonlinear ≡ all_of n

-- two formulas with the same value, as the engine works it out and without a limit, and with the same steps: refusal 12 is given by the same ends
pub record Same (x y : Formula) : Type 0 where
  pub sticky : sticky x ≡ sticky y
  pub unlimited : unlimited x ≡ unlimited y
  pub produced : produced x ≡ produced y

-- 01's row over lines of 2014 is Table 2's: its E, step by step, and its B
pub record SameRow (r s : Row) : Type 0 where
  pub spectrum : Same r.spectrum s.spectrum
  pub nonlinear : r.nonlinear ≡ s.nonlinear

abbrev pub TableTwoRows : Type 0
TableTwoRows =
    (n : ℕ) → 1 ≤ n → n ≤ 8 → (ls : List Line) → AllLines (Bent n) ls → (o : Op) → WellFormedOp (length ls) o
    → SameRow (row_of o ls) (row_in_2014 n o ls)
