-- The run's table of lines: twenty numbers a line, the ends of its value, of its spectrum and of its eight slopes; and two sets a line, its
-- support and what it is nonlinear in. Lines are counted from 0.
use Rattle.std.specs.Prelude.{◌≡◌, true, cond, List, [], ◌∷◌, ◌++◌, ◌⊎◌, ℕ, zero, suc, ◌+◌, ◌*◌, ◌≤◌, ◌<◌, ℤ, pos, get_or, set, Option, Some, None}
use Rattle.range.specs.declared.Range.{Range}
use Rattle.range.specs.Limit.{zero_range, is_valid}
use Rattle.range.specs.Sums.{at, pair_at, ranges_from}
use Rattle.rules.specs.declared.Line.{Line}
use Rattle.rules.specs.Sets.{◌∪◌}
use Rattle.rules.specs.Table.{Row, eight, line_of}
use Rattle.rules.specs.Run.{each_valid, within}
use Rattle.bounds.specs.declared.table.Table.{Table}
use Rattle.bounds.specs.declared.table.Head.{Head}
use Rattle.bounds.specs.Terms.{over_members, Fine}

abbrev pub value_at : Table → ℕ → Range
value_at t k = pair_at t.numbers (20 * k)

abbrev pub spectrum_at : Table → ℕ → Range
spectrum_at t k = pair_at t.numbers (20 * k + 2)

-- The slopes of the line k, in the table's numbers; and of the table.
abbrev pub slopes_from : List ℤ → ℕ → List Range
slopes_from ns k = ranges_from ns (20 * k + 4)

abbrev pub gradient_at : Table → ℕ → List Range
gradient_at t k = slopes_from t.numbers k

abbrev pub support_at : Table → ℕ → ℕ
support_at t k = get_or t.sets (2 * k) 0

abbrev pub nonlinear_at : Table → ℕ → ℕ
nonlinear_at t k = get_or t.sets (2 * k + 1) 0

-- What the line k reaches (`reach` of rules' Table): its support, and what it is nonlinear in.
abbrev pub reach_at : Table → ℕ → ℕ
reach_at t k = support_at t k ∪ nonlinear_at t k

-- The line k of the table.
abbrev pub line_at : Table → ℕ → Line
line_at t k = record {
  value = value_at t k;
  gradient = gradient_at t k;
  support = support_at t k;
  nonlinear = nonlinear_at t k;
  spectrum = spectrum_at t k;
}

-- A range, written from the number m on.
abbrev pub put_pair : List ℤ → ℕ → Range → List ℤ
put_pair t m r = set (set t m r.low) (m + 1) r.high

-- The line i may be referred to by the line k, which is to be worked out.
pub record Refers (t : Table) (i k : ℕ) : Type 0 where
  pub earlier : i < k
  pub fine : Fine (line_at t i)

-- The first k lines.
unfoldable pub lines_up_to : Table → ℕ → List Line
lines_up_to t zero = []
lines_up_to t (suc k) = lines_up_to t k ++ (line_at t k ∷ [])

-- No slope of the line k is written: they are zero.
abbrev pub Blank : Table → ℕ → Type 0
Blank t k = gradient_at t k ≡ eight (λ a. zero_range)

-- The lines before the line k may be referred to, and none from there on has a slope that is written.
pub record Ready (t : Table) (k : ℕ) : Type 0 where
  pub fine : (j : ℕ) → j < k → Fine (line_at t j)
  pub blank : (j : ℕ) → k ≤ j → Blank t j

-- The first n lines are these, and may be referred to.
pub record Started (ls : List Line) (n : ℕ) (t : Table) : Type 0 where
  pub ready : Ready t n
  pub lines : lines_up_to t n ≡ ls

-- From the table t to the table u the line k becomes l. No other line has changed.
pub record Placed (l : Line) (t : Table) (k : ℕ) (u : Table) : Type 0 where
  pub line : line_at u k ≡ l
  pub others : (q : ℕ) → ¬ (q ≡ k) → line_at u q ≡ line_at t q

-- The line with this head and these slopes.
abbrev pub line_with : Head → List Range → Line
line_with h g = record { value = h.value; gradient = g; support = h.support; nonlinear = h.nonlinear; spectrum = h.spectrum }

-- Slopes, if all are valid; and those of a line, if all its ranges are.
abbrev pub if_valid : List Range → Option (List Range)
if_valid g = cond (each_valid g) (Some g) None

abbrev pub slopes_of : Line → Option (List Range)
slopes_of l = cond (within l) (Some l.gradient) None

-- What a rule may give, of valid ranges, is what f gives.
abbrev pub Gives : (Range → Range → Range → Type 0) → (Range → Range → Range) → Type 0
Gives post f = (g h r : Range) → is_valid g ≡ true → is_valid h ≡ true → post g h r → r ≡ f g h

-- What a rule f gives of the slopes of the lines i and j, for the factors in the set s.
abbrev pub ruled : (Range → Range → Range) → ℕ → Table → ℕ → ℕ → List Range
ruled f s t i j = over_members s (λ a. f (at (gradient_at t i) a) (at (gradient_at t j) a))

-- From the table t to the table u nothing has changed but slopes of the line k.
pub record Beside (t : Table) (k : ℕ) (u : Table) : Type 0 where
  pub numbers : (m : ℕ) → (m < 20 * k + 4) ⊎ (20 * k + 20 ≤ m) → get_or u.numbers m (pos 0) ≡ get_or t.numbers m (pos 0)
  pub sets : u.sets ≡ t.sets

-- From the table t to the table u the slopes of the line k are written: g, if all are valid, and then they are the answer r.
pub record Filled (g : List Range) (t : Table) (k : ℕ) (r : Option (List Range)) (u : Table) : Type 0 where
  pub answer : r ≡ if_valid g
  pub slopes : each_valid g ≡ true → gradient_at u k ≡ g
  pub beside : Beside t k u

-- From the table t to the table u the line k becomes l, if all its ranges are valid. The answer r is its slopes then. No other line has changed.
pub record SettledLine (l : Line) (t : Table) (k : ℕ) (r : Option (List Range)) (u : Table) : Type 0 where
  pub answer : r ≡ slopes_of l
  pub line : within l ≡ true → line_at u k ≡ l
  pub others : (q : ℕ) → ¬ (q ≡ k) → line_at u q ≡ line_at t q

-- From the table t to the table u the line k is worked out by a row: it is settled, and may be referred to where all its ranges are valid.
pub record Worked (row : Row) (t : Table) (k : ℕ) (r : Option (List Range)) (u : Table) : Type 0 where
  pub settled : SettledLine (line_of row) t k r u
  pub fine : within (line_of row) ≡ true → Fine (line_of row)
