-- The published arithmetic under 01's rules and outward rounding, worked out without a limit and without `over`: what the buyer's second demand
-- holds a rating to ("Every bound, set and refusal equals what the published Hessian eigenvalue arithmetic yields under 01's rules and
-- outward rounding"). Proved in proofs/Published.antt: `published`.
use Rattle.std.specs.Prelude.{◌≡◌, cond, List, [], ◌∷◌, ◌++◌, ℕ, zero, suc, ◌+◌, ◌*◌, ◌<◌, eqb, ℤ, get_or, length, take}
use Rattle.codelist.specs.declared.Entry.{Entry}
use Rattle.codelist.specs.declared.Codelist.{Codelist}
use Rattle.codelist.specs.declared.Op.{Op}
use Rattle.codelist.specs.declared.Year.{Year}
use Rattle.codelist.specs.declared.Year.TheVariants.{Y2016, Y2014}
use Rattle.codelist.specs.Codelist.{blank, ratable}
use Rattle.range.specs.declared.Range.{Range}
use Rattle.range.specs.Sums.{at}
use Rattle.rules.specs.declared.Line.{Line}
use Rattle.rules.specs.declared.Refusal.TheVariants.{NoCodelist, RangeCount, BadRange, Divisor, Overflow}
use Rattle.rules.specs.declared.Limits.{Limits}
use Rattle.rules.specs.InFull.{Rating}
use Rattle.rules.specs.Formula.{given, unlimited}
use Rattle.rules.specs.Sets.{all_of}
use Rattle.rules.specs.Table.{Row, factor_row, extended, eight}
use Rattle.rules.specs.Run.{line, row_of, inverts_zero, Lines, through, stopped, always_bent, operations}
use Rattle.rules.specs.Rate.{last, rated, refused, pairs, first_bad, rate_of}
use Rattle.rules.specs.Overflow.{all_within, steps_of}
use Rattle.rules.specs.TableTwo.{row_in_2014}

-- ════ the lines ════

-- A row's line: its value, eight slopes and spectrum as the formulas give them, and its sets.
unfoldable pub published_line : Row → Line
published_line r = record {
  value = unlimited r.value;
  gradient = eight (λ a. unlimited (r.slope a));
  support = r.support;
  nonlinear = r.nonlinear;
  spectrum = unlimited r.spectrum;
}

-- the factors' lines, with the bent set f: i is the first one's factor, counted from 0
unfoldable pub published_factors : ℕ → ℕ → List Range → List Line
published_factors f i [] = []
published_factors f i (r ∷ rs) = published_line (factor_row f i r) ∷ published_factors f (suc i) rs

-- The row of an operation, in a codelist of n factors: 01's, and in 2014 that of 001's Table 2.
unfoldable pub published_row : Year → ℕ → Op → List Line → Row
published_row Y2016 n o ls = row_of o ls
published_row Y2014 n o ls = row_in_2014 n o ls

-- Each operation over the lines before it, "codelist lines in order, 11 before 12": 12 where "an end of a range produced by a step below passes
-- the limit". The rows are given.
unfoldable pub published_ops : (Op → List Line → Row) → List Entry → List Line → Lines
published_ops row [] ls = through ls
published_ops row (o ∷ os) ls =
    let k = suc (length ls) in
    let r = row o.op ls in
    cond (inverts_zero o.op ls) (stopped (Divisor k))
    (cond (all_within (steps_of r)) (published_ops row os (ls ++ (published_line r ∷ []))) (stopped (Overflow k)))

-- ════ the rating ════

-- "The result is that of the last line"; "The full bend is E lifted to all factors", of which there are n.
unfoldable pub published_limits : ℕ → Line → Limits
published_limits n l = record {
  value = l.value;
  gradient = l.gradient;
  support = l.support;
  nonlinear = l.nonlinear;
  spectrum = l.spectrum;
  full = unlimited (extended (given l.spectrum) l.nonlinear (all_of n));
}

abbrev pub published_result : ℕ → Lines → Rating
published_result n (through ls) = rated (published_limits n (last ls))
published_result n (stopped r) = refused r

-- by the lowest factor with a bad range, 0 if there is none
unfoldable pub published_ranges : Codelist → List Range → ℕ → Rating
published_ranges c rs zero =
    published_result c.factors (published_ops (published_row c.year c.factors) (operations c) (published_factors (always_bent c) 0 rs))
published_ranges c rs (suc a) = refused (BadRange (suc a))

-- "Rating: 10, 8, 9 (lowest factor), then codelist lines in order"
unfoldable pub published_of : Codelist → List ℤ → Rating
published_of c xs =
    cond (ratable c)
    (cond (eqb (length xs) (2 * c.factors)) (published_ranges c (pairs xs) (first_bad 1 (pairs xs))) (refused RangeCount))
    (refused NoCodelist)

-- ════ WHAT IS PROMISED ════

-- Of accepted ranges, line by line: there is a line for each codelist line, and each is that of its row over the lines before it.
pub record PublishedLines (c : Codelist) (xs : List ℤ) (l : Limits) : Type 0 where
  pub lines : List Line
  pub count : length lines ≡ c.factors + c.count
  pub factor : (a : ℕ) → a < c.factors → line lines (suc a) ≡ published_line (factor_row (always_bent c) a (at (pairs xs) a))
  pub operation : (k : ℕ) → k < c.count
      → line lines (suc (c.factors + k)) ≡ published_line (published_row c.year c.factors (get_or (operations c) k blank).op (take (c.factors + k) lines))
  pub result : l ≡ published_limits c.factors (last lines)

pub record Published : Type 0 where
  -- "Every bound, set and refusal", whatever the codelist and the numbers
  pub rating : (c : Codelist) (xs : List ℤ) → rate_of c xs ≡ published_of c xs
  pub lines : (c : Codelist) (xs : List ℤ) (l : Limits) → rate_of c xs ≡ rated l → PublishedLines c xs l
