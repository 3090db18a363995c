-- 02, request 9: what the year says of the sets, and what it does not touch. Proved in proofs/Years.antt.
use Rattle.std.specs.Prelude.{◌≡◌, List, ℕ, T, ℤ, length}
use Rattle.codelist.specs.declared.Codelist.{Codelist}
use Rattle.codelist.specs.declared.Year.TheVariants.{Y2016, Y2014}
use Rattle.codelist.specs.Codelist.{Earlier, Ratable}
use Rattle.range.specs.declared.Range.{Range}
use Rattle.range.specs.Sums.{has}
use Rattle.rules.specs.declared.Line.{Line}
use Rattle.rules.specs.declared.Limits.{Limits}
use Rattle.rules.specs.Sets.{all_of}
use Rattle.rules.specs.Table.{reach}
use Rattle.rules.specs.Run.{line, through, operations, lines_of}
use Rattle.rules.specs.Rate.{rated, rate_of}

-- a run that goes through, over a range per factor
pub record Through (c : Codelist) (rs : List Range) (ls : List Line) : Type 0 where
  pub codelist : Ratable c
  pub count : length rs ≡ c.factors
  pub ran : lines_of c rs ≡ through ls

-- ════ the sets ════

pub record YearSets : Type 0 where
  -- "2014 means .. every line's bent set all factors": that of factor lines, `addc` and `mulc` too
  pub all-bent : (c : Codelist) (rs : List Range) (ls : List Line) → c.year ≡ Y2014 → Through c rs ls
      → (i : ℕ) → Earlier (length ls) i → (line ls i).nonlinear ≡ all_of c.factors
  -- "2016, or absent, means the rules so far": a line's B lies within its P, so that what a row has in place of 01's P (`reach` of Table) is P
  pub nested : (c : Codelist) (rs : List Range) (ls : List Line) → c.year ≡ Y2016 → Through c rs ls
      → (i : ℕ) → Earlier (length ls) i → (a : ℕ) → T (has (line ls i).nonlinear a) → T (has (line ls i).support a)
  pub reach-is : (c : Codelist) (rs : List Range) (ls : List Line) → c.year ≡ Y2016 → Through c rs ls
      → (i : ℕ) → Earlier (length ls) i → reach (line ls i) ≡ (line ls i).support

-- 2016: the bent set lies within the depends-on set. 01's rows, which start at {i} and the empty set, make both of unions, and B of P.
pub record Nested (l : Limits) : Type 0 where
  pub into : (a : ℕ) → T (has l.nonlinear a) → T (has l.support a)

abbrev pub NestedRating : Type 0
NestedRating = (c : Codelist) (xs : List ℤ) (l : Limits) → c.year ≡ Y2016 → rate_of c xs ≡ rated l → Nested l

-- 2014: it is all factors, and so "claims nothing beyond its factors"; bend and full bend are then one bound
pub record AllBent (c : Codelist) (l : Limits) : Type 0 where
  pub nonlinear : l.nonlinear ≡ all_of c.factors
  pub full : l.full ≡ l.spectrum

abbrev pub AllBentRating : Type 0
AllBentRating = (c : Codelist) (xs : List ℤ) (l : Limits) → c.year ≡ Y2014 → rate_of c xs ≡ rated l → AllBent c l

-- ════ the rest ════

-- "rounding and depends-on sets are as now": value, slopes and depends-on set are the same
pub record SameBeside (l m : Limits) : Type 0 where
  pub value : l.value ≡ m.value
  pub gradient : l.gradient ≡ m.gradient
  pub support : l.support ≡ m.support

-- of two codelists with the same operations, whatever their years, that are both accepted on the same numbers (so that their factors are as many)
abbrev pub SameElsewhere : Type 0
SameElsewhere =
    (c d : Codelist) (xs : List ℤ) (l m : Limits) → operations c ≡ operations d → rate_of c xs ≡ rated l → rate_of d xs ≡ rated m
    → SameBeside l m
