-- 01's two tables of refusals, row by row: number, condition and place. `RefusedFor` of codelist and of rules say each condition whole, those that
-- are checked before it included.
use Rattle.std.specs.Prelude.{◌≡◌, List, ◌⊎◌, ℕ, ℤ}
use Rattle.codelist.specs.declared.Codelist.{Codelist}
use Rattle.codelist.specs.declared.Refusal.TheVariants.{TooLong, Malformed, FactorCount, UnknownYear, TooManyLines, NoOperation, Reference}
use Rattle.codelist.specs.declared.Refusal.TheVariants.{Exponent, Constant, ZeroMultiplier}
use Rattle.codelist.specs.Refused as Load
use Rattle.rules.specs.declared.Refusal.TheVariants.{NoCodelist, RangeCount, BadRange, Divisor, Overflow}
use Rattle.rules.specs.Refused as Rate
use Rattle.formulas.specs.Grammar.{Tree}
use Rattle.formulas.specs.Viable.{Fails}
use Rattle.formulas.specs.Convert.{Mixes, Bare}
use Rattle.formulas.specs.Exactly.{Spells, Becomes}
use Rattle.engine.specs.declared.Refusal.{Refusal}
use Rattle.engine.specs.InFull.{Outcome, Refused}
use Rattle.engine.specs.Engine.{number_of, place_of}

-- refused with the number k at the place p
pub record RefusedWith (o : Outcome) (k p : ℕ) : Type 0 where
  pub refusal : Refusal
  pub refused : o ≡ Refused refusal
  pub number : number_of refusal ≡ k
  pub place : place_of refusal ≡ p

-- "Refusals that come from the input", of loading the text s: the number and the place
pub data LoadTable (s : List ℕ) : ℕ → ℕ → Type 0 where
  -- 1 | sheet over 4,096 bytes | 0
  bytes : Load.RefusedFor s TooLong → LoadTable s 1 0
  -- 2 | a text line not of the form above, its final byte 10 missing, or no first line | text line, from 1
  form : {line : ℕ} → Load.RefusedFor s (Malformed line) → LoadTable s 2 line
  -- 3 | n not 1 to 8 | 1
  factors : Load.RefusedFor s FactorCount → LoadTable s 3 1
  -- 17 | a year that is another numeral than 2016 and 2014 | 1 (02, request 9)
  year : Load.RefusedFor s UnknownYear → LoadTable s 17 1
  -- 4 | a codelist line beyond the 64th, or no operation line | its text line; 1 if none
  lines : {line : ℕ} → Load.RefusedFor s (TooManyLines line) → LoadTable s 4 line
  no-operation : Load.RefusedFor s NoOperation → LoadTable s 4 1
  -- 5 | a reference that is not an earlier line | text line
  reference : {line : ℕ} → Load.RefusedFor s (Reference line) → LoadTable s 5 line
  -- 6 | exponent not 2 to 8 | text line
  exponent : {line : ℕ} → Load.RefusedFor s (Exponent line) → LoadTable s 6 line
  -- 7 | constant beyond the limit | text line
  constant : {line : ℕ} → Load.RefusedFor s (Constant line) → LoadTable s 7 line
  -- 15 | `mulc` with the constant 0 | text line (02, request 5)
  multiplier : {line : ℕ} → Load.RefusedFor s (ZeroMultiplier line) → LoadTable s 15 line

-- Loading a formula's text s with the factor count k (02, request 12): 19, then 20, then the table above, of the sheet that the text becomes
pub data FormulaTable (s : List ℕ) (k : ℕ) : ℕ → ℕ → Type 0 where
  -- 19 | text outside the rules | the first byte that can't follow, from 1
  text : {place : ℕ} → Fails s place → FormulaTable s k 19 place
  -- 20 | two constants meeting, a constant divisor, a powered constant, or no operation | 0
  constants : {t : Tree} → Spells t s → Mixes t ⊎ Bare t → FormulaTable s k 20 0
  sheet : {x : List ℕ} {number place : ℕ} → Becomes s k x → LoadTable x number place → FormulaTable s k number place

-- The two rows of that table on ranges, and "Refusals that come from the state", of rating the numbers xs against the codelist c
pub data RateTable (c : Codelist) (xs : List ℤ) : ℕ → ℕ → Type 0 where
  -- 8 | ranges: not exactly two numbers per factor | 0
  count : Rate.RefusedFor c xs RangeCount → RateTable c xs 8 0
  -- 9 | a low end above its high end, or an end beyond the limit | factor
  range : {factor : ℕ} → Rate.RefusedFor c xs (BadRange factor) → RateTable c xs 9 factor
  -- 10 | no sheet on the desk | 0
  no-codelist : Rate.RefusedFor c xs NoCodelist → RateTable c xs 10 0
  -- 11 | the range to be inverted has low ≤ 0 ≤ high | codelist line
  divisor : {line : ℕ} → Rate.RefusedFor c xs (Divisor line) → RateTable c xs 11 line
  -- 12 | an end of a range produced by a step below passes the limit | codelist line
  overflow : {line : ℕ} → Rate.RefusedFor c xs (Overflow line) → RateTable c xs 12 line
