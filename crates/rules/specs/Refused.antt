-- What each of 01's refusals of rating says of the codelist and the numbers, beside 01's two tables, in the order "10, 8, 9 (lowest factor),
-- then codelist lines in order, 11 before 12". Statements; the proof is in proofs/Refused.antt.
use Rattle.std.specs.Prelude.{◌≡◌, List, ◌∷◌, ◌++◌, ◌⊎◌, ◌↔◌, ℕ, suc, ◌*◌, ◌-◌, ◌≤◌, ◌<◌, ℤ, pos, length, ◌≤ℤ◌, ◌<ℤ◌}
use Rattle.codelist.specs.declared.Op.{Op}
use Rattle.codelist.specs.declared.Op.TheVariants.{Inv}
use Rattle.codelist.specs.declared.Entry.{Entry}
use Rattle.codelist.specs.declared.Codelist.{Codelist}
use Rattle.codelist.specs.Codelist.{Ratable}
use Rattle.range.specs.declared.Range.{Range}
use Rattle.range.specs.Sums.{at}
use Rattle.rules.specs.declared.Line.{Line}
use Rattle.rules.specs.declared.Refusal.{Refusal}
use Rattle.rules.specs.declared.Refusal.TheVariants.{NoCodelist, RangeCount, BadRange, Divisor, Overflow}
use Rattle.rules.specs.declared.Limits.{Limits}
use Rattle.rules.specs.Run.{line, row_of, through, run_ops, factor_lines, always_bent, operations}
use Rattle.rules.specs.Rate.{rated, refused, pairs, rate_of}
use Rattle.rules.specs.Overflow.{EndBeyond, Passing, steps_of}

-- ════ 9: the factors' ranges ════

-- the range of factor a, counted from 1
abbrev pub range_of : List ℤ → ℕ → Range
range_of xs a = at (pairs xs) (a - 1)

-- 9: "a low end above its high end, or an end beyond the limit"
abbrev pub Bad : Range → Type 0
Bad r = (r.high <ℤ r.low) ⊎ EndBeyond r

-- 10 and 8 do not apply, and a is the lowest factor with a bad range.
pub record LowestBad (c : Codelist) (xs : List ℤ) (a : ℕ) : Type 0 where
  pub codelist : Ratable c
  pub count : length xs ≡ 2 * c.factors
  pub factor : (1 ≤ a) × (a ≤ c.factors)
  pub bad : Bad (range_of xs a)
  pub lower : (b : ℕ) → 1 ≤ b → b < a → ¬ (Bad (range_of xs b))

-- 10, 8 and 9 do not apply: the lines are run.
pub record Runnable (c : Codelist) (xs : List ℤ) : Type 0 where
  pub codelist : Ratable c
  pub count : length xs ≡ 2 * c.factors
  pub good : (a : ℕ) → 1 ≤ a → a ≤ c.factors → ¬ (Bad (range_of xs a))

-- ════ 11 and 12: the codelist lines in order ════

-- Where a run stops: the operations before run through, refused with neither, to `lines`; and the next one is stopped over these.
pub record StoppedAt (P : Op → List Line → Type 0) (os : List Entry) (ls : List Line) : Type 0 where
  pub before : List Entry
  pub entry : Entry
  pub after : List Entry
  pub lines : List Line
  pub split : os ≡ before ++ (entry ∷ after)
  pub runs : run_ops before ls ≡ through lines
  pub stops : P entry.op lines

-- "the range to be inverted has low ≤ 0 ≤ high": the operation is an `inv`, and the line that it refers to has such a range
pub record HoldsDivisor (o : Op) (ls : List Line) : Type 0 where
  pub operand : ℕ
  pub inverts : o ≡ Inv operand
  pub low : (line ls operand).value.low ≤ℤ pos 0
  pub high : pos 0 ≤ℤ (line ls operand).value.high

-- 11, of the operation o after the lines ls, which is codelist line k.
pub record Inverts (k : ℕ) (o : Op) (ls : List Line) : Type 0 where
  pub place : k ≡ suc (length ls)
  pub divisor : HoldsDivisor o ls

-- 12: not 11, which comes before, and "an end of a range produced by a step below passes the limit", in the arithmetic without a limit.
pub record Passes (k : ℕ) (o : Op) (ls : List Line) : Type 0 where
  pub place : k ≡ suc (length ls)
  pub no-divisor : ¬ (HoldsDivisor o ls)
  pub passes : Passing (steps_of (row_of o ls))

-- ════ 01'S TABLES: what each refusal is for ════

abbrev pub RefusedFor : Codelist → List ℤ → Refusal → Type 0
-- 10 at 0: "no sheet on the desk"; a codelist that is not ratable counts as none
RefusedFor c xs NoCodelist = ¬ (Ratable c)
-- 8 at 0: "not exactly two numbers per factor"
RefusedFor c xs RangeCount = Ratable c × (¬ (length xs ≡ 2 * c.factors))
-- 9 at the factor
RefusedFor c xs (BadRange a) = LowestBad c xs a
-- 11 and 12 at the codelist line
RefusedFor c xs (Divisor k) = Runnable c xs × StoppedAt (Inverts k) (operations c) (factor_lines (always_bent c) 0 (pairs xs))
RefusedFor c xs (Overflow k) = Runnable c xs × StoppedAt (Passes k) (operations c) (factor_lines (always_bent c) 0 (pairs xs))

pub record RefusedExactly : Type 0 where
  pub where-listed : (c : Codelist) (xs : List ℤ) (r : Refusal) → (rate_of c xs ≡ refused r) ↔ RefusedFor c xs r
  -- every rating is rated or refused, for one reason alone
  pub decided : (c : Codelist) (xs : List ℤ) → ((l : Limits) × (rate_of c xs ≡ rated l)) ⊎ ((r : Refusal) × RefusedFor c xs r)
  pub one-refusal : (c : Codelist) (xs : List ℤ) (q r : Refusal) → RefusedFor c xs q → RefusedFor c xs r → q ≡ r
  pub not-both : (c : Codelist) (xs : List ℤ) (l : Limits) (r : Refusal) → rate_of c xs ≡ rated l → ¬ (RefusedFor c xs r)
