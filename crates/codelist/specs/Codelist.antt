-- Which codelists are well formed: those that an accepted text leaves. And which are ratable: those whose operations are well formed, whatever
-- stands behind them. 01, "The sheet" and "What the engine takes and gives".
use Rattle.std.specs.Prelude.{ℕ, ◌+◌, ◌-◌, ◌≤◌, ◌<◌, Bool, true, ◌&&◌, List, [], ◌∷◌, ◌↔◌, ◌≡◌, leb, eqb, ℤ, pos, negsuc, nat_abs, length, get_or, take, drop, replicate}
use Rattle.std.specs.Int.Signed.{le_z}
use Rattle.exact.specs.Units.{limit}
use Rattle.codelist.specs.declared.Codelist.{Codelist}
use Rattle.codelist.specs.declared.Entry.{Entry}
use Rattle.codelist.specs.declared.Op.{Op}
use Rattle.codelist.specs.declared.Op.TheVariants.{Add, Mul, AddC, MulC, Pow, Inv}

-- The entry past the last operation: no operation refers to line 0
abbrev pub blank : Entry
blank = record { op = Inv 0 }

-- i names one of the e codelist lines before
abbrev pub Earlier : ℕ → ℕ → Type 0
Earlier e i = (1 ≤ i) × (i ≤ e)

-- An operation with e codelist lines before it: "The references i, j name earlier codelist lines and may be equal; c is in units;
-- the exponent m is 2 to 8." And no `mulc` by 0 (02, request 5).
abbrev pub WellFormedOp : ℕ → Op → Type 0
WellFormedOp e (Add i j) = Earlier e i × Earlier e j
WellFormedOp e (Mul i j) = Earlier e i × Earlier e j
WellFormedOp e (AddC i c) = Earlier e i × (nat_abs c ≤ limit)
WellFormedOp e (MulC i c) = Earlier e i × (nat_abs c ≤ limit) × (1 ≤ nat_abs c)
WellFormedOp e (Pow i m) = Earlier e i × ((2 ≤ m) × (m ≤ 8))
WellFormedOp e (Inv i) = Earlier e i

-- Operations one after another, the first with e codelist lines before it
abbrev pub WellFormedOps : ℕ → List Entry → Type 0
WellFormedOps e [] = Unit
WellFormedOps e (x ∷ xs) = WellFormedOp e x.op × WellFormedOps (e + 1) xs

-- A WELL FORMED CODELIST: "Factors: 1 to 8. Codelist lines: at most 64, factors included." The operations fill the array of 64 from the
-- front, and blanks the rest of it.
pub record WellFormed (c : Codelist) : Type 0 where
  pub factors : (1 ≤ c.factors) × (c.factors ≤ 8)
  pub some : 1 ≤ c.count
  pub few : c.factors + c.count ≤ 64
  pub each : WellFormedOps c.factors (take c.count c.ops)
  pub blanks : drop c.count c.ops ≡ replicate (64 - c.count) blank

-- A RATABLE CODELIST: what rating reads of it, its counts and its operations, is as in a well formed one. Nothing is asked of the entries behind
-- the last operation: rating reads none of them, so they can change no result. Every well formed codelist is ratable (proofs/Ratable.antt).
pub record Ratable (c : Codelist) : Type 0 where
  pub factors : (1 ≤ c.factors) × (c.factors ≤ 8)
  pub some : 1 ≤ c.count
  pub few : c.factors + c.count ≤ 64
  pub each : WellFormedOps c.factors (take c.count c.ops)
  -- so of every value that a program can hold, by its type
  pub array : length c.ops ≡ 64

-- The same, computed
abbrev pub is_earlier : ℕ → ℕ → Bool
is_earlier e i = leb 1 i && leb i e

abbrev pub is_exponent : ℕ → Bool
is_exponent m = leb 2 m && leb m 8

abbrev pub is_constant : ℤ → Bool
is_constant c = le_z (negsuc 1_999_999_999) c && le_z c (pos limit)

abbrev pub is_multiplier : ℤ → Bool
is_multiplier c = leb 1 (nat_abs c)

abbrev pub well_formed_op : ℕ → Op → Bool
well_formed_op e (Add i j) = is_earlier e i && is_earlier e j
well_formed_op e (Mul i j) = is_earlier e i && is_earlier e j
well_formed_op e (AddC i c) = is_earlier e i && is_constant c
well_formed_op e (MulC i c) = is_earlier e i && (is_constant c && is_multiplier c)
well_formed_op e (Pow i m) = is_earlier e i && is_exponent m
well_formed_op e (Inv i) = is_earlier e i

unfoldable pub well_formed_ops : ℕ → List Entry → Bool
well_formed_ops e [] = true
well_formed_ops e (x ∷ xs) = well_formed_op e x.op && well_formed_ops (e + 1) xs

abbrev pub in_bounds : Codelist → Bool
in_bounds c = leb 1 c.factors && leb c.factors 8 && leb 1 c.count && leb (c.factors + c.count) 64

unfoldable pub ratable : Codelist → Bool
ratable c = in_bounds c && eqb (length c.ops) 64 && well_formed_ops c.factors (take c.count c.ops)

-- It is true exactly there: a statement, which proofs/Ratable.antt proves
abbrev pub DecidesRatable : Type 0
DecidesRatable = (c : Codelist) → (ratable c ≡ true) ↔ Ratable c

-- NO MULTIPLYING BY NOTHING (02, request 5: "A member found a factor listed as counting although its rate was 0"). A statement; the proof is in
-- proofs/Ratable.antt
pub record NoZeroMultiplier : Type 0 where
  -- no operation that passes the test multiplies by 0
  pub tested : (e i : ℕ) (c : ℤ) → well_formed_op e (MulC i c) ≡ true → c ≡ pos 0 → ⊥
  -- nor does one of a codelist that can be rated
  pub held : (c : Codelist) → Ratable c → (k i : ℕ) → k < c.count → (get_or c.ops k blank).op ≡ MulC i (pos 0) → ⊥
