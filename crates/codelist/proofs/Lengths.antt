-- A text of a well formed codelist has at most 1,266 bytes: the limit of 4,096 on a sheet's bytes is no condition on the codelist.
use Prim.Native.Nat.{ℕ, suc, zero, ◌+◌, ◌-◌, ◌*◌, ◌/◌, ◌%◌, ◌≤◌, ◌<◌}
use mathlib.Core.Bool.{Bool, true, false, cond}
use mathlib.Core.List.{List, [], ◌∷◌}
use mathlib.Core.Path.{◌≡◌, refl, ap}
use native.Mathlib.Decide.{dec_lt}
use native.Mathlib.Omega.{arith}
use lib.ListN.{length, take, length-append}
use borrow.Author.Tests.{lt-ltb, le-ltb}
use Rattle.codelist.specs.declared.Codelist.{Codelist}
use Rattle.codelist.specs.declared.Entry.{Entry}
use Rattle.codelist.specs.declared.Numeral.{Numeral}
use Rattle.codelist.specs.declared.Op.{Op}
use Rattle.codelist.specs.declared.Op.TheVariants.{Add, Mul, AddC, MulC, Pow, Inv}
use Rattle.codelist.specs.Codelist.{WellFormedOp, WellFormedOps, WellFormed}
use Rattle.codelist.specs.Text.{YearField, absent, decimal, numeral_text, year_text, line_text}
use Rattle.codelist.specs.Write.{plain, numeral_of, text_line_of, ops_text, text_with, IsText, field_of, text_of}
use Rattle.codelist.proofs.Ratable.{taken, well-formed-ratable}
use Rattle.codelist.proofs.Years.{year-short, field-least}

-- ---- the digits of a number
pub one-digit : (k m : ℕ) → m < 10 → length (decimal k m) ≡ 1
unfolding decimal
one-digit zero m h = refl
one-digit (suc k) m h = rw (lt-ltb m 10 h)

pub more-digits : (k m : ℕ) → 10 ≤ m → length (decimal (suc k) m) ≡ length (decimal k (m / 10)) + 1
unfolding decimal
more-digits k m h = rw (le-ltb m 10 h) (length-append (decimal k (m / 10)) ((48 + m % 10) ∷ []))

pub decimal-length : (k m : ℕ) → length (decimal k m) ≤ suc k
unfolding decimal
decimal-length zero m = omega arith
decimal-length (suc k) m = go (dec_lt m 10) (decimal-length k (m / 10))
  where
    go : Dec (m < 10) → length (decimal k (m / 10)) ≤ suc k → length (decimal (suc k) m) ≤ suc (suc k)
    go (yes p) h = omega (arith, one-digit (suc k) m p)
    go (no p) h = omega (arith, more-digits k m (omega arith))

numeral-length : (w : Numeral) → length (numeral_text w) ≤ 11
unfolding numeral_text
numeral-length w = either w.negative
  where
    either : (b : Bool) → length (cond b (45 ∷ decimal 9 w.magnitude) (decimal 9 w.magnitude)) ≤ 11
    either true = omega (arith, decimal-length 9 w.magnitude)
    either false = omega (arith, decimal-length 9 w.magnitude)

-- ---- the lines
-- the references to the first e lines have at most k digits
abbrev Digits : ℕ → ℕ → Type 0
Digits e k = (i : ℕ) → i ≤ e → length (numeral_text (plain i)) ≤ k

one_each : (e : ℕ) → e < 10 → Digits e 1
unfolding numeral_text
one_each e h i p = omega (arith, one-digit 9 i (omega arith))

two-each : (e : ℕ) → e < 64 → Digits e 2
unfolding numeral_text
two-each e h i p = go (dec_lt i 10)
  where
    go : Dec (i < 10) → length (decimal 9 i) ≤ 2
    go (yes q) = omega (arith, one-digit 9 i q)
    go (no q) = omega (arith, more-digits 8 i (omega arith), one-digit 8 (i / 10) (omega arith))

-- the longest line has a constant of ten digits with a minus sign
line-length : (e k : ℕ) (o : Op) → WellFormedOp e o → Digits e k → k ≤ 2 → length (line_text (text_line_of o)) ≤ 18 + k
line-length e k (Add i j) w d l = simp length-append (omega (arith, d i w.0.1, d j w.1.1))
line-length e k (Mul i j) w d l = simp length-append (omega (arith, d i w.0.1, d j w.1.1))
line-length e k (AddC i c) w d l = simp length-append (omega (arith, d i w.0.1, numeral-length (numeral_of c)))
line-length e k (MulC i c) w d l = simp length-append (omega (arith, d i w.0.1, numeral-length (numeral_of c)))
line-length e k (Pow i m) w d l = simp length-append (omega (arith, d i w.0.1, numeral-length (plain m)))
line-length e k (Inv i) w d l = simp length-append (omega (arith, d i w.1))

-- operations one after another, the first with e lines before it: 20 bytes each, and one fewer in each of those that have fewer than ten before them
record Most (e m n : ℕ) : Type 0 where
  each : n ≤ 20 * m
  later : n ≤ 19 * m + (e + m - 10)

ops-length : (e : ℕ) (xs : List Entry) → WellFormedOps e xs → e + length xs ≤ 64 → Most e (length xs) (length (ops_text xs))
ops-length e [] w l = record { each = omega arith; later = omega arith }
ops-length e (x ∷ xs) w l = go (dec_lt e 10) (ops-length (e + 1) xs w.1 (omega arith))
  where
    go : Dec (e < 10) → Most (e + 1) (length xs) (length (ops_text xs)) → Most e (length (x ∷ xs)) (length (ops_text (x ∷ xs)))
    go (yes p) h =
        let here = line-length e 1 x.op w.0 (one_each e p) (omega arith) in record {
          each = simp length-append (omega (arith, here, h.each));
          later = simp length-append (omega (arith, here, h.later));
        }
    go (no p) h =
        let here = line-length e 2 x.op w.0 (two-each e (omega arith)) (omega arith) in record {
          each = simp length-append (omega (arith, here, h.each));
          later = simp length-append (omega (arith, here, h.each));
        }

-- a text without its year
bare-length : (c : Codelist) → WellFormed c → length (text_with absent c) ≤ 1261
unfolding text_with numeral_text
bare-length c w =
    let n = c.factors in
    let xs = take c.count c.ops in
    let count = taken c (well-formed-ratable w) in
    let ops = ops-length n xs w.each (omega (arith, count, w.few)) in
    simp length-append (omega (arith, w.factors, one-digit 9 n (omega (arith, w.factors)), ops.later, count, w.few))

-- the year field stands beside the rest
pub longer-by : (f : YearField) (c : Codelist) → length (text_with f c) ≡ length (text_with absent c) + length (year_text f)
unfolding text_with
longer-by f c = simp length-append (omega arith)

-- what is written for a codelist is the shortest of its texts
pub shortest : (c : Codelist) (s : List ℕ) → IsText c s → length (text_of c) ≤ length s
unfolding text_of
shortest c s t =
    omega (
      arith,
      longer-by (field_of c.year) c,
      longer-by t.field c,
      field-least t.field c.year t.names,
      ap length t.text,
    )

pub text-length : (c : Codelist) → WellFormed c → (s : List ℕ) → IsText c s → length s ≤ 1266
text-length c w s t =
    omega (arith, bare-length c w, longer-by t.field c, year-short t.field c.year t.names, ap length t.text)
