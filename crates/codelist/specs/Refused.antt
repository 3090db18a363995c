-- What each of 01's refusals 1 to 7, and 02's refusals 15 and 17, says of the bytes, beside the table of 01. A statement; the proof is in
-- proofs/Refused.antt.
use Rattle.std.specs.Prelude.{ℕ, ◌+◌, ◌≤◌, ◌<◌, true, false, List, [], ◌++◌, ◌↔◌, ◌⊎◌, ◌≡◌, length}
use Rattle.std.proofs.Math.Option.{some, none}
use Rattle.codelist.specs.declared.Codelist.{Codelist}
use Rattle.codelist.specs.declared.Entry.{Entry}
use Rattle.codelist.specs.Text.{TextLine}
use Rattle.codelist.specs.declared.Numeral.{Numeral}
use Rattle.codelist.specs.declared.Refusal.{Refusal}
use Rattle.codelist.specs.declared.Refusal.TheVariants.{TooLong, Malformed, FactorCount, UnknownYear, TooManyLines, NoOperation, Reference}
use Rattle.codelist.specs.declared.Refusal.TheVariants.{Exponent, Constant, ZeroMultiplier}
use Rattle.codelist.specs.declared.Year.{Year}
use Rattle.codelist.specs.Text.{YearField, first_text, year_of, FirstAt, LineAt}
use Rattle.codelist.specs.Codelist.{WellFormedOps}
use Rattle.codelist.specs.Write.{plain, ops_text}
use Rattle.codelist.specs.Conditions.{is_between, refers_back, exponent_fits, constant_fits, multiplier_fits}
use Rattle.codelist.specs.Load.{accepted, refused, load_of}

-- The text s has at most 4,096 bytes, and its first lines are within the rules: n factors, a year field that names a year, and the operations done.
-- What is left is rest, from text line length done + 2 on.
pub record Upto (s : List ℕ) (n : ℕ) (done : List Entry) (rest : List ℕ) : Type 0 where
  pub short : length s ≤ 4096
  pub factors : (1 ≤ n) × (n ≤ 8)
  pub field : YearField
  pub year : Year
  pub names : year_of field ≡ some year
  pub few : n + length done ≤ 64
  pub each : WellFormedOps n done
  pub text : s ≡ first_text (plain n) field ++ (ops_text done ++ rest)

-- The same, and next comes the operation line l, of its form and not beyond the 64th
pub record Next (s : List ℕ) (n : ℕ) (done : List Entry) (l : TextLine) (t : List ℕ) : Type 0 where
  pub rest : List ℕ
  pub upto : Upto s n done rest
  pub line : LineAt rest l t
  pub room : n + length done < 64

-- 01'S TABLE: the bytes that each refusal is for
pub data RefusedFor (s : List ℕ) : Refusal → Type 0 where
  -- 1 at 0: over 4,096 bytes
  too_long : 4096 < length s → RefusedFor s TooLong
  -- 2 at 1: no first line of its form; 2 at p: a further line, at text line p, that is not of its form
  no-first-line : length s ≤ 4096 → ((w : Numeral) (f : YearField) (t : List ℕ) → FirstAt s w f t → ⊥) → RefusedFor s (Malformed 1)
  malformed : {n : ℕ} {done : List Entry} {rest : List ℕ} → Upto s n done rest → (rest ≡ [] → ⊥)
      → ((l : TextLine) (t : List ℕ) → LineAt rest l t → ⊥) → RefusedFor s (Malformed (length done + 2))
  -- 3 at 1: a first line whose n is not 1 to 8
  factor-count : {w : Numeral} {f : YearField} {t : List ℕ} → length s ≤ 4096 → FirstAt s w f t → is_between 1 8 w ≡ false → RefusedFor s FactorCount
  -- 17 at 1: a first line whose n is 1 to 8, with a year field that names none
  unknown-year : {w : Numeral} {f : YearField} {t : List ℕ} → length s ≤ 4096 → FirstAt s w f t → is_between 1 8 w ≡ true → year_of f ≡ none
      → RefusedFor s UnknownYear
  -- 4 at p: a line where the 64 are there already; 4 at 1: a first line alone
  too-many-lines : {n : ℕ} {done : List Entry} {rest : List ℕ} {l : TextLine} {t : List ℕ} → Upto s n done rest → LineAt rest l t
      → n + length done ≡ 64 → RefusedFor s (TooManyLines (length done + 2))
  no-operation : {n : ℕ} → Upto s n [] [] → RefusedFor s NoOperation
  -- 5, 6, 7, 15 at p: a line that breaks the condition, and none of the conditions before it
  reference : {n : ℕ} {done : List Entry} {l : TextLine} {t : List ℕ} → Next s n done l t
      → refers_back (n + length done) l ≡ false → RefusedFor s (Reference (length done + 2))
  exponent : {n : ℕ} {done : List Entry} {l : TextLine} {t : List ℕ} → Next s n done l t
      → refers_back (n + length done) l ≡ true → exponent_fits l ≡ false → RefusedFor s (Exponent (length done + 2))
  constant : {n : ℕ} {done : List Entry} {l : TextLine} {t : List ℕ} → Next s n done l t
      → refers_back (n + length done) l ≡ true → exponent_fits l ≡ true → constant_fits l ≡ false → RefusedFor s (Constant (length done + 2))
  multiplier : {n : ℕ} {done : List Entry} {l : TextLine} {t : List ℕ} → Next s n done l t
      → refers_back (n + length done) l ≡ true → exponent_fits l ≡ true → constant_fits l ≡ true → multiplier_fits l ≡ false
      → RefusedFor s (ZeroMultiplier (length done + 2))

pub record RefusedExactly : Type 0 where
  pub where-listed : (s : List ℕ) (r : Refusal) → (load_of s ≡ refused r) ↔ RefusedFor s r
  -- so no text is refused for two reasons; and every text is accepted or refused
  pub one-refusal : (s : List ℕ) (q r : Refusal) → RefusedFor s q → RefusedFor s r → q ≡ r
  pub decided : (s : List ℕ) → ((c : Codelist) × (load_of s ≡ accepted c)) ⊎ ((r : Refusal) × (load_of s ≡ refused r))
