-- 02, request 11: "Swapping the two references of any `add` or `mul` changes no field of any result, and no number or place of a refusal." What is
-- swapped, in a codelist and in a text, and what loading and writing make of it. Proved in proofs/Exchange.antt.
use Rattle.std.specs.Prelude.{ℕ, List, [], ◌∷◌, ◌++◌, ◌≡◌}
use Rattle.codelist.specs.declared.Codelist.{Codelist}
use Rattle.codelist.specs.declared.Entry.{Entry}
use Rattle.codelist.specs.InFull.{Loaded}
use Rattle.codelist.specs.declared.Numeral.{Numeral}
use Rattle.codelist.specs.declared.Op.{Op}
use Rattle.codelist.specs.declared.Op.TheVariants as op
use Rattle.codelist.specs.Text.{TextLine, Add, Mul, HasNumerals, line_text}
use Rattle.codelist.specs.Codelist.{WellFormed}
use Rattle.codelist.specs.Write.{text_of}
use Rattle.codelist.specs.Load.{load_of}

-- ════ codelists ════

-- Two lists of one length, their members related one by one
pub data OneByOne {A : Type 0} (R : A → A → Type 0) : List A → List A → Type 0 where
  none : OneByOne R [] []
  more : {x y : A} {xs ys : List A} → R x y → OneByOne R xs ys → OneByOne R (x ∷ xs) (y ∷ ys)

-- An operation as it is, or with "the two references of any `add` or `mul`" swapped. Nothing is asked of the references.
pub data ExchangedOp : Op → Op → Type 0 where
  kept : (o : Op) → ExchangedOp o o
  add : (i j : ℕ) → ExchangedOp (op.Add i j) (op.Add j i)
  mul : (i j : ℕ) → ExchangedOp (op.Mul i j) (op.Mul j i)

abbrev pub ExchangedEntry : Entry → Entry → Type 0
ExchangedEntry x y = ExchangedOp x.op y.op

-- "any `add` or `mul`": any number of the operations
pub record Exchanged (c d : Codelist) : Type 0 where
  pub factors : c.factors ≡ d.factors
  pub count : c.count ≡ d.count
  pub year : c.year ≡ d.year
  pub ops : OneByOne ExchangedEntry c.ops d.ops

-- ════ texts ════

-- A text line with its two references swapped
pub data ExchangedLine : TextLine → TextLine → Type 0 where
  add_line : (i j : Numeral) → ExchangedLine (Add i j) (Add j i)
  mul_line : (i j : Numeral) → ExchangedLine (Mul i j) (Mul j i)

-- The bytes of a text line before its byte 10
abbrev pub WithinLine : List ℕ → Type 0
WithinLine [] = Unit
WithinLine (b ∷ l) = (¬ (b ≡ 10)) × WithinLine l

-- Whole text lines from the front, each kept or, where it is an `add` or a `mul` with numerals, swapped; then what is left, kept. Nothing is asked of
-- the lines that are kept, nor of what is left, nor of the numerals' values, nor of the length of it all.
pub data ExchangedText : List ℕ → List ℕ → Type 0 where
  left : (s : List ℕ) → ExchangedText s s
  whole : {s t : List ℕ} (l : List ℕ) → WithinLine l → ExchangedText s t → ExchangedText (l ++ (10 ∷ s)) (l ++ (10 ∷ t))
  swapped : {l m : TextLine} {s t : List ℕ} → ExchangedLine l m → HasNumerals l → ExchangedText s t
      → ExchangedText (line_text l ++ s) (line_text m ++ t)

-- ════ WHAT IS PROMISED ════

-- Loading: the same outcome, so "no number or place of a refusal" changes, and codelists that differ in swapped references alone
pub record LoadedAlike (x y : Loaded) : Type 0 where
  pub outcome : x.outcome ≡ y.outcome
  pub codelist : Exchanged x.codelist y.codelist

abbrev pub ExchangeLoad : Type 0
ExchangeLoad = (s t : List ℕ) → ExchangedText s t → LoadedAlike (load_of s) (load_of t)

-- Writing: the texts of two such codelists differ in swapped references alone
abbrev pub ExchangeWrite : Type 0
ExchangeWrite = (c d : Codelist) → WellFormed c → Exchanged c d → ExchangedText (text_of c) (text_of d)
