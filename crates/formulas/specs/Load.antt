-- A formula's text and a factor count become a sheet, which is loaded: the sheet's own outcome, or refusal 19 or 20. 02, request 12: "19 comes before
-- 20, and both before loading."
use Rattle.std.specs.Prelude.{ℕ, List, ◌∷◌, length, take}
use Rattle.std.proofs.Math.Option.{Option, none, some}
use Rattle.codelist.specs.InFull.{Loaded}
use Rattle.codelist.specs.Load.{load_of, load_numbers}
use Rattle.writer.specs.Lent.{lent, put_text}
use Rattle.formulas.specs.InFull.{Converted}
use Rattle.formulas.specs.InFull as converted
use Rattle.formulas.specs.declared.Refusal.{Refusal}
use Rattle.formulas.specs.declared.Refusal.TheVariants.{Text, Constants}
use Rattle.formulas.specs.Convert.{sheet_of}
use Rattle.formulas.specs.Read.{Parsed, tree, fault, parse}

-- 02's number and place of the two refusals
abbrev pub number_of : Refusal → ℕ
number_of (Text p) = 19
number_of Constants = 20

abbrev pub place_of : Refusal → ℕ
place_of (Text p) = p
place_of Constants = 0

-- The numbers of loading a formula, in the order of checking
abbrev pub formula_numbers : List ℕ
formula_numbers = 19 ∷ 20 ∷ load_numbers

-- What a formula gives, or refusal 19 or 20
pub data Given (A : Type 0) : Type 0 where
  given : A → Given A
  refused : Refusal → Given A

abbrev pub from_sheet : Option (List ℕ) → Given (List ℕ)
from_sheet (some x) = given x
from_sheet none = refused Constants

abbrev pub from_parsed : ℕ → Parsed → Given (List ℕ)
from_parsed k (tree t) = from_sheet (sheet_of k t)
from_parsed k (fault p) = refused (Text p)

-- THE SHEET of a text, with the factor count k
unfoldable pub sheet_for : List ℕ → ℕ → Given (List ℕ)
sheet_for s k = from_parsed k (parse s)

-- THE LOADING of a text: "The resulting sheet is loaded as any other, in the same call"
abbrev pub loaded_sheet : Given (List ℕ) → Given Loaded
loaded_sheet (given x) = given (load_of x)
loaded_sheet (refused r) = refused r

unfoldable pub formula_of : List ℕ → ℕ → Given Loaded
formula_of s k = loaded_sheet (sheet_for s k)

-- ════ the call `convert` ════

-- The bytes of a sheet that the buffer gets: a byte more than a sheet may have (01), so that loading finds a longer one too long
abbrev pub first_bytes : List ℕ → List ℕ
first_bytes x = take 4097 x

-- THE ANSWER: how many bytes there are of the sheet
abbrev pub answered : Given (List ℕ) → Converted
answered (given x) = converted.Sheet (length (first_bytes x))
answered (refused r) = converted.Refused r

unfoldable pub converted_of : List ℕ → ℕ → Converted
converted_of s k = answered (sheet_for s k)

-- THE BUFFER after the call, b before: a refused call touches no byte, and bytes past the sheet keep their values
abbrev pub buffer_after : Given (List ℕ) → List ℕ → List ℕ
buffer_after (given x) b = (put_text (lent b 0) (first_bytes x)).bytes
buffer_after (refused r) b = b

unfoldable pub buffer_of : List ℕ → ℕ → List ℕ → List ℕ
buffer_of s k b = buffer_after (sheet_for s k) b
