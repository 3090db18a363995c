-- The texts that 01's rules write for a codelist: one, or two by how its year is named (02, request 9).
use Rattle.std.specs.Prelude.{ℕ, suc, true, false, List, [], ◌∷◌, ◌++◌, ◌≡◌, ℤ, pos, negsuc, take}
use Rattle.std.proofs.Math.Option.{some}
use Rattle.codelist.specs.declared.Codelist.{Codelist}
use Rattle.codelist.specs.declared.Entry.{Entry}
use Rattle.codelist.specs.Text.{TextLine}
use Rattle.codelist.specs.Text.{Add, Mul, AddC, MulC, Pow, Inv}
use Rattle.codelist.specs.declared.Numeral.{Numeral}
use Rattle.codelist.specs.declared.Op.{Op}
use Rattle.codelist.specs.declared.Op.TheVariants as op
use Rattle.codelist.specs.declared.Year.{Year}
use Rattle.codelist.specs.declared.Year.TheVariants.{Y2016, Y2014}
use Rattle.codelist.specs.Text.{YearField, absent, written, first_text, year_of, line_text}

-- The numeral of a number
abbrev pub plain : ℕ → Numeral
plain n = record { negative = false; magnitude = n }

unfoldable pub numeral_of : ℤ → Numeral
numeral_of (pos n) = plain n
numeral_of (negsuc n) = record { negative = true; magnitude = suc n }

-- The line of an operation
abbrev pub text_line_of : Op → TextLine
text_line_of (op.Add i j) = Add (plain i) (plain j)
text_line_of (op.Mul i j) = Mul (plain i) (plain j)
text_line_of (op.AddC i c) = AddC (plain i) (numeral_of c)
text_line_of (op.MulC i c) = MulC (plain i) (numeral_of c)
text_line_of (op.Pow i m) = Pow (plain i) (plain m)
text_line_of (op.Inv i) = Inv (plain i)

abbrev pub ops_text : List Entry → List ℕ
ops_text [] = []
ops_text (x ∷ xs) = line_text (text_line_of x.op) ++ ops_text xs

-- The text of a codelist with the year field f: the first line, then a line for each operation
unfoldable pub text_with : YearField → Codelist → List ℕ
text_with f c = first_text (plain c.factors) f ++ ops_text (take c.count c.ops)

-- A TEXT OF A CODELIST: its year field names the codelist's year
pub record IsText (c : Codelist) (s : List ℕ) : Type 0 where
  pub field : YearField
  pub names : year_of field ≡ some c.year
  pub text : s ≡ text_with field c

-- The year fields 2016 and 2014
abbrev pub year2016 : YearField
year2016 = written (plain 2016)

abbrev pub year2014 : YearField
year2014 = written (plain 2014)

-- "A tidied sheet names the year only for 2014"
abbrev pub field_of : Year → YearField
field_of Y2016 = absent
field_of Y2014 = year2014

-- THE TEXT THAT IS WRITTEN for a codelist
unfoldable pub text_of : Codelist → List ℕ
text_of c = text_with (field_of c.year) c
