-- What the code's readers say of the text that they read. For private contracts only.
use Rattle.std.specs.Prelude.{ℕ, ◌≤◌, ◌-◌, cond, ◌&&◌, List, [], ◌∷◌, leb}
use Rattle.std.specs.Borrow.{Bor}
use Rattle.std.specs.declared.option.Option.{Option}
use Rattle.std.specs.declared.option.Option.TheVariants.{Some, None}
use Rattle.std.proofs.Math.Option as math
use Rattle.codelist.specs.Text.{TextLine, YearField, absent, written}
use Rattle.codelist.specs.Text.{Add, Mul, AddC, MulC, Pow, Inv}
use Rattle.codelist.specs.declared.lines.FirstLine.{FirstLine}
use Rattle.codelist.specs.declared.lines.Line.{Line}
use Rattle.codelist.specs.declared.lines.Line.TheVariants as line
use Rattle.codelist.specs.declared.Numeral.{Numeral}
use Rattle.codelist.specs.declared.Year.{Year}
use Rattle.codelist.specs.Read.{Read, good, bad}
use Rattle.exact.specs.Units.{limit}

-- A digit
abbrev pub next_digit : List ℕ → Read ℕ
next_digit [] = bad
next_digit (b ∷ s) = cond (leb 48 b && leb b 57) (good (b - 48) s) bad

abbrev pub of_literal : Option (Bor (List ℕ)) → Read Unit
of_literal (Some t) = good tt t.now
of_literal None = bad

abbrev pub text_line : Line → TextLine
text_line (line.Add i j) = Add i j
text_line (line.Mul i j) = Mul i j
text_line (line.AddC i c) = AddC i c
text_line (line.MulC i c) = MulC i c
text_line (line.Pow i m) = Pow i m
text_line (line.Inv i) = Inv i

abbrev pub of_line : Option (Line × Bor (List ℕ)) → Read TextLine
of_line (Some p) = good (text_line p.0) p.1.now
of_line None = bad

abbrev pub year_field : Option Numeral → YearField
year_field (Some w) = written w
year_field None = absent

abbrev pub of_first : Option (FirstLine × Bor (List ℕ)) → Read (Numeral × YearField)
of_first (Some p) = good (p.0.factors, year_field p.0.year) p.1.now
of_first None = bad

abbrev pub of_year : Option Year → math.Option Year
of_year (Some y) = math.some y
of_year None = math.none

-- The numbers of a line fit the operation's fields
abbrev pub Fits : TextLine → Type 0
Fits (Add i j) = (i.magnitude ≤ 255) × (j.magnitude ≤ 255)
Fits (Mul i j) = (i.magnitude ≤ 255) × (j.magnitude ≤ 255)
Fits (AddC i c) = (i.magnitude ≤ 255) × (c.magnitude ≤ limit)
Fits (MulC i c) = (i.magnitude ≤ 255) × (c.magnitude ≤ limit)
Fits (Pow i m) = (i.magnitude ≤ 255) × (m.magnitude ≤ 255)
Fits (Inv i) = i.magnitude ≤ 255
