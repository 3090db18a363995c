-- The program `formula` as a function of the bytes that it reads: a first line `factors→n`, n a numeral, and then the formula's text, ended by byte 10.
-- It prints the sheet that the formula becomes, where that is accepted, and else the refusal. docs/DECISIONS.md, "Formulas".
use Rattle.std.specs.Prelude.{Bool, cond, List, ℕ, ◌-◌, leb, eqb, length, take, get_or, replicate}
use Rattle.codelist.specs.declared.Numeral.{Numeral}
use Rattle.codelist.specs.InFull as loading
use Rattle.codelist.specs.Load as load
use Rattle.codelist.specs.Read.{Read, good, bad, next, literal, field}
use Rattle.codelist.specs.Text.{factors→}
use Rattle.writer.specs.Lent.{Lent, lent, put_text}
use Rattle.writer.specs.Texts.{refused_text}
use Rattle.formulas.specs.Grammar.{longest}
use Rattle.formulas.specs.Load.{Given, given, refused, number_of, place_of, sheet_for}

-- The first line, which names no year
unfoldable pub count_line : List ℕ → Read Numeral
count_line s = next (literal factors→ s) (λ _ t. field 10 t)

-- The count that it gives: a negative one is outside 1 to 8, as 0 is
abbrev pub count_in : Numeral → ℕ
count_in w = cond w.negative 0 w.magnitude

-- What is printed for a sheet x, by what loading it gives
abbrev pub sheet_printed : loading.Outcome → List ℕ → List ℕ
sheet_printed loading.Accepted x = x
sheet_printed (loading.Refused r) x = refused_text (load.number_of r) (load.place_of r)

abbrev pub printed : Given (List ℕ) → List ℕ
printed (given x) = sheet_printed (load.load_of x).outcome x
printed (refused r) = refused_text (number_of r) (place_of r)

-- What follows the first line: its last byte ends the text where it is 10; any other 10 belongs to the text
abbrev pub is_ended : List ℕ → Bool
is_ended u = eqb (get_or u (length u - 1) 0) 10

abbrev pub text_in : List ℕ → List ℕ
text_in u = take (length u - 1) u

-- the text over 1,024 bytes (19), then the missing byte 10 (2 at 2), then what the text becomes, with the count k
abbrev pub unended : List ℕ → List ℕ
unended u = cond (leb (length u) longest) (refused_text 2 2) (refused_text 19 1025)

abbrev pub after_first : ℕ → List ℕ → List ℕ
after_first k u = cond (is_ended u) (printed (sheet_for (text_in u) k)) (unended u)

abbrev pub on_count : Read Numeral → List ℕ
on_count (good w u) = after_first (count_in w) u
on_count bad = refused_text 2 1

-- THE OUTPUT
unfoldable pub answer_of : List ℕ → List ℕ
answer_of s = on_count (count_line s)

-- and its text in the bytes that hold it, all of them 0 before
abbrev pub in_bytes : List ℕ → Lent
in_bytes t = put_text (lent (replicate 4097 0) 0) t
