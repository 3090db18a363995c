-- The readers: what each finds at the front of the bytes that are left. 01, "The sheet"; 02, request 9: the year.
use Rattle.std.specs.Prelude.{ℕ, suc, zero, ◌+◌, ◌-◌, ◌*◌, Bool, true, false, cond, List, [], ◌∷◌, leb, ltb, eqb}
use Rattle.std.specs.declared.option.Option.{Option}
use Rattle.std.specs.declared.option.Option.TheVariants.{Some, None}
use Rattle.std.specs.Borrow.{Bor}
use Rattle.codelist.specs.Text.{TextLine, YearField, absent, written}
use Rattle.codelist.specs.Text.{Add, Mul, AddC, MulC, Pow, Inv}
use Rattle.codelist.specs.declared.Numeral.{Numeral}
use Rattle.codelist.specs.declared.lines.Word.{Word}
use Rattle.codelist.specs.declared.lines.Word.TheVariants as word
use Rattle.codelist.specs.Text.{factors→, add→, mul→, addc→, mulc→, pow→, inv→}

-- The next byte, and 256, which is no byte, at the end
unfoldable pub peek : List ℕ → ℕ
peek [] = 256
peek (b ∷ s) = b

-- What is left after the next byte
unfoldable pub rest : List ℕ → List ℕ
rest [] = []
rest (b ∷ s) = s

-- What a reader gives: what it read and the bytes that are left, or that the text is not of the form
pub data Read (A : Type 0) : Type 0 where
  good : A → List ℕ → Read A
  bad : Read A

-- What the code's readers say: what was read with the rest of the text, or none
abbrev pub read_of : {A : Type 0} → Option (A × Bor (List ℕ)) → Read A
read_of (Some p) = good p.0 p.1.now
read_of None = bad

-- One reader after another
abbrev pub next : {A B : Type 0} → Read A → (A → List ℕ → Read B) → Read B
next (good a s) f = f a s
next bad f = bad

-- What the second reader finds, where the first finds nothing
infixl 5 ◌or◌
abbrev pub ◌or◌ : {A : Type 0} → Read A → Read A → Read A
good a s or r = good a s
bad or r = r

-- The value of a digit's byte, and 10 for any other
unfoldable pub digit : ℕ → ℕ
digit b = cond (leb 48 b) (cond (leb b 57) (b - 48) 10) 10

-- At most k further digits, after digits with the value m
unfoldable pub digits : ℕ → Bool → ℕ → List ℕ → Read Numeral
digits zero negative m s = good (record { negative = negative; magnitude = m }) s
digits (suc k) negative m s =
    cond (ltb (digit (peek s)) 10)
    (digits k negative (m * 10 + digit (peek s)) (rest s))
    (good (record { negative = negative; magnitude = m }) s)

-- 1 to 10 digits of which the first is not 0
unfoldable pub positive : Bool → List ℕ → Read Numeral
positive negative s =
    cond (eqb (digit (peek s)) 0) bad
    (cond (ltb (digit (peek s)) 10) (digits 9 negative (digit (peek s)) (rest s)) bad)

-- A numeral: `0`, or an optional minus (byte 45) and 1 to 10 digits of which the first is not 0. A tab or the line's end
-- must follow (`field`), so a digit after `0`, and an eleventh digit, are not of the form.
unfoldable pub numeral : List ℕ → Read Numeral
numeral s =
    cond (eqb (peek s) 45) (positive true (rest s))
    (cond (eqb (peek s) 48) (good (record { negative = false; magnitude = 0 }) (rest s)) (positive false s))

-- A numeral and the byte e after it: 9, a tab, or 10, the line's end
unfoldable pub field : ℕ → List ℕ → Read Numeral
field e s = next (numeral s) (λ w t. cond (eqb (peek t) e) (good w (rest t)) bad)

-- The bytes w
unfoldable pub literal : List ℕ → List ℕ → Read Unit
literal [] s = good tt s
literal (b ∷ w) s = cond (eqb (peek s) b) (literal w (rest s)) bad

-- Whether the bytes w are at the front of the text
abbrev pub is_good : {A : Type 0} → Read A → Bool
is_good (good a s) = true
is_good bad = false

unfoldable pub begins_with : List ℕ → List ℕ → Bool
begins_with w s = is_good (literal w s)

-- The word k, written w
unfoldable pub named : Word → List ℕ → List ℕ → Read Word
named k w s = next (literal w s) (λ _ t. good k t)

unfoldable pub keyword : List ℕ → Read Word
keyword s =
    named word.Add add→ s or named word.Mul mul→ s or named word.AddC addc→ s
    or named word.MulC mulc→ s or named word.Pow pow→ s or named word.Inv inv→ s

-- Two numerals, parted by a tab, and the line's end
unfoldable pub pair : List ℕ → Read (Numeral × Numeral)
pair s = next (field 9 s) (λ i t. next (field 10 t) (λ x u. good (i, x) u))

-- What follows the word of an operation line
abbrev pub both : (Numeral → Numeral → TextLine) → List ℕ → Read TextLine
both f s = next (pair s) (λ p t. good (f p.0 p.1) t)

unfoldable pub operands : Word → List ℕ → Read TextLine
operands word.Add s = both Add s
operands word.Mul s = both Mul s
operands word.AddC s = both AddC s
operands word.MulC s = both MulC s
operands word.Pow s = both Pow s
operands word.Inv s = next (field 10 s) (λ i t. good (Inv i) t)

-- An operation line
unfoldable pub operation_line : List ℕ → Read TextLine
operation_line s = next (keyword s) operands

-- What follows the word of the first line: n, or n and the year
unfoldable pub first_fields : List ℕ → Read (Numeral × YearField)
first_fields s = next (field 10 s) (λ n t. good (n, absent) t) or next (pair s) (λ p t. good (p.0, written p.1) t)

-- The first line
unfoldable pub first_line : List ℕ → Read (Numeral × YearField)
first_line s = next (literal factors→ s) (λ _ t. first_fields t)
