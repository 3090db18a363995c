-- What a formula becomes: operation lines of a codelist, or nothing where constants meet. 02, request 12: "Lines are written operand first, left
-- before right; a minus is `mulc` by −10000 and `add`, a division `inv` and `mul`, and a constant operand becomes `addc` or `mulc` (constant minus
-- formula: `mulc` by −10000, then `addc`; constant over formula: `inv`, then `mulc`; a subtracted 0 is written `0`)."
use Rattle.std.specs.Prelude.{ℕ, suc, zero, ◌+◌, true, cond, ◌&&◌, List, [], ◌∷◌, ◌++◌, ◌⊎◌, leb, length}
use Rattle.std.proofs.Math.Option.{Option, none, some}
use Rattle.codelist.specs.declared.Numeral.{Numeral}
use Rattle.codelist.specs.Text.{TextLine, Add, Mul, AddC, MulC, Pow, Inv, absent, first_text, line_text}
use Rattle.codelist.specs.Write.{plain}
use Rattle.formulas.specs.Grammar.{Tree, factor, constant, bracket, power, join, Sign, plus, minus, times, over}
use Rattle.formulas.specs.Units.{units_of}

-- ════ numbers ════

-- "one outside 1 to 8 counts and is written as 9"
unfoldable pub count_of : ℕ → ℕ
count_of k = cond (leb 1 k && leb k 8) k 9

-- "a factor beyond the count is written as reference 0"
unfoldable pub reference : ℕ → ℕ → ℕ
reference n i = cond (leb i n) i 0

-- −1, in units
abbrev pub minus_one : Numeral
minus_one = record { negative = true; magnitude = 10_000 }

-- −c: "a subtracted 0 is written `0`"
unfoldable pub negated : ℕ → Numeral
negated zero = plain 0
negated (suc c) = record { negative = true; magnitude = suc c }

-- ════ lines ════

-- An operand: a constant in units, or the number of the codelist line that holds it
pub data Operand : Type 0 where
  fixed : ℕ → Operand
  line : ℕ → Operand

-- An operand and all lines so far, or none where refusal 20 is due: "Two constants meeting, a constant divisor, a powered constant"
pub data Conversion : Type 0 where
  operand : Operand → List TextLine → Conversion
  mixed : Conversion

abbrev pub on_operand : Conversion → (Operand → List TextLine → Conversion) → Conversion
on_operand (operand x ls) f = f x ls
on_operand mixed f = mixed

-- The number of the codelist line that comes after n factors and the lines ls
abbrev pub next : ℕ → List TextLine → ℕ
next n ls = n + length ls + 1

-- One line more: it is the operand
abbrev pub one : ℕ → List TextLine → TextLine → Conversion
one n ls l = operand (line (next n ls)) (ls ++ (l ∷ []))

-- Two lines more, of which the second, which refers to the first, is the operand
abbrev pub two : ℕ → List TextLine → TextLine → (ℕ → TextLine) → Conversion
two n ls l k = one n (ls ++ (l ∷ [])) (k (next n ls))

-- Two operands and the sign between them, after the lines ls
abbrev pub joined : ℕ → Sign → Operand → Operand → List TextLine → Conversion
joined n plus (line x) (line y) ls = one n ls (Add (plain x) (plain y))
joined n plus (line x) (fixed c) ls = one n ls (AddC (plain x) (plain c))
joined n plus (fixed c) (line y) ls = one n ls (AddC (plain y) (plain c))
joined n plus (fixed c) (fixed e) ls = mixed
joined n minus (line x) (line y) ls = two n ls (MulC (plain y) minus_one) (λ k. Add (plain x) (plain k))
joined n minus (line x) (fixed c) ls = one n ls (AddC (plain x) (negated c))
joined n minus (fixed c) (line y) ls = two n ls (MulC (plain y) minus_one) (λ k. AddC (plain k) (plain c))
joined n minus (fixed c) (fixed e) ls = mixed
joined n times (line x) (line y) ls = one n ls (Mul (plain x) (plain y))
joined n times (line x) (fixed c) ls = one n ls (MulC (plain x) (plain c))
joined n times (fixed c) (line y) ls = one n ls (MulC (plain y) (plain c))
joined n times (fixed c) (fixed e) ls = mixed
joined n over (line x) (line y) ls = two n ls (Inv (plain y)) (λ k. Mul (plain x) (plain k))
joined n over (line x) (fixed c) ls = mixed
joined n over (fixed c) (line y) ls = two n ls (Inv (plain y)) (λ k. MulC (plain k) (plain c))
joined n over (fixed c) (fixed e) ls = mixed

abbrev pub raised : ℕ → Operand → ℕ → List TextLine → Conversion
raised n (line x) m ls = one n ls (Pow (plain x) (plain m))
raised n (fixed c) m ls = mixed

-- THE CONVERSION of a tree for n factors, after the lines ls. "A bracket round a constant alone is that constant."
unfoldable pub convert : ℕ → Tree → List TextLine → Conversion
convert n (factor i) ls = operand (line (reference n i)) ls
convert n (constant w p) ls = operand (fixed (units_of w p)) ls
convert n (bracket t) ls = convert n t ls
convert n (power t m) ls = on_operand (convert n t ls) (λ x ks. raised n x m ks)
convert n (join o t u) ls = on_operand (convert n t ls) (λ x ks. on_operand (convert n u ks) (λ y js. joined n o x y js))

-- ════ the sheet ════

abbrev pub lines_text : List TextLine → List ℕ
lines_text [] = []
lines_text (l ∷ ls) = line_text l ++ lines_text ls

-- the first line names no year
unfoldable pub sheet_text : ℕ → List TextLine → List ℕ
sheet_text n ls = first_text (plain n) absent ++ lines_text ls

-- The text of the sheet; none where refusal 20 is due, "or a whole text with no operation"
abbrev pub sheet_from : ℕ → Conversion → Option (List ℕ)
sheet_from n (operand x []) = none
sheet_from n (operand x (l ∷ ls)) = some (sheet_text n (l ∷ ls))
sheet_from n mixed = none

-- THE SHEET of a formula, with the factor count k beside it
unfoldable pub sheet_of : ℕ → Tree → Option (List ℕ)
sheet_of k t = sheet_from (count_of k) (convert (count_of k) t [])

-- ════ refusal 20, on the formula itself ════

-- "A bracket round a constant alone is that constant."
abbrev pub IsConstant : Tree → Type 0
IsConstant (factor i) = ⊥
IsConstant (constant w p) = Unit
IsConstant (bracket t) = IsConstant t
IsConstant (power t m) = ⊥
IsConstant (join o t u) = ⊥

-- "Two constants meeting", at `+`, `-` or `*`; "a constant divisor"
abbrev pub Meet : Sign → Tree → Tree → Type 0
Meet plus t u = IsConstant t × IsConstant u
Meet minus t u = IsConstant t × IsConstant u
Meet times t u = IsConstant t × IsConstant u
Meet over t u = IsConstant u

-- Somewhere in the formula constants meet, or a divisor is one, or "a powered constant" stands
abbrev pub Mixes : Tree → Type 0
Mixes (factor i) = ⊥
Mixes (constant w p) = ⊥
Mixes (bracket t) = Mixes t
Mixes (power t m) = IsConstant t ⊎ Mixes t
Mixes (join o t u) = Meet o t u ⊎ (Mixes t ⊎ Mixes u)

-- "a whole text with no operation": a factor or a constant, in brackets or not
abbrev pub Bare : Tree → Type 0
Bare (factor i) = Unit
Bare (constant w p) = Unit
Bare (bracket t) = Bare t
Bare (power t m) = ⊥
Bare (join o t u) = ⊥
