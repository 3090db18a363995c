-- Loading: the whole codelist, or one refusal. 01, "Refusals that come from the input", 1 to 7, and "Loading: 1 first, then text lines
-- from the top, within a line in the order 2, 3, 4, 5, 6, 7; a sheet without operations is found last." 02, request 5: 15, "with the text line as
-- place, checked right after 7 in its line". Request 9: "Any other numeral there gets 17, text line 1, after 3".
use Rattle.std.specs.Prelude.{ℕ, suc, zero, ◌+◌, ◌-◌, ◌^◌, min, Bool, cond, List, [], ◌∷◌, ◌++◌, leb, ℤ, pos, neg_ℤ, length, replicate}
use Rattle.std.proofs.Math.Option.{Option, some, none}
use Rattle.std.specs.declared.result.Result.{Result}
use Rattle.std.specs.declared.result.Result.TheVariants.{Ok, Err}
use Rattle.codelist.specs.declared.Codelist.{Codelist}
use Rattle.codelist.specs.declared.Entry.{Entry}
use Rattle.codelist.specs.Text.{TextLine, YearField, year_of}
use Rattle.codelist.specs.Text.{Add, Mul, AddC, MulC, Pow, Inv}
use Rattle.codelist.specs.InFull.{Loaded}
use Rattle.codelist.specs.declared.Numeral.{Numeral}
use Rattle.codelist.specs.declared.Op.{Op}
use Rattle.codelist.specs.declared.Op.TheVariants as op
use Rattle.codelist.specs.InFull.{Accepted, Refused}
use Rattle.codelist.specs.declared.Refusal.{Refusal}
use Rattle.codelist.specs.declared.Refusal.TheVariants.{TooLong, Malformed, FactorCount, UnknownYear, TooManyLines, NoOperation, Reference}
use Rattle.codelist.specs.declared.Refusal.TheVariants.{Exponent, Constant, ZeroMultiplier}
use Rattle.codelist.specs.declared.Year.{Year}
use Rattle.codelist.specs.declared.Year.TheVariants.{Y2016}
use Rattle.codelist.specs.Codelist.{blank}
use Rattle.codelist.specs.Conditions.{is_between, refers_back, exponent_fits, constant_fits, multiplier_fits}
use Rattle.codelist.specs.Read.{Read, good, bad, operation_line, first_line}

-- The number and place of each refusal
abbrev pub number_of : Refusal → ℕ
number_of TooLong = 1
number_of (Malformed p) = 2
number_of FactorCount = 3
number_of UnknownYear = 17
number_of (TooManyLines p) = 4
number_of NoOperation = 4
number_of (Reference p) = 5
number_of (Exponent p) = 6
number_of (Constant p) = 7
number_of (ZeroMultiplier p) = 15

abbrev pub place_of : Refusal → ℕ
place_of TooLong = 0
place_of (Malformed p) = p
place_of FactorCount = 1
place_of UnknownYear = 1
place_of (TooManyLines p) = p
place_of NoOperation = 1
place_of (Reference p) = p
place_of (Exponent p) = p
place_of (Constant p) = p
place_of (ZeroMultiplier p) = p

-- The numbers of loading, in the order of checking
abbrev pub load_numbers : List ℕ
load_numbers = 1 ∷ 2 ∷ 3 ∷ 17 ∷ 4 ∷ 5 ∷ 6 ∷ 7 ∷ 15 ∷ []

-- "A refusal carries number and place, every other field is 0": the codelist is the empty one
unfoldable pub empty : Codelist
empty = record { factors = 0; count = 0; year = Y2016; ops = replicate 64 blank }

abbrev pub refused : Refusal → Loaded
refused r = record { outcome = Refused r; codelist = empty }

abbrev pub accepted : Codelist → Loaded
accepted c = record { outcome = Accepted; codelist = c }

-- The code's answer in full
abbrev pub in_full : Result Codelist Refusal → Loaded
in_full (Ok c) = accepted c
in_full (Err r) = refused r

-- The codelist of the year y, n factors and the operations ops, which fill the array from the front
unfoldable pub codelist_of : Year → ℕ → List Entry → Codelist
codelist_of y n ops = record { factors = n; count = length ops; year = y; ops = ops ++ replicate (64 - length ops) blank }

-- A numeral's value
unfoldable pub value_of : Numeral → ℤ
value_of w = cond w.negative (neg_ℤ (pos w.magnitude)) (pos w.magnitude)

-- The same as an i64 holds it: a magnitude above 2 ^ 63 - 1 counts as that one. The text has none, since a numeral has at most ten
-- digits.
unfoldable pub saturated : Numeral → ℤ
saturated w = value_of (record { negative = w.negative; magnitude = min w.magnitude (2 ^ 63 - 1) })

-- The operation of a line that keeps the rules
abbrev pub op_of : TextLine → Op
op_of (Add i j) = op.Add i.magnitude j.magnitude
op_of (Mul i j) = op.Mul i.magnitude j.magnitude
op_of (AddC i c) = op.AddC i.magnitude (value_of c)
op_of (MulC i c) = op.MulC i.magnitude (value_of c)
op_of (Pow i m) = op.Pow i.magnitude m.magnitude
op_of (Inv i) = op.Inv i.magnitude

-- The first where a condition does not hold, else the second
abbrev pub unless : {A : Type 0} → Bool → A → A → A
unless b x y = cond b y x

-- The line at text line p, with e codelist lines before it: 5, then 6, then 7, then 15
unfoldable pub checked_of : ℕ → ℕ → TextLine → Result Op Refusal
checked_of p e l =
    unless (refers_back e l) (Err (Reference p))
    (unless (exponent_fits l) (Err (Exponent p))
    (unless (constant_fits l) (Err (Constant p))
    (unless (multiplier_fits l) (Err (ZeroMultiplier p)) (Ok (op_of l)))))

-- The end of the text, after the operations ops: there must be one
abbrev pub ended : Year → ℕ → List Entry → Loaded
ended y n [] = refused NoOperation
ended y n (x ∷ xs) = accepted (codelist_of y n (x ∷ xs))

-- What a checked line leads to
abbrev pub on_checked : Result Op Refusal → (Op → Loaded) → Loaded
on_checked (Ok o) f = f o
on_checked (Err r) f = refused r

-- What an operation line at text line p leads to: 2 where it is not of the form
abbrev pub on_line : ℕ → Read TextLine → (TextLine → List ℕ → Loaded) → Loaded
on_line p (good l s) f = f l s
on_line p bad f = refused (Malformed p)

-- The first at the end of the text, else the second
abbrev pub at_end : List ℕ → Loaded → Loaded → Loaded
at_end [] x y = x
at_end (b ∷ s) x y = y

-- The text lines after the operations ops, of a codelist with the year y, n factors and room for so many codelist lines more
unfoldable pub operation_lines : Year → ℕ → ℕ → List Entry → List ℕ → Loaded
operation_lines y n zero ops s =
    at_end s (ended y n ops) (on_line (length ops + 2) (operation_line s) (λ l t. refused (TooManyLines (length ops + 2))))
operation_lines y n (suc room) ops s =
    at_end s (ended y n ops)
    (on_line (length ops + 2) (operation_line s) (λ l t.
    on_checked (checked_of (length ops + 2) (n + length ops) l) (λ o.
    operation_lines y n room (ops ++ (record { op = o } ∷ [])) t)))

-- What the year leads to: 17 where the field names none
abbrev pub on_year : Option Year → (Year → Loaded) → Loaded
on_year (some y) f = f y
on_year none f = refused UnknownYear

-- What the first line leads to: 3, then 17, then the operation lines
abbrev pub on_first : Read (Numeral × YearField) → Loaded
on_first (good (w, f) s) =
    unless (is_between 1 8 w) (refused FactorCount)
    (on_year (year_of f) (λ y. operation_lines y w.magnitude (64 - w.magnitude) [] s))
on_first bad = refused (Malformed 1)

-- LOADING
unfoldable pub load_of : List ℕ → Loaded
load_of s = unless (leb (length s) 4096) (refused TooLong) (on_first (first_line s))
