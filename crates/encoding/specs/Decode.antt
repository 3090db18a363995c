-- Bytes as a codelist, or none: by rules on the bytes, in the order in which they lie.
use Rattle.std.specs.Prelude.{ℕ, suc, zero, ◌+◌, ◌*◌, Bool, true, false, cond, ◌&&◌, List, [], ◌∷◌, leb, ltb, eqb, ℤ, pos, ◌-ℤ◌, is_some, length, get_or, take, drop}
use Rattle.std.specs.declared.option.Option as read
use Rattle.std.specs.declared.option.Option.TheVariants.{Some, None}
use Rattle.std.proofs.Math.Option
use Rattle.std.proofs.Math.Option.{Option, none, some}
use Rattle.codelist.specs.declared.Codelist.{Codelist}
use Rattle.codelist.specs.declared.Entry.{Entry}
use Rattle.codelist.specs.declared.Op.{Op}
use Rattle.codelist.specs.declared.Op.TheVariants.{Add, Mul, AddC, MulC, Pow, Inv}
use Rattle.codelist.specs.declared.Year.{Year}
use Rattle.codelist.specs.declared.Year.TheVariants.{Y2016, Y2014}
use Rattle.exact.specs.Units.{limit}
use Rattle.codelist.specs.Codelist.{well_formed_op}
use Rattle.codelist.specs.Load.{empty, codelist_of}
use Rattle.encoding.specs.Bytes.{are_bytes, are_zero, number_of}
use Rattle.encoding.specs.declared.Front.{Front}

-- The first eight bytes, and the zeros behind the last operation
abbrev pub counts_fit : ℕ → ℕ → Bool
counts_fit factors count = leb 1 factors && leb factors 8 && leb 1 count && leb (factors + count) 64

abbrev pub is_year : ℕ → Bool
is_year b = leb b 1

abbrev pub year_of_byte : ℕ → Year
year_of_byte b = cond (eqb b 0) Y2016 Y2014

abbrev pub is_head : List ℕ → Bool
is_head b =
    eqb (length b) 512 && are_bytes b && counts_fit (get_or b 0 0) (get_or b 1 0) && is_year (get_or b 2 0)
    && are_zero (take 5 (drop 3 b)) && are_zero (drop (8 + 8 * get_or b 1 0) b)

abbrev pub at_front : List ℕ → Front
at_front b = record { factors = get_or b 0 0; count = get_or b 1 0; year = year_of_byte (get_or b 2 0) }

unfoldable pub head_of : List ℕ → read.Option Front
head_of b = cond (is_head b) (Some (at_front b)) None

-- An operation of its eight bytes: kind, i, j or m, a zero, and the number u of the last four
abbrev pub given : Bool → Op → read.Option Op
given t o = cond t (Some o) None

abbrev pub constant_of : ℕ → ℤ
constant_of u = pos u -ℤ pos limit

unfoldable pub formed : ℕ → ℕ → ℕ → ℕ → ℕ → read.Option Op
formed kind i j z u =
    cond (eqb kind 1) (given (eqb z 0 && eqb u 0) (Add i j))
    (cond (eqb kind 2) (given (eqb z 0 && eqb u 0) (Mul i j))
    (cond (eqb kind 3) (given (eqb z 0 && eqb j 0) (AddC i (constant_of u)))
    (cond (eqb kind 4) (given (eqb z 0 && eqb j 0) (MulC i (constant_of u)))
    (cond (eqb kind 5) (given (eqb z 0 && eqb u 0) (Pow i j))
    (cond (eqb kind 6) (given (eqb z 0 && eqb j 0 && eqb u 0) (Inv i)) None)))))

unfoldable pub operation : List ℕ → read.Option Op
operation s = formed (get_or s 0 0) (get_or s 1 0) (get_or s 2 0) (get_or s 3 0) (number_of (take 4 (drop 4 s)))

-- The operation at k, with e codelist lines before it: it is well formed
abbrev pub fitting : ℕ → read.Option Op → read.Option Op
fitting e (Some o) = given (well_formed_op e o) o
fitting e None = None

unfoldable pub op_at : List ℕ → ℕ → ℕ → read.Option Op
op_at b k e = cond (eqb (length b) 512 && ltb k 63) (fitting e (operation (drop (8 + 8 * k) b))) None

-- So many operations from k on, the first with e codelist lines before it
abbrev pub on_op : read.Option Op → (Op → Option (List Entry)) → Option (List Entry)
on_op (Some o) f = f o
on_op None f = none

abbrev pub before : Op → Option (List Entry) → Option (List Entry)
before o (some xs) = some (record { op = o } ∷ xs)
before o none = none

unfoldable pub ops_from : List ℕ → ℕ → ℕ → ℕ → Option (List Entry)
ops_from b e k zero = some []
ops_from b e k (suc m) = on_op (op_at b k e) (λ o. before o (ops_from b (e + 1) (k + 1) m))

-- Whether so many operations from k on are well formed
unfoldable pub are_ops : List ℕ → ℕ → ℕ → ℕ → Bool
are_ops b e k zero = true
are_ops b e k (suc m) = is_some (op_at b k e) && are_ops b (e + 1) (k + 1) m

-- BYTES AS A CODELIST
abbrev pub on_head : read.Option Front → (Front → Option Codelist) → Option Codelist
on_head (Some h) f = f h
on_head None f = none

abbrev pub holding : Year → ℕ → Option (List Entry) → Option Codelist
holding year factors (some xs) = some (codelist_of year factors xs)
holding year factors none = none

unfoldable pub decoded : List ℕ → Option Codelist
decoded b = on_head (head_of b) (λ h. holding h.year h.factors (ops_from b h.factors 0 h.count))

-- The codelist that lent bytes hold: the empty one, which rates as 10, where they hold none
unfoldable pub lent_codelist : List ℕ → Codelist
lent_codelist b = Option.get_or (decoded b) empty

-- Whether they hold one
abbrev pub held : Option Codelist → Bool
held (some c) = true
held none = false

unfoldable pub holds_codelist : List ℕ → Bool
holds_codelist b = held (decoded b)
