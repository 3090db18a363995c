-- What the program `cut` reads: a first line `depth→d`, d a numeral, and after it what the program `rate` reads. docs/DECISIONS.md, "Classes cut finer".
use Rattle.std.specs.Prelude.{cond, List, [], ◌∷◌, ℕ, suc, eqb, ℤ, negsuc, drop}
use Rattle.codelist.specs.declared.Numeral.{Numeral}
use Rattle.codelist.specs.Load.{value_of}
use Rattle.codelist.specs.Read.{Read, good, bad, next, field, literal}

-- the first line's word, with its tab
abbrev pub depth→ : List ℕ
depth→ = 100 ∷ 101 ∷ 112 ∷ 116 ∷ 104 ∷ 9 ∷ []

-- the line `depth→d`
unfoldable pub depth_line : List ℕ → Read Numeral
depth_line s = next (literal depth→ s) (λ _ t. field 10 t)

-- a first line of another form counts as a depth outside 0 to 6
abbrev pub depth_of : Read Numeral → ℤ
depth_of (good d s) = value_of d
depth_of bad = negsuc 0

-- THE DEPTH of the text s
unfoldable pub depth_in : List ℕ → ℤ
depth_in s = depth_of (depth_line s)

-- How many bytes the first line has, its byte 10 among them; without one it has all of them
unfoldable pub first_length : List ℕ → ℕ
first_length [] = 0
first_length (b ∷ s) = cond (eqb b 10) 1 (suc (first_length s))

-- THE INPUT OF `rate` in the text s: what follows the first line
unfoldable pub after_first : List ℕ → List ℕ
after_first s = drop (first_length s) s
