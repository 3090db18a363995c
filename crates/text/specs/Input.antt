-- What the program `rate` reads: "a sheet, a line `box`, and one line per factor with low and high, two numerals parted by a tab; each
-- line ends with byte 10. The sheet ends before the first line `box` that has its byte 10; without one all is sheet." 01, end of "Figures
-- to hold it to". The word of the line that parts the input is a parameter, since other programs part theirs by another.
use Rattle.std.specs.Prelude.{Bool, true, ◌&&◌, cond, List, [], ◌∷◌, ◌++◌, ℕ, suc, zero, ◌+◌, eqb, ℤ, length, take, drop}
use Rattle.std.proofs.Math.Option.{Option, none, some}
use Rattle.codelist.specs.declared.Numeral.{Numeral}
use Rattle.codelist.specs.Load.{value_of}
use Rattle.codelist.specs.Read.{Read, good, bad, peek, rest, pair}

-- The word of the line that parts a sheet from the box lines
abbrev pub box : List ℕ
box = 98 ∷ 111 ∷ 120 ∷ []

-- The next bytes are the word w and byte 10. Past the end `peek` gives 256, which is no byte.
unfoldable pub is_line : List ℕ → List ℕ → Bool
is_line [] s = eqb (peek s) 10
is_line (b ∷ w) s = eqb (peek s) b && is_line w (rest s)

-- How many bytes stand before the first line w; `start` says whether the next byte begins a line
unfoldable pub sheet_length : List ℕ → Bool → List ℕ → ℕ
sheet_length w start [] = 0
sheet_length w start (b ∷ s) = cond (start && is_line w (b ∷ s)) 0 (suc (sheet_length w (eqb b 10) s))

unfoldable pub sheet_of : List ℕ → List ℕ → List ℕ
sheet_of w s = take (sheet_length w true s) s

-- What follows the line w and its byte 10: nothing where there is none
unfoldable pub after_line : List ℕ → List ℕ → List ℕ
after_line w s = drop (sheet_length w true s + length w + 1) s

-- What a box line leads to
abbrev pub on_pair : Read (Numeral × Numeral) → (ℤ → ℤ → List ℕ → Option (List ℤ)) → Option (List ℤ)
on_pair (good p s) f = f (value_of p.0) (value_of p.1) s
on_pair bad f = none

-- The first at the end of the text, else the second
abbrev pub at_end : {A : Type 0} → List ℕ → A → A → A
at_end [] x y = x
at_end (b ∷ s) x y = y

-- The numbers of the box lines after the numbers xs, of at most so many lines more: none where a line has another form, or where there
-- are more. So a ninth line is refused here, and any other number of lines that is not the number of factors, 0 among them, by rating
-- (`RangeCount`): both with 8.
unfoldable pub box_lines : ℕ → List ℤ → List ℕ → Option (List ℤ)
box_lines zero xs s = at_end s (some xs) none
box_lines (suc k) xs s = at_end s (some xs) (on_pair (pair s) (λ low high t. box_lines k (xs ++ (low ∷ high ∷ [])) t))
