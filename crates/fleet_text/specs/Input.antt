-- What the program `fleet` reads: a sheet, a line `boats`, and one line a boat of eight numerals parted by tabs; each line ends with byte 10.
-- The sheet ends before the first line `boats` that has its byte 10; without one all is sheet. docs/DECISIONS.md, "The fleet page".
use Rattle.std.specs.Prelude.{true, cond, List, [], ◌∷◌, ◌++◌, ℕ, suc, zero, leb, ltb, ℤ, length}
use Rattle.std.proofs.Math.Option.{Option, none, some}
use Rattle.codelist.specs.declared.Numeral.{Numeral}
use Rattle.codelist.specs.Load.{value_of}
use Rattle.codelist.specs.Read.{Read, good, bad, field}
use Rattle.text.specs.Input.{sheet_length, sheet_of, after_line, at_end}

-- the word of the parting line
abbrev pub boats : List ℕ
boats = 98 ∷ 111 ∷ 97 ∷ 116 ∷ 115 ∷ []

-- The byte after a numeral with so many more in its line: a tab (byte 9), and after the last the line's end
abbrev pub byte_after : ℕ → ℕ
byte_after zero = 10
byte_after (suc k) = 9

-- What a numeral leads to
abbrev pub on_numeral : Read Numeral → (ℤ → List ℕ → Read (List ℤ)) → Read (List ℤ)
on_numeral (good w s) f = f (value_of w) s
on_numeral bad f = bad

-- The numbers of a line: xs, and so many more
unfoldable pub numbers : ℕ → List ℤ → List ℕ → Read (List ℤ)
numbers zero xs s = good xs s
numbers (suc k) xs s = on_numeral (field (byte_after k) s) (λ x t. numbers k (xs ++ (x ∷ [])) t)

-- What a boat's line leads to
abbrev pub on_boat : Read (List ℤ) → (List ℤ → List ℕ → Option (List (List ℤ))) → Option (List (List ℤ))
on_boat (good b s) f = f b s
on_boat bad f = none

-- The boats bs, and those of the lines, of at most so many more: none where a line has another form, or where there are more
unfoldable pub boat_lines : ℕ → List (List ℤ) → List ℕ → Option (List (List ℤ))
boat_lines zero bs s = at_end s (some bs) none
boat_lines (suc k) bs s = at_end s (some bs) (on_boat (numbers 8 [] s) (λ b t. boat_lines k (bs ++ (b ∷ [])) t))

-- What the text s has before its line `boats`
abbrev pub sheet_in : List ℕ → List ℕ
sheet_in s = sheet_of boats s

-- THE BOATS of the text s, at most 1,000 of them: none where there is no line `boats`, where a line has another form, where there are more,
-- or where the text has more than 102,400 bytes
unfoldable pub boats_in : List ℕ → Option (List (List ℤ))
boats_in s =
    cond (leb (length s) 102400) (cond (ltb (sheet_length boats true s) (length s)) (boat_lines 1000 [] (after_line boats s)) none) none
