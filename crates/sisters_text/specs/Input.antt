-- What the program `sisters` reads: `rate`'s input, a line `boats`, and two lines of n numerals parted by tabs, the boats' values in units; each
-- line ends with byte 10. The first line `boats` that has its byte 10 parts the input: what stands before it is `rate`'s input, and what follows
-- it are the boat lines; without one all is `rate`'s input, and there are none. docs/DECISIONS.md, "The sister boats".
use Rattle.std.specs.Prelude.{List, [], ◌∷◌, ◌++◌, ℕ, suc, zero, ℤ}
use Rattle.codelist.specs.Load.{value_of}
use Rattle.codelist.specs.Read.{Read, good, bad, next, field}
use Rattle.text.specs.Input.{at_end}

-- the word of the line that parts the input
abbrev pub boats : List ℕ
boats = 98 ∷ 111 ∷ 97 ∷ 116 ∷ 115 ∷ []

-- The byte after a numeral with so many more in its line: a tab (byte 9), and after the last the line's end
abbrev pub byte_after : ℕ → ℕ
byte_after zero = 10
byte_after (suc k) = 9

-- The bytes after the numerals of a line of n
unfoldable pub line_ends : ℕ → List ℕ
line_ends zero = []
line_ends (suc k) = byte_after k ∷ line_ends k

-- and of two such lines
unfoldable pub boat_ends : ℕ → List ℕ
boat_ends n = line_ends n ++ line_ends n

-- Numerals with these bytes after them: the numbers xs, and theirs
unfoldable pub fields : List ℕ → List ℤ → List ℕ → Read (List ℤ)
fields [] xs s = good xs s
fields (e ∷ es) xs s = next (field e s) (λ w t. fields es (xs ++ (value_of w ∷ [])) t)

-- The numbers where nothing is left of the text, else none at all
abbrev pub whole_of : Read (List ℤ) → List ℤ
whole_of (good xs s) = at_end s xs []
whole_of bad = []

-- THE BOATS of the lines s: the n values of the first, then those of the second. Lines of another form or number, or anything after them, count
-- as no numbers at all, so that the call refuses them (8).
unfoldable pub boats_in : ℕ → List ℕ → List ℤ
boats_in n s = whole_of (fields (boat_ends n) [] s)
