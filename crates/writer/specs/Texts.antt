-- The texts that the writer's functions put: a number in decimal, and lines of one or two of them after a word. A tab is byte 9 (shown → in
-- 01); every line ends with byte 10.
use Rattle.std.specs.Prelude.{List, [], ◌∷◌, ◌++◌, ℕ, suc, ℤ, pos, negsuc}
use Rattle.codelist.specs.Text.{decimal}

-- a number: every one of 64 bits has at most 20 digits; below 10 ^ 10 they are `decimal 9`, as in a sheet (proofs/Digits: `decimal-few`)
abbrev pub natural_text : ℕ → List ℕ
natural_text m = decimal 19 m

-- with a minus sign (byte 45) where it is negative
abbrev pub whole_text : ℤ → List ℕ
whole_text (pos m) = natural_text m
whole_text (negsuc m) = 45 ∷ natural_text (suc m)

-- lines of a word, with the tab after it, and one number; one with its sign; a number and a text
abbrev pub line_of_one : List ℕ → ℕ → List ℕ
line_of_one w n = w ++ (natural_text n ++ (10 ∷ []))

abbrev pub line_of_whole : List ℕ → ℤ → List ℕ
line_of_whole w x = w ++ (whole_text x ++ (10 ∷ []))

abbrev pub line_of_two : List ℕ → ℕ → List ℕ → List ℕ
line_of_two w n t = w ++ (natural_text n ++ (9 ∷ (t ++ (10 ∷ []))))

-- THE TEXT OF A REFUSAL: 01, "A refusal prints `refused→number→place`."
abbrev pub refused→ : List ℕ
refused→ = 114 ∷ 101 ∷ 102 ∷ 117 ∷ 115 ∷ 101 ∷ 100 ∷ 9 ∷ []

unfoldable pub refused_text : ℕ → ℕ → List ℕ
refused_text number place = line_of_two refused→ number (natural_text place)
