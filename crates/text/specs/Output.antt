-- What the program `rate` prints: 01, end of "Figures to hold it to". A tab is byte 9 (shown → in 01); every line ends with byte 10.
use Rattle.std.specs.Prelude.{cond, List, [], ◌∷◌, ◌++◌, ℕ, suc, zero, ℤ, pos, negsuc}
use Rattle.codelist.specs.Text.{decimal}
use Rattle.range.specs.declared.Range.{Range}
use Rattle.range.specs.Sums.{has, at}
use Rattle.rules.specs.declared.Limits.{Limits}
use Rattle.engine.specs.declared.Refusal.{Refusal}
use Rattle.engine.specs.Engine.{number_of, place_of}
use Rattle.writer.specs.Texts.{refused_text}

-- ════ the words ════

abbrev pub value : List ℕ
value = 118 ∷ 97 ∷ 108 ∷ 117 ∷ 101 ∷ []

abbrev pub slope : List ℕ
slope = 115 ∷ 108 ∷ 111 ∷ 112 ∷ 101 ∷ []

abbrev pub depends : List ℕ
depends = 100 ∷ 101 ∷ 112 ∷ 101 ∷ 110 ∷ 100 ∷ 115 ∷ []

abbrev pub bent : List ℕ
bent = 98 ∷ 101 ∷ 110 ∷ 116 ∷ []

abbrev pub bend : List ℕ
bend = 98 ∷ 101 ∷ 110 ∷ 100 ∷ []

abbrev pub full : List ℕ
full = 102 ∷ 117 ∷ 108 ∷ 108 ∷ []

-- ════ fields: a tab, and a number in decimal, with a minus sign (byte 45) where it is negative ════

-- every number of 64 bits has at most 20 digits
unfoldable pub natural_field : ℕ → List ℕ
natural_field m = 9 ∷ decimal 19 m

unfoldable pub whole_field : ℤ → List ℕ
whole_field (pos m) = 9 ∷ decimal 19 m
whole_field (negsuc m) = 9 ∷ 45 ∷ decimal 19 (suc m)

-- ════ lines ════

-- "Value, bend and full carry low and high": what follows the word
unfoldable pub range_fields : Range → List ℕ
range_fields r = whole_field r.low ++ (whole_field r.high ++ (10 ∷ []))

-- "slope, one line per factor, carries the factor first": the slopes of the first n factors
unfoldable pub slope_lines : ℕ → List Range → List ℕ
slope_lines zero g = []
slope_lines (suc a) g = slope_lines a g ++ (slope ++ (natural_field (suc a) ++ range_fields (at g a)))

-- "the sets list factors rising, and an empty set is its word alone": those of the first so many factors that are in the set
unfoldable pub member_fields : ℕ → ℕ → List ℕ
member_fields zero s = []
member_fields (suc a) s = member_fields a s ++ cond (has s a) (natural_field (suc a)) []

unfoldable pub set_fields : ℕ → List ℕ
set_fields s = member_fields 8 s ++ (10 ∷ [])

-- THE TEXT OF A RESULT for n factors
unfoldable pub limits_text : ℕ → Limits → List ℕ
limits_text n l =
    (value ++ range_fields l.value) ++ (slope_lines n l.gradient
    ++ ((depends ++ set_fields l.support) ++ ((bent ++ set_fields l.nonlinear)
    ++ ((bend ++ range_fields l.spectrum) ++ (full ++ range_fields l.full)))))

-- THE TEXT OF A REFUSAL: the writer's, of the refusal's number and place
unfoldable pub refusal_text : Refusal → List ℕ
refusal_text r = refused_text (number_of r) (place_of r)
