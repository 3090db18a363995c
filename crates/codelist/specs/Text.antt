-- The forms of a codelist's text lines. 01, "The sheet"; 02, request 9: the year.
use Rattle.std.specs.Prelude.{ℕ, suc, zero, ◌+◌, ◌/◌, ◌%◌, ◌^◌, ◌≤◌, ◌<◌, true, cond, List, [], ◌∷◌, ◌++◌, ◌≡◌, ltb, eqb}
use Rattle.std.proofs.Math.Option.{Option, some, none}
use Rattle.codelist.specs.declared.Numeral.{Numeral}
use Rattle.codelist.specs.declared.Year.{Year}
use Rattle.codelist.specs.declared.Year.TheVariants.{Y2016, Y2014}

-- The words that a line begins with, the tab (byte 9, shown → in 01) after each included
abbrev pub factors→ : List ℕ
factors→ = 102 ∷ 97 ∷ 99 ∷ 116 ∷ 111 ∷ 114 ∷ 115 ∷ 9 ∷ []

abbrev pub add→ : List ℕ
add→ = 97 ∷ 100 ∷ 100 ∷ 9 ∷ []

abbrev pub mul→ : List ℕ
mul→ = 109 ∷ 117 ∷ 108 ∷ 9 ∷ []

abbrev pub addc→ : List ℕ
addc→ = 97 ∷ 100 ∷ 100 ∷ 99 ∷ 9 ∷ []

abbrev pub mulc→ : List ℕ
mulc→ = 109 ∷ 117 ∷ 108 ∷ 99 ∷ 9 ∷ []

abbrev pub pow→ : List ℕ
pow→ = 112 ∷ 111 ∷ 119 ∷ 9 ∷ []

abbrev pub inv→ : List ℕ
inv→ = 105 ∷ 110 ∷ 118 ∷ 9 ∷ []

-- "A numeral is an optional minus sign and 1 to 10 decimal digits, with no leading zero except `0` itself, and no `-0`":
-- the text of a number in decimal, below 10 ^ 10, after a minus sign (byte 45) at will if it is not 0
pub record IsNumeral (w : Numeral) : Type 0 where
  pub few : w.magnitude < 10 ^ 10
  pub some : w.negative ≡ true → 1 ≤ w.magnitude

-- The decimal digits of m, at most k + 1 of them
unfoldable pub decimal : ℕ → ℕ → List ℕ
decimal zero m = (48 + m) ∷ []
decimal (suc k) m = cond (ltb m 10) ((48 + m) ∷ []) (decimal k (m / 10) ++ ((48 + m % 10) ∷ []))

unfoldable pub numeral_text : Numeral → List ℕ
numeral_text w = cond w.negative (45 ∷ decimal 9 w.magnitude) (decimal 9 w.magnitude)

-- "The first line may carry a third field, the year" (02, request 9): it is absent, or a tab and a numeral
pub data YearField : Type 0 where
  absent : YearField
  written : Numeral → YearField

abbrev pub year_text : YearField → List ℕ
year_text absent = []
year_text (written w) = 9 ∷ numeral_text w

-- "Lines of text, each ended by byte 10, fields parted by one tab. The first line is `factors→n`."
abbrev pub first_text : Numeral → YearField → List ℕ
first_text n f = factors→ ++ (numeral_text n ++ (year_text f ++ (10 ∷ [])))

-- The year that a field names: "2016, or absent, means the rules so far; 2014 means source document 001", and "Any other numeral there" names none
unfoldable pub year_of : YearField → Option Year
year_of absent = some Y2016
year_of (written w) =
    cond w.negative none
    (cond (eqb w.magnitude 2016) (some Y2016)
    (cond (eqb w.magnitude 2014) (some Y2014) none))

-- "Then come operation lines: `add→i→j`, `mul→i→j`, `addc→i→c`, `mulc→i→c`, `pow→i→m`, `inv→i`."
pub data TextLine : Type 0 where
  Add Mul AddC MulC Pow : Numeral → Numeral → TextLine
  Inv : Numeral → TextLine

abbrev pub two : List ℕ → Numeral → Numeral → List ℕ
two w i j = w ++ (numeral_text i ++ (9 ∷ (numeral_text j ++ (10 ∷ []))))

abbrev pub line_text : TextLine → List ℕ
line_text (Add i j) = two add→ i j
line_text (Mul i j) = two mul→ i j
line_text (AddC i c) = two addc→ i c
line_text (MulC i c) = two mulc→ i c
line_text (Pow i m) = two pow→ i m
line_text (Inv i) = inv→ ++ (numeral_text i ++ (10 ∷ []))

-- Each number field of a line is a numeral, of any value
abbrev pub HasNumerals : TextLine → Type 0
HasNumerals (Add i j) = IsNumeral i × IsNumeral j
HasNumerals (Mul i j) = IsNumeral i × IsNumeral j
HasNumerals (AddC i c) = IsNumeral i × IsNumeral c
HasNumerals (MulC i c) = IsNumeral i × IsNumeral c
HasNumerals (Pow i m) = IsNumeral i × IsNumeral m
HasNumerals (Inv i) = IsNumeral i

-- The year field, where there is one, is a numeral of any value
abbrev pub HasYear : YearField → Type 0
HasYear absent = Unit
HasYear (written w) = IsNumeral w

-- The text s is a first line with the numeral w and the year field f, and then t
pub record FirstAt (s : List ℕ) (w : Numeral) (f : YearField) (t : List ℕ) : Type 0 where
  pub fine : IsNumeral w
  pub year : HasYear f
  pub text : s ≡ first_text w f ++ t

-- The text s is the operation line l, and then t
pub record LineAt (s : List ℕ) (l : TextLine) (t : List ℕ) : Type 0 where
  pub fine : HasNumerals l
  pub text : s ≡ line_text l ++ t
