-- What the program `fleet` prints. A tab is byte 9; every line ends with byte 10.
use Rattle.std.specs.Prelude.{List, [], ◌∷◌, ◌++◌, ℕ}
use Rattle.writer.specs.Texts.{line_of_one, line_of_whole, refused_text}
use Rattle.boats.specs.InFull.{Counted}
use Rattle.boats.specs.InFull.{Outcome}
use Rattle.boats.specs.InFull.{Reported, Refused}
use Rattle.boats.specs.declared.Refusal.{Refusal}
use Rattle.boats.specs.declared.Report.{Report}
use Rattle.boats.specs.Fleet.{number_of, place_of}

-- ════ the words, each with its tab ════

abbrev pub boats→ : List ℕ
boats→ = 98 ∷ 111 ∷ 97 ∷ 116 ∷ 115 ∷ 9 ∷ []

abbrev pub accepted→ : List ℕ
accepted→ = 97 ∷ 99 ∷ 99 ∷ 101 ∷ 112 ∷ 116 ∷ 101 ∷ 100 ∷ 9 ∷ []

abbrev pub range→ : List ℕ
range→ = 114 ∷ 97 ∷ 110 ∷ 103 ∷ 101 ∷ 9 ∷ []

abbrev pub divisor→ : List ℕ
divisor→ = 100 ∷ 105 ∷ 118 ∷ 105 ∷ 115 ∷ 111 ∷ 114 ∷ 9 ∷ []

abbrev pub limit→ : List ℕ
limit→ = 108 ∷ 105 ∷ 109 ∷ 105 ∷ 116 ∷ 9 ∷ []

abbrev pub low→ : List ℕ
low→ = 108 ∷ 111 ∷ 119 ∷ 9 ∷ []

abbrev pub high→ : List ℕ
high→ = 104 ∷ 105 ∷ 103 ∷ 104 ∷ 9 ∷ []

abbrev pub greatest→ : List ℕ
greatest→ = 103 ∷ 114 ∷ 101 ∷ 97 ∷ 116 ∷ 101 ∷ 115 ∷ 116 ∷ 9 ∷ []

-- ════ the texts ════

-- `boats→k`, `accepted→k`, `range→k`, `divisor→k`, `limit→k`
unfoldable pub count_lines : ℕ → Report → List ℕ
count_lines k r =
    line_of_one boats→ k
    ++ (line_of_one accepted→ r.accepted ++ (line_of_one range→ r.range ++ (line_of_one divisor→ r.divisor ++ line_of_one limit→ r.limit)))

-- `low→sum`, `high→sum`, `greatest→position`
unfoldable pub sum_lines : Report → List ℕ
sum_lines r = line_of_whole low→ r.low ++ (line_of_whole high→ r.high ++ line_of_one greatest→ r.greatest)

-- THE TEXT OF A REPORT of so many boats
unfoldable pub report_text : ℕ → Report → List ℕ
report_text k r = count_lines k r ++ sum_lines r

-- THE TEXT OF A REFUSAL: the writer's
unfoldable pub refusal_text : Refusal → List ℕ
refusal_text r = refused_text (number_of r) (place_of r)

-- the text of an answer for so many boats
abbrev pub outcome_text : ℕ → Outcome → Report → List ℕ
outcome_text k Reported r = report_text k r
outcome_text k (Refused why) r = refusal_text why

abbrev pub counted_text : ℕ → Counted → List ℕ
counted_text k c = outcome_text k c.outcome c.report
