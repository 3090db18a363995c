-- What refusal 12 says: "an end of a range produced by a step below passes the limit". Proved in proofs/Overflow.antt.
use Rattle.std.specs.Prelude.{◌≡◌, Bool, true, false, ◌&&◌, ◌⊎◌, ◌↔◌, ℤ, length, ◌<ℤ◌}
use mathlib.Core.List.{List, [], ◌∷◌, ◌++◌, Memᴰ}
use Rattle.std.specs.Int.Signed.{le_z}
use Rattle.codelist.specs.declared.Op.{Op}
use Rattle.codelist.specs.Codelist.{WellFormedOp}
use Rattle.range.specs.declared.Range.{Range}
use Rattle.range.specs.Limit.{least, most}
use Rattle.rules.specs.declared.Line.{Line}
use Rattle.rules.specs.Formula.{produced}
use Rattle.rules.specs.Table.{Row, eight, line_of}
use Rattle.rules.specs.Run.{row_of, inverts_zero, within}

-- ════ ends that pass the limit ════

-- An end is beyond the limit, of either sign; it may reach it.
abbrev pub Beyond : ℤ → Type 0
Beyond z = (z <ℤ least) ⊎ (most <ℤ z)

-- An end of the range is.
abbrev pub EndBeyond : Range → Type 0
EndBeyond r = Beyond r.low ⊎ Beyond r.high

-- One of the ranges has such an end.
pub record Passing (rs : List Range) : Type 0 where
  pub range : Range
  pub member : Memᴰ range rs
  pub end : EndBeyond range

-- The same, computed. The low end is tested against −limit and the high end against the limit, and no more: that is enough because the ends
-- of every range that a step produces are in order (`in_order` of proofs/Formulas.antt, `passing-iff` of proofs/Passing.antt).
abbrev pub within_limit : Range → Bool
within_limit r = le_z least r.low && le_z r.high most

unfoldable pub all_within : List Range → Bool
all_within [] = true
all_within (r ∷ rs) = within_limit r && all_within rs

-- ════ the steps of a row ════

abbrev pub joined : {A : Type 0} → List (List A) → List A
joined [] = []
joined (x ∷ xs) = x ++ joined xs

-- the ranges that the steps of a row produce, in the arithmetic without a limit
unfoldable pub steps_of : Row → List Range
steps_of r = produced r.value ++ (joined (eight (λ a. produced (r.slope a))) ++ produced r.spectrum)

-- each of the lines is such
pub data AllLines (P : Line → Type 0) : List Line → Type 0 where
  none : AllLines P []
  more : {l : Line} {ls : List Line} → P l → AllLines P ls → AllLines P (l ∷ ls)

-- An operation's line is refused with 12 exactly where an end of a range that one of its steps produces passes the limit: by the test, and by
-- the ends themselves. Before it come lines that are within the limit, and 11 is tested first.
abbrev pub ExactOverflow : Type 0
ExactOverflow =
    (o : Op) (ls : List Line) → WellFormedOp (length ls) o → AllLines (λ l. within l ≡ true) ls → inverts_zero o ls ≡ false
    → within (line_of (row_of o ls)) ≡ all_within (steps_of (row_of o ls))

abbrev pub ExactPassing : Type 0
ExactPassing =
    (o : Op) (ls : List Line) → WellFormedOp (length ls) o → AllLines (λ l. within l ≡ true) ls → inverts_zero o ls ≡ false
    → (within (line_of (row_of o ls)) ≡ false) ↔ Passing (steps_of (row_of o ls))
