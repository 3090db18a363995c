-- 02, request 4: "Length squared times age has a bend we can give more sharply." Where the new rule gives an E at all, it lies inside the one
-- of 01's rule. More can't be asked: where A, B or C passes 1,000,000,000 units 01's rule may give one and the new rule gives none. Proved in
-- proofs/Sharper.antt and proofs/Half.antt.
use Rattle.std.specs.Prelude.{◌≡◌, List, ◌⊎◌, ◌↔◌, ℕ, T, ℤ, pos, negsuc, length, ◌<ℤ◌}
use Rattle.codelist.specs.declared.Codelist.{Codelist}
use Rattle.codelist.specs.Codelist.{Earlier, Ratable}
use Rattle.range.specs.declared.Range.{Range}
use Rattle.range.specs.Limit.{is_valid}
use Rattle.range.specs.Arithmetic.{ends_times}
use Rattle.range.specs.Laws.{◌⊑◌}
use Rattle.rules.specs.declared.Line.{Line}
use Rattle.rules.specs.Formula.{sticky}
use Rattle.rules.specs.Table.{product_spectrum, singles, star_spectrum}
use Rattle.rules.specs.Run.{line, through, lines_of}
use Rattle.rules.specs.Overflow.{EndBeyond}

-- of any two lines of a run that goes through
abbrev pub NeverWider : Type 0
NeverWider =
    (c : Codelist) (rs : List Range) (ls : List Line) → Ratable c → length rs ≡ c.factors → lines_of c rs ≡ through ls
    → (i j : ℕ) → Earlier (length ls) i → Earlier (length ls) j
    → let x = line ls i in
    let y = line ls j in
    T (singles x y) → T (is_valid (sticky (star_spectrum x y))) → sticky (star_spectrum x y) ⊑ sticky (product_spectrum x y)

-- What the rule's test says (`produced` of Formula lists twice A, B and C): "an end of A, B or C passes 1,000,000,000 units, either sign".
abbrev pub BeyondHalf : ℤ → Type 0
BeyondHalf z = (z <ℤ negsuc 999999999) ⊎ (pos 1000000000 <ℤ z)

abbrev pub HalfExactly : Type 0
HalfExactly = (r : Range) → EndBeyond (ends_times 2 r) ↔ (BeyondHalf r.low ⊎ BeyondHalf r.high)
