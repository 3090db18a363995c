-- 02, request 14, "How near the edge is a class?": "report the smallest widening of one range's high end, 1 to 100 units, after which plain rating is refused
-- or the value's high end passes the ceiling". Factors are counted from 1.
use Rattle.std.specs.Prelude.{Bool, true, ◌&&◌, cond, List, [], ◌∷◌, ◌++◌, ◌⊎◌, ◌≡◌, ℕ, zero, suc, ◌*◌, ◌-◌, ℤ, pos, ◌+ℤ◌, get_or, set, ◌<ℤ◌}
use Rattle.std.proofs.Math.Option.{Option, none, some}
use Rattle.std.specs.declared.option.Option as option
use Rattle.std.specs.declared.option.Option.TheVariants as option_case
use Rattle.std.specs.declared.result.Result.{Result}
use Rattle.std.specs.declared.result.Result.TheVariants.{Ok, Err}
use Rattle.std.specs.Int.Signed.{le_z, lt_z}
use Rattle.codelist.specs.declared.Codelist.{Codelist}
use Rattle.range.specs.declared.Range.{Range}
use Rattle.range.specs.Limit.{most, least}
use Rattle.rules.specs.declared.Refusal as rules
use Rattle.rules.specs.InFull as rating
use Rattle.rules.specs.declared.Limits.{Limits}
use Rattle.rules.specs.Rate as Rate
use Rattle.rules.specs.Rate.{rated, refused, rate_of}
use Rattle.engine.specs.declared.Engine.{Engine}
use Rattle.margin.specs.declared.Widening.{Widening}
use Rattle.margin.specs.declared.Refusal.{Refusal}
use Rattle.margin.specs.declared.Refusal.TheVariants as refusal
use Rattle.margin.specs.InFull.{Edge, Widen, Nowhere, Refused}

-- ════ a widening ════

-- where the high end of factor i stands among the numbers, counted from 0
abbrev pub high_at : ℕ → ℕ
high_at i = 2 * i - 1

-- "widening of one range's high end": the numbers xs with w units added to the high end of factor i
unfoldable pub wider : List ℤ → ℕ → ℕ → List ℤ
wider xs i w = set xs (high_at i) (get_or xs (high_at i) (pos 0) +ℤ pos w)

-- "after which plain rating is refused or the value's high end passes the ceiling": reaching it does not. An end beyond the limit is refused with 9, so that "A
-- widening that passes the limit counts as refused" needs no rule of its own (`counts-limit`)
abbrev pub Moves : Codelist → List ℤ → ℤ → ℕ → ℕ → Type 0
Moves c xs ceiling i w =
    ((r : rules.Refusal) × (rate_of c (wider xs i w) ≡ refused r))
    ⊎ ((l : Limits) × ((rate_of c (wider xs i w) ≡ rated l) × (ceiling <ℤ l.value.high)))

-- the same, decided
abbrev pub passes : rating.Outcome → Range → ℤ → Bool
passes (rating.Refused r) v ceiling = true
passes rating.Rated v ceiling = lt_z ceiling v.high

unfoldable pub moves : Codelist → List ℤ → ℤ → ℕ → ℕ → Bool
moves c xs ceiling i w = let x = rate_of c (wider xs i w) in passes x.outcome x.limits.value ceiling

-- ════ the search ════

-- the pairs of the widening w with k factors, of which i is the first
unfoldable pub row : ℕ → ℕ → ℕ → List (ℕ × ℕ)
row w i zero = []
row w i (suc k) = (w, i) ∷ row w (suc i) k

-- of k widenings, of which w is the first, with each of n factors
unfoldable pub rows : ℕ → ℕ → ℕ → List (ℕ × ℕ)
rows n w zero = []
rows n w (suc k) = row w 1 n ++ rows n (suc w) k

-- "1 to 100 units"
abbrev pub most_units : ℕ
most_units = 100

-- "the smallest widening .. with the lowest factor on equal widening": the widenings 1 to 100, and for each the factors 1 to n
unfoldable pub candidates : ℕ → List (ℕ × ℕ)
candidates n = rows n 1 most_units

-- the first that passes a test
unfoldable pub first_that : (ℕ → ℕ → Bool) → List (ℕ × ℕ) → Option (ℕ × ℕ)
first_that P [] = none
first_that P (p ∷ ps) = cond (P p.1 p.0) (some p) (first_that P ps)

-- ""None" is reported only if no factor and no widening up to 100 does so"
abbrev pub found : Option (ℕ × ℕ) → Edge
found none = Nowhere
found (some p) = Widen p.1 p.0

-- THE NEAREST EDGE, of accepted ranges
unfoldable pub edge_of : Codelist → List ℤ → ℤ → Edge
edge_of c xs ceiling = found (first_that (moves c xs ceiling) (candidates c.factors))

-- ════ the call ════

-- "22 with place 0"; the others are those of rating
abbrev pub number_of : Refusal → ℕ
number_of (refusal.Rate r) = Rate.number_of r
number_of refusal.Ceiling = 22

abbrev pub place_of : Refusal → ℕ
place_of (refusal.Rate r) = Rate.place_of r
place_of refusal.Ceiling = 0

-- the numbers in the order in which they are tested: "Ranges refused by themselves get their own refusal first"
abbrev pub edge_numbers : List ℕ
edge_numbers = 10 ∷ 8 ∷ 9 ∷ 11 ∷ 12 ∷ 22 ∷ []

-- "A ceiling beyond the limit or below the present high end then gets 22", of the value v
abbrev pub is_ceiling : Range → ℤ → Bool
is_ceiling v ceiling = le_z least ceiling && le_z ceiling most && le_z v.high ceiling

-- what the rating of the ranges themselves leads to
abbrev pub after_rating : rating.Outcome → Range → ℤ → Edge → Edge
after_rating (rating.Refused r) v ceiling edge = Refused (refusal.Rate r)
after_rating rating.Rated v ceiling edge = cond (is_ceiling v ceiling) edge (Refused refusal.Ceiling)

-- THE CALL: plain rating throughout
unfoldable pub edge_for : Engine → List ℤ → ℤ → Edge
edge_for e xs ceiling =
    let c = e.codelist in
    let x = rate_of c xs in
    after_rating x.outcome x.limits.value ceiling (edge_of c xs ceiling)

-- the code's answer in full
abbrev pub in_full : Result (option.Option Widening) Refusal → Edge
in_full (Ok (option_case.Some w)) = Widen w.factor w.units
in_full (Ok option_case.None) = Nowhere
in_full (Err r) = Refused r

-- An answer in four numbers: "A refusal carries number and place, every other field is 0" (01); four zeros where there is no edge
pub record Fields : Type 0 where
  pub number : ℕ
  pub place : ℕ
  pub factor : ℕ
  pub units : ℕ

abbrev pub fields_of : Edge → Fields
fields_of (Widen i w) = record { number = 0; place = 0; factor = i; units = w }
fields_of Nowhere = record { number = 0; place = 0; factor = 0; units = 0 }
fields_of (Refused r) = record { number = number_of r; place = place_of r; factor = 0; units = 0 }
