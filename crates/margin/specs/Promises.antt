-- What is promised of the nearest edge: proved in proofs/NearestEdge.antt.
use Rattle.std.specs.Prelude.{true, ◌↔◌, ◌⊎◌, ◌≡◌, ℕ, ◌≤◌, ◌<◌, ℤ, pos, ◌+ℤ◌, ◌<ℤ◌}
use mathlib.Core.List.{List, Memᴰ}
use Rattle.std.proofs.Math.Option.{some}
use Rattle.codelist.specs.declared.Codelist.{Codelist}
use Rattle.exact.specs.Rat.{◌≤ℚ◌}
use Rattle.exact.specs.Units.{units}
use Rattle.range.specs.Limit.{most, least}
use Rattle.rules.specs.declared.Refusal as rules
use Rattle.rules.specs.Exact.{Point, Jet, premium_of}
use Rattle.rules.specs.Promises.{Inside}
use Rattle.rules.specs.Refused.{RefusedFor, range_of}
use Rattle.engine.specs.declared.Engine.{Engine}
use Rattle.engine.specs.InFull.{Accepted}
use Rattle.engine.specs.Engine.{rated_of}
use Rattle.margin.specs.declared.Refusal.{Refusal}
use Rattle.margin.specs.declared.Refusal.TheVariants.{Rate, Ceiling}
use Rattle.margin.specs.InFull.{Edge, Widen, Nowhere, Refused}
use Rattle.margin.specs.Edge.{wider, Moves, moves, most_units, number_of, place_of, edge_numbers, edge_for, fields_of}

-- ════ what is asked ════

-- a ceiling that is turned down, where the value's high end is now `high`: "beyond the limit or below the present high end"
abbrev pub BadCeiling : ℤ → ℤ → Type 0
BadCeiling high ceiling = (ceiling <ℤ least) ⊎ ((most <ℤ ceiling) ⊎ (ceiling <ℤ high))

-- "For accepted ranges and a ceiling in units at or above the value's high end"
pub record Asked (e : Engine) (xs : List ℤ) (ceiling : ℤ) : Type 0 where
  pub accepted : (rated_of e xs).outcome ≡ Accepted
  pub good : ¬ (BadCeiling (rated_of e xs).limits.value.high ceiling)

abbrev pub Factor : Codelist → ℕ → Type 0
Factor c i = (1 ≤ i) × (i ≤ c.factors)

-- ════ the first that moves ════

-- u units at factor a come before w units at factor i: fewer, or as many at a lower factor
abbrev pub Before : ℕ → ℕ → ℕ → ℕ → Type 0
Before u a w i = (u < w) ⊎ ((u ≡ w) × (a < i))

-- "the smallest widening .. 1 to 100 units .. with the lowest factor on equal widening": w units at factor i
pub record Smallest (c : Codelist) (xs : List ℤ) (ceiling : ℤ) (i w : ℕ) : Type 0 where
  pub factor : Factor c i
  pub units : (1 ≤ w) × (w ≤ most_units)
  pub moves : Moves c xs ceiling i w
  pub before : (u a : ℕ) → Factor c a → 1 ≤ u → Before u a w i → ¬ (Moves c xs ceiling a u)

-- "no factor and no widening up to 100 does so"
abbrev pub NoneMoves : Codelist → List ℤ → ℤ → Type 0
NoneMoves c xs ceiling = (i w : ℕ) → Factor c i → 1 ≤ w → w ≤ most_units → ¬ (Moves c xs ceiling i w)

-- ════ refusals ════

-- what each refusal is for
abbrev pub EdgeRefusedFor : Engine → List ℤ → ℤ → Refusal → Type 0
EdgeRefusedFor e xs ceiling (Rate r) = RefusedFor e.codelist xs r
EdgeRefusedFor e xs ceiling Ceiling = ((rated_of e xs).outcome ≡ Accepted) × BadCeiling (rated_of e xs).limits.value.high ceiling

-- refused with the number k at the place p
pub record RefusedWith (x : Edge) (k p : ℕ) : Type 0 where
  pub refusal : Refusal
  pub refused : x ≡ Refused refusal
  pub number : number_of refusal ≡ k
  pub place : place_of refusal ≡ p

-- the number and the place of each
pub data EdgeTable (e : Engine) (xs : List ℤ) (ceiling : ℤ) : ℕ → ℕ → Type 0 where
  no-codelist : EdgeRefusedFor e xs ceiling (Rate rules.TheVariants.NoCodelist) → EdgeTable e xs ceiling 10 0
  count : EdgeRefusedFor e xs ceiling (Rate rules.TheVariants.RangeCount) → EdgeTable e xs ceiling 8 0
  range : {factor : ℕ} → EdgeRefusedFor e xs ceiling (Rate (rules.TheVariants.BadRange factor)) → EdgeTable e xs ceiling 9 factor
  divisor : {line : ℕ} → EdgeRefusedFor e xs ceiling (Rate (rules.TheVariants.Divisor line)) → EdgeTable e xs ceiling 11 line
  overflow : {line : ℕ} → EdgeRefusedFor e xs ceiling (Rate (rules.TheVariants.Overflow line)) → EdgeTable e xs ceiling 12 line
  ceiling : EdgeRefusedFor e xs ceiling Ceiling → EdgeTable e xs ceiling 22 0

-- ════ ALL OF IT ════

-- the widenings, of any one factor, that an answer leaves free: those of fewer units, or all of 0 to 100
abbrev pub Free : Edge → ℕ → Type 0
Free (Widen i w) u = u < w
Free Nowhere u = u ≤ most_units
Free (Refused r) u = ⊥

pub record NearestEdge : Type 0 where
  -- the test is what it decides
  pub moves-iff : (c : Codelist) (xs : List ℤ) (ceiling : ℤ) (i w : ℕ) → (moves c xs ceiling i w ≡ true) ↔ Moves c xs ceiling i w
  -- what each answer says
  pub widen-iff : (e : Engine) (xs : List ℤ) (ceiling : ℤ) → Asked e xs ceiling → (i w : ℕ)
      → (edge_for e xs ceiling ≡ Widen i w) ↔ Smallest e.codelist xs ceiling i w
  pub nowhere-iff : (e : Engine) (xs : List ℤ) (ceiling : ℤ) → Asked e xs ceiling → (edge_for e xs ceiling ≡ Nowhere) ↔ NoneMoves e.codelist xs ceiling
  pub refused-listed : (e : Engine) (xs : List ℤ) (ceiling : ℤ) (r : Refusal) → (edge_for e xs ceiling ≡ Refused r) ↔ EdgeRefusedFor e xs ceiling r
  -- the same by the refusals' numbers and places
  pub table : (e : Engine) (xs : List ℤ) (ceiling : ℤ) (k p : ℕ) → RefusedWith (edge_for e xs ceiling) k p ↔ EdgeTable e xs ceiling k p
  pub numbers : (e : Engine) (xs : List ℤ) (ceiling : ℤ) (r : Refusal) → edge_for e xs ceiling ≡ Refused r → Memᴰ (number_of r) edge_numbers
  -- one of the three, whatever is asked; and what is asked well is not refused
  pub decided : (e : Engine) (xs : List ℤ) (ceiling : ℤ)
      → ((i : ℕ) × ((w : ℕ) × (edge_for e xs ceiling ≡ Widen i w)))
      ⊎ ((edge_for e xs ceiling ≡ Nowhere) ⊎ ((r : Refusal) × (edge_for e xs ceiling ≡ Refused r)))
  pub asked : (e : Engine) (xs : List ℤ) (ceiling : ℤ) → Asked e xs ceiling ↔ ((r : Refusal) → ¬ (edge_for e xs ceiling ≡ Refused r))
  -- a wider range moves where a narrower one does
  pub monotone : (e : Engine) (xs : List ℤ) (ceiling : ℤ) → (rated_of e xs).outcome ≡ Accepted → (i w u : ℕ) → Factor e.codelist i
      → Moves e.codelist xs ceiling i w → w ≤ u → Moves e.codelist xs ceiling i u
  -- WHAT IT IS FOR: no boat of a class that is widened by less has a premium above the ceiling, or none
  pub holds : (e : Engine) (xs : List ℤ) (ceiling : ℤ) (a u : ℕ) → Factor e.codelist a → Free (edge_for e xs ceiling) u
      → (p : Point) → Inside e.codelist (wider xs a u) p
      → (premium : Jet) × ((premium_of e.codelist p ≡ some premium) × (premium.value ≤ℚ units ceiling))
  -- "A widening that passes the limit counts as refused."
  pub counts-limit : (e : Engine) (xs : List ℤ) (ceiling : ℤ) → (rated_of e xs).outcome ≡ Accepted → (i w : ℕ) → Factor e.codelist i
      → most <ℤ ((range_of xs i).high +ℤ pos w) → Moves e.codelist xs ceiling i w
  -- two answers that are not the same differ in a field, whatever was asked
  pub one_answer : (e f : Engine) (xs ys : List ℤ) (k l : ℤ) → fields_of (edge_for e xs k) ≡ fields_of (edge_for f ys l) → edge_for e xs k ≡ edge_for f ys l
