-- The buyer's three demands, class by class: what `Demands` of the engine says holds of each class, 21 comes before everything else, and a refusal leaves all
-- four classes as they were. Statements; the proof is in proofs/Demands.antt. Every call has an outcome for every value of its parameters, since those of
-- specs/Calls.antt are functions and the contracts are equations with no condition.
use Rattle.std.specs.Prelude.{true, false, ◌↔◌, ◌⊎◌, ◌≡◌, ℕ, ℤ, pos}
use mathlib.Core.List.{List, Memᴰ}
use Rattle.std.proofs.Math.Option.{some}
use Rattle.codelist.specs.declared.Codelist.{Codelist}
use Rattle.codelist.specs.declared.Year.TheVariants.{Y2016, Y2014}
use Rattle.codelist.specs.declared.Refusal as codelist
use Rattle.codelist.specs.Codelist.{WellFormed}
use Rattle.codelist.specs.Load.{load_numbers, accepted, load_of}
use Rattle.codelist.specs.Refused.{RefusedFor}
use Rattle.codelist.specs.Write.{IsText}
use Rattle.rules.specs.declared.Refusal as rules
use Rattle.rules.specs.declared.Refusal.TheVariants.{NoCodelist}
use Rattle.rules.specs.Rate.{rate_numbers, no_limits}
use Rattle.rules.specs.Published.{published_of, PublishedLines}
use Rattle.rules.specs.Exact.{Point, Jet, premium_of}
use Rattle.rules.specs.Refused as Rules
use Rattle.rules.specs.Promises.{Inside, Sound, Vanishing, Shaped}
use Rattle.rules.specs.Years.{Nested, AllBent}
use Rattle.rules.specs.Sisters.{Sisters}
use Rattle.formulas.specs.declared.Refusal.TheVariants.{Text, Constants}
use Rattle.formulas.specs.Grammar.{Tree, Writes}
use Rattle.formulas.specs.Viable.{Fails}
use Rattle.formulas.specs.Value.{value_of, premium_value}
use Rattle.formulas.specs.Convert.{Mixes, Bare}
use Rattle.formulas.specs.Load.{formula_numbers}
use Rattle.formulas.specs.Exactly.{Spells, Becomes}
use Rattle.engine.specs.declared.Refusal as engine
use Rattle.engine.specs.Engine.{as_rating}
use Rattle.engine.specs.Refusals.{LoadTable, FormulaTable, RateTable}
use Rattle.boats.specs.Fleet.{fleet_of, fleet_of_numbers, no_report}
use Rattle.bisection.specs.Cut.{cut_of}
use Rattle.increments.specs.Call.{sisters_of}
use Rattle.classes.specs.declared.Classes.{Classes}
use Rattle.classes.specs.declared.Refusal.{Refusal}
use Rattle.classes.specs.declared.Refusal.TheVariants.{Engine}
use Rattle.classes.specs.InFull.{Outcome, Accepted, Refused}
use Rattle.classes.specs.Classes.{is_class, empty_classes, engine_at, codelist_at}
use Rattle.classes.specs.Calls.{number_of, place_of, class_load_numbers, class_formula_numbers, class_rate_numbers, class_cut_numbers, class_fleet_numbers}
use Rattle.classes.specs.Calls.{rating_of, cut_rating_of, page_of, difference_of}
use Rattle.classes.specs.Calls.{class_loaded, class_formula, class_rated, class_cut, class_fleet, class_fleet_of_numbers, class_sisters}

-- the whole result, or one refusal
abbrev pub Decided : Outcome → Type 0
Decided o = (o ≡ Accepted) ⊎ ((r : Refusal) × (o ≡ Refused r))

-- refused with the number n at the place p
pub record RefusedWith (o : Outcome) (n p : ℕ) : Type 0 where
  pub refusal : Refusal
  pub refused : o ≡ Refused refusal
  pub number : number_of refusal ≡ n
  pub place : place_of refusal ≡ p

-- ════ of one class: the fields of the engine's `Demands`, by their names and in their order ════

pub record ClassMeets (d : Classes) (k : ℕ) : Type 0 where
  -- 1. "gets the whole result or one numbered refusal of paper 01 with its place"
  pub load-decided : (s : List ℕ) → Decided (class_loaded d k s).outcome
  pub rate-decided : (xs : List ℤ) → Decided (class_rated d k xs).outcome
  pub load-numbers : (s : List ℕ) (r : Refusal) → (class_loaded d k s).outcome ≡ Refused r → Memᴰ (number_of r) load_numbers
  pub rate-numbers : (xs : List ℤ) (r : Refusal) → (class_rated d k xs).outcome ≡ Refused r → Memᴰ (number_of r) rate_numbers
  -- "After a refusal every result field is 0 and the desk holds what it held."
  pub load_kept : (s : List ℕ) (r : Refusal) → (class_loaded d k s).outcome ≡ Refused r → (class_loaded d k s).classes ≡ d
  pub rate-zero : (xs : List ℤ) (r : Refusal) → (class_rated d k xs).outcome ≡ Refused r → (class_rated d k xs).limits ≡ no_limits
  -- 2. "A sheet is accepted only if 01's rules write it, and always then."
  pub accepted-written : (s : List ℕ) → ((class_loaded d k s).outcome ≡ Accepted) ↔ ((c : Codelist) × (WellFormed c × IsText c s))
  pub loaded-written : (s : List ℕ) → (class_loaded d k s).outcome ≡ Accepted
      → WellFormed (codelist_at (class_loaded d k s).classes k) × IsText (codelist_at (class_loaded d k s).classes k) s
  -- each number and place exactly where 01's tables have it, and the same by the enums
  pub load-table : (s : List ℕ) (n p : ℕ) → RefusedWith (class_loaded d k s).outcome n p ↔ LoadTable s n p
  pub rate-table : (xs : List ℤ) (n p : ℕ) → RefusedWith (class_rated d k xs).outcome n p ↔ RateTable (codelist_at d k) xs n p
  pub refused-listed : (s : List ℕ) (r : codelist.Refusal)
      → ((class_loaded d k s).outcome ≡ Refused (Engine (engine.TheVariants.Load r))) ↔ RefusedFor s r
  pub rate-refused-listed : (xs : List ℤ) (r : rules.Refusal)
      → ((class_rated d k xs).outcome ≡ Refused (Engine (engine.TheVariants.Rate r))) ↔ Rules.RefusedFor (codelist_at d k) xs r
  -- "Every bound, set and refusal equals what the published Hessian eigenvalue arithmetic yields under 01's rules and outward rounding"
  pub published : (xs : List ℤ) → class_rated d k xs ≡ rating_of (as_rating (published_of (codelist_at d k) xs))
  pub published-lines : (xs : List ℤ) → (class_rated d k xs).outcome ≡ Accepted → PublishedLines (codelist_at d k) xs (class_rated d k xs).limits
  -- "Refusal 10 now means an empty class": one that was not loaded gets it, one that an accepted load left never
  pub empty-refused : (xs : List ℤ) → (class_rated empty_classes k xs).outcome ≡ Refused (Engine (engine.TheVariants.Rate NoCodelist))
  pub loaded-not-empty : (s : List ℕ) (xs : List ℤ) → (class_loaded d k s).outcome ≡ Accepted
      → ¬ ((class_rated (class_loaded d k s).classes k xs).outcome ≡ Refused (Engine (engine.TheVariants.Rate NoCodelist)))
  -- pairs beyond the last factor, empty sets, and the two years
  pub shaped : (xs : List ℤ) → (class_rated d k xs).outcome ≡ Accepted → Shaped (codelist_at d k) (class_rated d k xs).limits
  pub nested : (xs : List ℤ) → (codelist_at d k).year ≡ Y2016 → (class_rated d k xs).outcome ≡ Accepted → Nested (class_rated d k xs).limits
  pub all-bent : (xs : List ℤ) → (codelist_at d k).year ≡ Y2014 → (class_rated d k xs).outcome ≡ Accepted
      → AllBent (codelist_at d k) (class_rated d k xs).limits
  -- 3. "Whatever accepted sheet and ranges, whatever point with fractions as coordinates inside them, whatever list v of whole numbers"
  pub sound : (xs : List ℤ) → (class_rated d k xs).outcome ≡ Accepted → (p : Point) → Inside (codelist_at d k) xs p
      → Sound (codelist_at d k) (class_rated d k xs).limits p
  -- two boats of the class (02, request 7)
  pub sisters : (xs : List ℤ) → (class_rated d k xs).outcome ≡ Accepted → (p q : Point) → Inside (codelist_at d k) xs p → Inside (codelist_at d k) xs q
      → Sisters (codelist_at d k) (class_rated d k xs).limits p q
  pub vanishing : (xs : List ℤ) → (class_rated d k xs).outcome ≡ Accepted → (p : Point) (premium : Jet)
      → premium_of (codelist_at d k) p ≡ some premium → Vanishing (class_rated d k xs).limits premium
  -- formulas (02, request 12), by the three demands
  pub formula-decided : (s : List ℕ) (n : ℕ) → Decided (class_formula d k s n).outcome
  pub formula-numbers : (s : List ℕ) (n : ℕ) (r : Refusal) → (class_formula d k s n).outcome ≡ Refused r → Memᴰ (number_of r) formula_numbers
  pub formula-kept : (s : List ℕ) (n : ℕ) (r : Refusal) → (class_formula d k s n).outcome ≡ Refused r → (class_formula d k s n).classes ≡ d
  pub formula-loaded : (s : List ℕ) (n : ℕ) (x : List ℕ) → Becomes s n x → class_formula d k s n ≡ class_loaded d k x
  pub formula-accepted : (s : List ℕ) (n : ℕ)
      → ((class_formula d k s n).outcome ≡ Accepted) ↔ ((x : List ℕ) × (Becomes s n x × ((c : Codelist) × (load_of x ≡ accepted c))))
  pub formula-table : (s : List ℕ) (n number place : ℕ) → RefusedWith (class_formula d k s n).outcome number place ↔ FormulaTable s n number place
  pub formula-text : (s : List ℕ) (n p : ℕ) → ((class_formula d k s n).outcome ≡ Refused (Engine (engine.TheVariants.Formula (Text p)))) ↔ Fails s p
  pub formula-constants : (s : List ℕ) (n : ℕ)
      → ((class_formula d k s n).outcome ≡ Refused (Engine (engine.TheVariants.Formula Constants))) ↔ ((t : Tree) × (Spells t s × (Mixes t ⊎ Bare t)))
  pub formula-refused : (s : List ℕ) (n : ℕ) (r : codelist.Refusal)
      → ((class_formula d k s n).outcome ≡ Refused (Engine (engine.TheVariants.Load r))) ↔ ((x : List ℕ) × (Becomes s n x × RefusedFor x r))
  pub formula-premium : (s : List ℕ) (n : ℕ) (t : Tree) → (class_formula d k s n).outcome ≡ Accepted → Writes t s
      → (p : Point) → premium_value (premium_of (codelist_at (class_formula d k s n).classes k) p) ≡ value_of t p

-- ════ of all numbers ════

-- 21 at 0, exactly for a number that is no class's
abbrev pub UnknownClass : ℕ → Outcome → Type 0
UnknownClass k o = RefusedWith o 21 0 ↔ (is_class k ≡ false)

pub record ClassDemands : Type 0 where
  -- each class has what the engine has
  pub meets : (d : Classes) (k : ℕ) → is_class k ≡ true → ClassMeets d k
  -- the outcome of each further call is the engine's: so what is promised of that holds class by class
  pub cut : (d : Classes) (k : ℕ) (xs : List ℤ) (depth : ℤ) → is_class k ≡ true → class_cut d k xs depth ≡ cut_rating_of (cut_of (engine_at d k) xs depth)
  pub fleet : (d : Classes) (k : ℕ) (bs : List (List ℤ)) → is_class k ≡ true → class_fleet d k bs ≡ page_of (fleet_of (engine_at d k) bs)
  pub fleet-of-numbers : (d : Classes) (k : ℕ) (xs : List ℤ) → is_class k ≡ true → class_fleet_of_numbers d k xs ≡ page_of (fleet_of_numbers (engine_at d k) xs)
  pub sisters : (d : Classes) (k : ℕ) (xs bs : List ℤ) → is_class k ≡ true → class_sisters d k xs bs ≡ difference_of (sisters_of (engine_at d k) xs bs)
  -- "a class number outside 1 to 4 gets 21 with place 0, before everything else"
  pub unknown-load : (d : Classes) (k : ℕ) (s : List ℕ) → UnknownClass k (class_loaded d k s).outcome
  pub unknown-formula : (d : Classes) (k : ℕ) (s : List ℕ) (n : ℕ) → UnknownClass k (class_formula d k s n).outcome
  pub unknown-rate : (d : Classes) (k : ℕ) (xs : List ℤ) → UnknownClass k (class_rated d k xs).outcome
  pub unknown-cut : (d : Classes) (k : ℕ) (xs : List ℤ) (depth : ℤ) → UnknownClass k (class_cut d k xs depth).outcome
  pub unknown-fleet : (d : Classes) (k : ℕ) (bs : List (List ℤ)) → UnknownClass k (class_fleet d k bs).outcome
  pub unknown-fleet-of-numbers : (d : Classes) (k : ℕ) (xs : List ℤ) → UnknownClass k (class_fleet_of_numbers d k xs).outcome
  pub unknown-sisters : (d : Classes) (k : ℕ) (xs bs : List ℤ) → UnknownClass k (class_sisters d k xs bs).outcome
  -- the numbers of each call, whatever the class number
  pub load-numbers : (d : Classes) (k : ℕ) (s : List ℕ) (r : Refusal) → (class_loaded d k s).outcome ≡ Refused r → Memᴰ (number_of r) class_load_numbers
  pub formula-numbers : (d : Classes) (k : ℕ) (s : List ℕ) (n : ℕ) (r : Refusal) → (class_formula d k s n).outcome ≡ Refused r
      → Memᴰ (number_of r) class_formula_numbers
  pub rate-numbers : (d : Classes) (k : ℕ) (xs : List ℤ) (r : Refusal) → (class_rated d k xs).outcome ≡ Refused r → Memᴰ (number_of r) class_rate_numbers
  pub cut-numbers : (d : Classes) (k : ℕ) (xs : List ℤ) (depth : ℤ) (r : Refusal) → (class_cut d k xs depth).outcome ≡ Refused r
      → Memᴰ (number_of r) class_cut_numbers
  pub fleet-numbers : (d : Classes) (k : ℕ) (bs : List (List ℤ)) (r : Refusal) → (class_fleet d k bs).outcome ≡ Refused r
      → Memᴰ (number_of r) class_fleet_numbers
  pub fleet-of-numbers-numbers : (d : Classes) (k : ℕ) (xs : List ℤ) (r : Refusal) → (class_fleet_of_numbers d k xs).outcome ≡ Refused r
      → Memᴰ (number_of r) class_fleet_numbers
  pub sisters-numbers : (d : Classes) (k : ℕ) (xs bs : List ℤ) (r : Refusal) → (class_sisters d k xs bs).outcome ≡ Refused r
      → Memᴰ (number_of r) class_rate_numbers
  -- "After a refusal every result field is 0 and the desk holds what it held": all four classes, whatever the class number
  pub load_kept : (d : Classes) (k : ℕ) (s : List ℕ) (r : Refusal) → (class_loaded d k s).outcome ≡ Refused r → (class_loaded d k s).classes ≡ d
  pub formula-kept : (d : Classes) (k : ℕ) (s : List ℕ) (n : ℕ) (r : Refusal) → (class_formula d k s n).outcome ≡ Refused r → (class_formula d k s n).classes ≡ d
  pub rate-zero : (d : Classes) (k : ℕ) (xs : List ℤ) (r : Refusal) → (class_rated d k xs).outcome ≡ Refused r → (class_rated d k xs).limits ≡ no_limits
  pub cut-zero : (d : Classes) (k : ℕ) (xs : List ℤ) (depth : ℤ) (r : Refusal) → (class_cut d k xs depth).outcome ≡ Refused r
      → (class_cut d k xs depth).limits ≡ no_limits
  pub fleet-zero : (d : Classes) (k : ℕ) (bs : List (List ℤ)) (r : Refusal) → (class_fleet d k bs).outcome ≡ Refused r → (class_fleet d k bs).report ≡ no_report
  pub fleet-of-numbers-zero : (d : Classes) (k : ℕ) (xs : List ℤ) (r : Refusal) → (class_fleet_of_numbers d k xs).outcome ≡ Refused r
      → (class_fleet_of_numbers d k xs).report ≡ no_report
  pub sisters-zero : (d : Classes) (k : ℕ) (xs bs : List ℤ) (r : Refusal) → (class_sisters d k xs bs).outcome ≡ Refused r
      → ((class_sisters d k xs bs).low ≡ pos 0) × ((class_sisters d k xs bs).high ≡ pos 0)
