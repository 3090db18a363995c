-- The buyer's three demands, of what `load`, `load_formula` and `rate` give: proved in proofs/Demands.antt. Every call has an outcome for every value of
-- its parameters, since `loaded_of`, `formula_loaded_of` and `rated_of` are functions and the contracts are equations with no condition.
use Rattle.std.specs.Prelude.{◌≡◌, ◌↔◌, ◌⊎◌, ℕ, ℤ}
use mathlib.Core.List.{List, Memᴰ}
use Rattle.std.proofs.Math.Option.{some}
use Rattle.codelist.specs.declared.Codelist.{Codelist}
use Rattle.codelist.specs.declared.Year.TheVariants.{Y2016, Y2014}
use Rattle.codelist.specs.declared.Refusal as codelist
use Rattle.codelist.specs.Codelist.{WellFormed}
use Rattle.codelist.specs.Load.{load_numbers, accepted, load_of}
use Rattle.codelist.specs.Refused.{RefusedFor}
use Rattle.codelist.specs.Write.{IsText}
use Rattle.rules.specs.declared.Refusal.TheVariants.{NoCodelist}
use Rattle.rules.specs.Rate.{rate_numbers, no_limits}
use Rattle.rules.specs.Published.{published_of, PublishedLines}
use Rattle.rules.specs.Exact.{Point, Jet, premium_of}
use Rattle.rules.specs.declared.Refusal as rules
use Rattle.rules.specs.Refused as Rules
use Rattle.rules.specs.Promises.{Inside, Sound, Vanishing, Shaped}
use Rattle.rules.specs.Years.{Nested, AllBent}
use Rattle.rules.specs.Sisters.{Sisters}
use Rattle.formulas.specs.declared.Refusal.TheVariants.{Text, Constants}
use Rattle.formulas.specs.Grammar.{Tree, Writes}
use Rattle.formulas.specs.Viable.{Fails}
use Rattle.formulas.specs.Value.{value_of, premium_value}
use Rattle.formulas.specs.Convert.{Mixes, Bare}
use Rattle.formulas.specs.Load.{formula_numbers}
use Rattle.formulas.specs.Exactly.{Spells, Becomes}
use Rattle.engine.specs.declared.Engine.{Engine}
use Rattle.engine.specs.declared.Refusal as refusal
use Rattle.engine.specs.declared.Refusal.{Refusal}
use Rattle.engine.specs.InFull.{Accepted, Refused}
use Rattle.engine.specs.Engine.{number_of, empty_engine, loaded_of, formula_loaded_of, as_rating, rated_of}
use Rattle.engine.specs.Refusals.{RefusedWith, LoadTable, FormulaTable, RateTable}

pub record Demands : Type 0 where
  -- 1. "gets the whole result or one numbered refusal of paper 01 with its place"
  pub load-decided : (e : Engine) (s : List ℕ) → ((loaded_of e s).outcome ≡ Accepted) ⊎ ((r : Refusal) × ((loaded_of e s).outcome ≡ Refused r))
  pub rate-decided : (e : Engine) (xs : List ℤ) → ((rated_of e xs).outcome ≡ Accepted) ⊎ ((r : Refusal) × ((rated_of e xs).outcome ≡ Refused r))
  -- the numbers are those of loading, and of rating
  pub load-numbers : (e : Engine) (s : List ℕ) (r : Refusal) → (loaded_of e s).outcome ≡ Refused r → Memᴰ (number_of r) load_numbers
  pub rate-numbers : (e : Engine) (xs : List ℤ) (r : Refusal) → (rated_of e xs).outcome ≡ Refused r → Memᴰ (number_of r) rate_numbers
  -- "After a refusal every result field is 0 and the desk holds what it held."
  pub load_kept : (e : Engine) (s : List ℕ) (r : Refusal) → (loaded_of e s).outcome ≡ Refused r → (loaded_of e s).engine ≡ e
  pub rate-zero : (e : Engine) (xs : List ℤ) (r : Refusal) → (rated_of e xs).outcome ≡ Refused r → (rated_of e xs).limits ≡ no_limits
  -- 2. "A sheet is accepted only if 01's rules write it, and always then."
  pub accepted-written : (e : Engine) (s : List ℕ)
      → ((loaded_of e s).outcome ≡ Accepted) ↔ ((c : Codelist) × (WellFormed c × IsText c s))
  -- what is loaded is what the text writes
  pub loaded-written : (e : Engine) (s : List ℕ) → (loaded_of e s).outcome ≡ Accepted
      → WellFormed (loaded_of e s).engine.codelist × IsText (loaded_of e s).engine.codelist s
  -- "refusal": each number and place of loading is given exactly where 01's table has it of the bytes, and each of rating exactly where it has it
  -- of the codelist and the numbers
  pub load-table : (e : Engine) (s : List ℕ) (k p : ℕ) → RefusedWith (loaded_of e s).outcome k p ↔ LoadTable s k p
  pub rate-table : (e : Engine) (xs : List ℤ) (k p : ℕ) → RefusedWith (rated_of e xs).outcome k p ↔ RateTable e.codelist xs k p
  -- the same by the enums: each refusal of loading says of the bytes what 01's table says
  pub refused-listed : (e : Engine) (s : List ℕ) (r : codelist.Refusal)
      → ((loaded_of e s).outcome ≡ Refused (refusal.TheVariants.Load r)) ↔ RefusedFor s r
  -- and so does each refusal of rating of the codelist and the numbers
  pub rate-refused-listed : (e : Engine) (xs : List ℤ) (r : rules.Refusal)
      → ((rated_of e xs).outcome ≡ Refused (refusal.TheVariants.Rate r)) ↔ Rules.RefusedFor e.codelist xs r
  -- "Every bound, set and refusal equals what the published Hessian eigenvalue arithmetic yields under 01's rules and outward rounding": of every
  -- engine and all numbers, and, of accepted ranges, line by line
  pub published : (e : Engine) (xs : List ℤ) → rated_of e xs ≡ as_rating (published_of e.codelist xs)
  pub published-lines : (e : Engine) (xs : List ℤ) → (rated_of e xs).outcome ≡ Accepted → PublishedLines e.codelist xs (rated_of e xs).limits
  -- an engine that was started and not loaded is refused with 10, and one that an accepted load left never is
  pub empty-refused : (xs : List ℤ) → (rated_of empty_engine xs).outcome ≡ Refused (refusal.TheVariants.Rate NoCodelist)
  pub loaded-not-empty : (e : Engine) (s : List ℕ) (xs : List ℤ) → (loaded_of e s).outcome ≡ Accepted
      → ¬ ((rated_of (loaded_of e s).engine xs).outcome ≡ Refused (refusal.TheVariants.Rate NoCodelist))
  -- "a pair beyond the last factor is 0, 0", and "For an empty B, E is zero"; both sets hold factors of the codelist; in 2016 the bent set is within
  -- the depends-on set, and in 2014 it is all factors
  pub shaped : (e : Engine) (xs : List ℤ) → (rated_of e xs).outcome ≡ Accepted → Shaped e.codelist (rated_of e xs).limits
  pub nested : (e : Engine) (xs : List ℤ) → e.codelist.year ≡ Y2016 → (rated_of e xs).outcome ≡ Accepted → Nested (rated_of e xs).limits
  pub all-bent : (e : Engine) (xs : List ℤ) → e.codelist.year ≡ Y2014 → (rated_of e xs).outcome ≡ Accepted
      → AllBent e.codelist (rated_of e xs).limits
  -- 3. "Whatever accepted sheet and ranges, whatever point with fractions as coordinates inside them, whatever list v of whole numbers"
  pub sound : (e : Engine) (xs : List ℤ) → (rated_of e xs).outcome ≡ Accepted → (p : Point) → Inside e.codelist xs p
      → Sound e.codelist (rated_of e xs).limits p
  -- 02, request 7: "For two boats with fractions as factor values, both inside accepted ranges of one class, the exact difference of their
  -- premiums lies between the sum of the least and the sum of the greatest products of each slope's ends with that factor's difference."
  pub sisters : (e : Engine) (xs : List ℤ) → (rated_of e xs).outcome ≡ Accepted
      → (p q : Point) → Inside e.codelist xs p → Inside e.codelist xs q → Sisters e.codelist (rated_of e xs).limits p q
  -- "Outside P the exact first derivative is 0; outside B every exact second derivative with that factor is 0": at every point that has a premium
  pub vanishing : (e : Engine) (xs : List ℤ) → (rated_of e xs).outcome ≡ Accepted → (p : Point) (premium : Jet)
      → premium_of e.codelist p ≡ some premium → Vanishing (rated_of e xs).limits premium
  -- 02, request 12, loading a formula. 1. An accepted load or one numbered refusal, of 19, 20 and loading's, after which the engine is as it was
  pub formula-decided : (e : Engine) (s : List ℕ) (k : ℕ)
      → ((formula_loaded_of e s k).outcome ≡ Accepted) ⊎ ((r : Refusal) × ((formula_loaded_of e s k).outcome ≡ Refused r))
  pub formula-numbers : (e : Engine) (s : List ℕ) (k : ℕ) (r : Refusal) → (formula_loaded_of e s k).outcome ≡ Refused r
      → Memᴰ (number_of r) formula_numbers
  pub formula-kept : (e : Engine) (s : List ℕ) (k : ℕ) (r : Refusal) → (formula_loaded_of e s k).outcome ≡ Refused r → (formula_loaded_of e s k).engine ≡ e
  -- 2. "The resulting sheet is loaded as any other, in the same call"
  pub formula-loaded : (e : Engine) (s : List ℕ) (k : ℕ) (x : List ℕ) → Becomes s k x → formula_loaded_of e s k ≡ loaded_of e x
  -- accepted exactly where the text is a formula that becomes a sheet, and loading accepts that
  pub formula-accepted : (e : Engine) (s : List ℕ) (k : ℕ)
      → ((formula_loaded_of e s k).outcome ≡ Accepted) ↔ ((x : List ℕ) × (Becomes s k x × ((c : Codelist) × (load_of x ≡ accepted c))))
  -- each number and place exactly where the tables have it, and the same by the enums: 19 by the grammar, 20 by its condition on the formula, any other
  -- by the sheet's own
  pub formula-table : (e : Engine) (s : List ℕ) (k number place : ℕ) → RefusedWith (formula_loaded_of e s k).outcome number place ↔ FormulaTable s k number place
  pub formula-text : (e : Engine) (s : List ℕ) (k p : ℕ) → ((formula_loaded_of e s k).outcome ≡ Refused (refusal.TheVariants.Formula (Text p))) ↔ Fails s p
  pub formula-constants : (e : Engine) (s : List ℕ) (k : ℕ)
      → ((formula_loaded_of e s k).outcome ≡ Refused (refusal.TheVariants.Formula Constants)) ↔ ((t : Tree) × (Spells t s × (Mixes t ⊎ Bare t)))
  pub formula-refused : (e : Engine) (s : List ℕ) (k : ℕ) (r : codelist.Refusal)
      → ((formula_loaded_of e s k).outcome ≡ Refused (refusal.TheVariants.Load r)) ↔ ((x : List ℕ) × (Becomes s k x × RefusedFor x r))
  -- 3. "Wherever the formula is defined, the sheet's exact premium equals it", and where it is not, there is none; so what is said of the premium above
  -- is said of the formula
  pub formula-premium : (e : Engine) (s : List ℕ) (k : ℕ) (t : Tree) → (formula_loaded_of e s k).outcome ≡ Accepted → Writes t s
      → (p : Point) → premium_value (premium_of (formula_loaded_of e s k).engine.codelist p) ≡ value_of t p
