-- The classes don't touch. 02, request 13: "Loading one class, accepted or refused, leaves the other three and every result for them as they were." Statements;
-- the proof is in proofs/Apart.antt.
use Rattle.std.specs.Prelude.{true, false, cond, List, [], ◌∷◌, ◌≡◌, ℕ, eqb, ℤ}
use Rattle.codelist.specs.declared.Codelist.{Codelist}
use Rattle.codelist.specs.InFull.{Loaded}
use Rattle.codelist.specs.InFull as loading
use Rattle.codelist.specs.Load as Load
use Rattle.formulas.specs.Load.{Given, given, refused, formula_of}
use Rattle.classes.specs.declared.Classes.{Classes}
use Rattle.classes.specs.InFull.{ClassLoading}
use Rattle.classes.specs.Classes.{is_class, empty_classes, engine_at, codelist_at}
use Rattle.classes.specs.Calls.{class_loaded, class_formula, class_rated, class_cut, class_fleet, class_fleet_of_numbers, class_sisters}

-- ════ loads ════

-- A load of a class: of a sheet's bytes, or of a formula's text with its factor count
pub data ClassLoad : Type 0 where
  sheet : ℕ → List ℕ → ClassLoad
  formula : ℕ → List ℕ → ℕ → ClassLoad

abbrev pub class_of : ClassLoad → ℕ
class_of (sheet k s) = k
class_of (formula k s n) = k

abbrev pub loaded_by : Classes → ClassLoad → ClassLoading
loaded_by d (sheet k s) = class_loaded d k s
loaded_by d (formula k s n) = class_formula d k s n

-- the classes after it, and after one load after another
abbrev pub after : Classes → ClassLoad → Classes
after d l = (loaded_by d l).classes

unfoldable pub after_all : Classes → List ClassLoad → Classes
after_all d [] = d
after_all d (l ∷ ls) = after_all (after d l) ls

-- ════ what a list of loads leaves ════

-- the codelist of an accepted load before others
abbrev pub accepted_before : loading.Outcome → Codelist → List Codelist → List Codelist
accepted_before loading.Accepted c cs = c ∷ cs
accepted_before (loading.Refused r) c cs = cs

abbrev pub given_before : Given Loaded → List Codelist → List Codelist
given_before (given l) cs = accepted_before l.outcome l.codelist cs
given_before (refused r) cs = cs

abbrev pub left_before : ClassLoad → List Codelist → List Codelist
left_before (sheet k s) cs = accepted_before (Load.load_of s).outcome (Load.load_of s).codelist cs
left_before (formula k s n) cs = given_before (formula_of s n) cs

-- the codelists of the accepted loads of class j, in order: of their texts alone
unfoldable pub accepted_of : ℕ → List ClassLoad → List Codelist
accepted_of j [] = []
accepted_of j (l ∷ ls) = cond (eqb (class_of l) j) (left_before l (accepted_of j ls)) (accepted_of j ls)

-- the last of them, or c where there is none
unfoldable pub last_or : Codelist → List Codelist → Codelist
last_or c [] = c
last_or c (x ∷ xs) = last_or x xs

-- ════ the promises ════

-- every result for class j is what it was
pub record SameFor (j : ℕ) (d f : Classes) : Type 0 where
  pub engine : engine_at f j ≡ engine_at d j
  pub load : (s : List ℕ) → (class_loaded f j s).outcome ≡ (class_loaded d j s).outcome
  pub load-left : (s : List ℕ) → engine_at (class_loaded f j s).classes j ≡ engine_at (class_loaded d j s).classes j
  pub formula : (s : List ℕ) (n : ℕ) → (class_formula f j s n).outcome ≡ (class_formula d j s n).outcome
  pub formula-left : (s : List ℕ) (n : ℕ) → engine_at (class_formula f j s n).classes j ≡ engine_at (class_formula d j s n).classes j
  pub rate : (xs : List ℤ) → class_rated f j xs ≡ class_rated d j xs
  pub cut : (xs : List ℤ) (depth : ℤ) → class_cut f j xs depth ≡ class_cut d j xs depth
  pub fleet : (bs : List (List ℤ)) → class_fleet f j bs ≡ class_fleet d j bs
  pub fleet-of-numbers : (xs : List ℤ) → class_fleet_of_numbers f j xs ≡ class_fleet_of_numbers d j xs
  pub sisters : (xs bs : List ℤ) → class_sisters f j xs bs ≡ class_sisters d j xs bs

pub record Apart : Type 0 where
  -- "Loading one class, accepted or refused, leaves the other three and every result for them as they were."
  pub others : (d : Classes) (l : ClassLoad) (j : ℕ) → ¬ (j ≡ class_of l) → SameFor j d (after d l)
  -- so the loads of two classes can change places
  pub exchanged : (d : Classes) (l m : ClassLoad) → ¬ (class_of l ≡ class_of m) → after (after d l) m ≡ after (after d m) l
  -- a number that is no class's changes nothing at all
  pub unknown : (d : Classes) (l : ClassLoad) → is_class (class_of l) ≡ false → after d l ≡ d
  -- after any list of loads a class holds the codelist of the last accepted load among its own, and the empty one where there is none
  pub history : (ls : List ClassLoad) (j : ℕ) → is_class j ≡ true → codelist_at (after_all empty_classes ls) j ≡ last_or Load.empty (accepted_of j ls)
  -- so it does not matter in which order classes are loaded: lists with the same accepted loads of each class, in their order, leave the same
  pub any_order : (ls ms : List ClassLoad) → ((j : ℕ) → is_class j ≡ true → accepted_of j ls ≡ accepted_of j ms)
      → after_all empty_classes ls ≡ after_all empty_classes ms
