-- 02, request 11: "Swapping the two references of any `add` or `mul` changes no field of any result, and no number or place of a refusal", of the calls by
-- class number. Statements; the proof is in proofs/Exchange.antt.
use Rattle.std.specs.Prelude.{true, List, ◌≡◌, ℕ, ℤ}
use Rattle.codelist.specs.Exchange.{ExchangedText}
use Rattle.engine.specs.Exchange.{ExchangedEngine}
use Rattle.classes.specs.declared.Classes.{Classes}
use Rattle.classes.specs.Classes.{is_class, engine_at}
use Rattle.classes.specs.Calls.{class_loaded, class_rated, class_cut, class_fleet, class_fleet_of_numbers, class_sisters}

-- classes whose codelists differ, class by class, in swapped references alone
abbrev pub ExchangedClasses : Classes → Classes → Type 0
ExchangedClasses d f = (k : ℕ) → is_class k ≡ true → ExchangedEngine (engine_at d k) (engine_at f k)

pub record ExchangeClassCalls : Type 0 where
  -- the same outcome, and such classes again
  pub load : (d f : Classes) (k : ℕ) (s t : List ℕ) → ExchangedClasses d f → ExchangedText s t → (class_loaded d k s).outcome ≡ (class_loaded f k t).outcome
  pub load-left : (d f : Classes) (k : ℕ) (s t : List ℕ) → ExchangedClasses d f → ExchangedText s t
      → ExchangedClasses (class_loaded d k s).classes (class_loaded f k t).classes
  -- the same answer
  pub rate : (d f : Classes) (k : ℕ) (xs : List ℤ) → ExchangedClasses d f → class_rated d k xs ≡ class_rated f k xs
  pub cut : (d f : Classes) (k : ℕ) (xs : List ℤ) (depth : ℤ) → ExchangedClasses d f → class_cut d k xs depth ≡ class_cut f k xs depth
  pub fleet : (d f : Classes) (k : ℕ) (bs : List (List ℤ)) → ExchangedClasses d f → class_fleet d k bs ≡ class_fleet f k bs
  pub fleet-of-numbers : (d f : Classes) (k : ℕ) (xs : List ℤ) → ExchangedClasses d f → class_fleet_of_numbers d k xs ≡ class_fleet_of_numbers f k xs
  pub sisters : (d f : Classes) (k : ℕ) (xs bs : List ℤ) → ExchangedClasses d f → class_sisters d k xs bs ≡ class_sisters f k xs bs
