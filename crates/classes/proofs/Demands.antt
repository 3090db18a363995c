-- The three demands, class by class: `class-demands`. Each field is the engine's, of the engine of the class. Assumes nothing.
use Prim.Native.Nat.{ℕ}
use mathlib.Core.Bool.{true, cond}
use mathlib.Core.List.{List, ◌∷◌, Memᴰ}
use mathlib.Core.Logic.{◌↔◌, inl, inr}
use mathlib.Core.Path.{◌≡◌, refl, sym, ap, ◌∙◌}
use lib.IntN.{ℤ, pos}
use Rattle.codelist.specs.Load.{load_numbers}
use Rattle.rules.specs.declared.Refusal.TheVariants.{NoCodelist}
use Rattle.rules.specs.Rate.{no_limits, rate_numbers}
use Rattle.formulas.specs.Load.{formula_numbers}
use Rattle.engine.specs.declared.Engine.{Engine}
use Rattle.engine.specs.InFull.{Loading}
use Rattle.engine.specs.InFull as engine-outcome
use Rattle.engine.specs.declared.Refusal as engine
use Rattle.engine.specs.Engine.{loaded_of, formula_loaded_of, rated_of}
use Rattle.engine.proofs.Demands.{demands}
use Rattle.boats.specs.InFull as fleet-outcome
use Rattle.boats.specs.Fleet.{fleet_numbers, no_report, fleet_of, fleet_of_numbers}
use Rattle.boats.proofs.Promises.{fleet-figures}
use Rattle.bisection.specs.Cut.{cut_numbers, cut_of}
use Rattle.bisection.proofs.CutSound.{cut-sound}
use Rattle.increments.specs.Call.{sisters_of}
use Rattle.increments.proofs.Promises.{sisters-call}
use Rattle.classes.specs.declared.Classes.{Classes}
use Rattle.classes.specs.declared.Refusal.{Refusal}
use Rattle.classes.specs.declared.Refusal as refusal
use Rattle.classes.specs.InFull.{Outcome, Accepted, Refused, ClassLoading, ClassRating, ClassFleet, ClassDifference}
use Rattle.classes.specs.Classes.{is_class, empty_classes, engine_at, codelist_at, with_engine}
use Rattle.classes.specs.Calls.{number_of, engine_outcome, cut_outcome, fleet_outcome, loading_of, unknown_loading, rating_of, unknown_rating}
use Rattle.classes.specs.Calls.{cut_rating_of, page_of, unknown_page, difference_of, unknown_difference}
use Rattle.classes.specs.Calls.{class_loaded, class_formula, class_rated, class_cut, class_fleet, class_fleet_of_numbers, class_sisters}
use Rattle.classes.specs.Demands.{Decided, ClassMeets, UnknownClass, ClassDemands}
use Rattle.classes.proofs.Numbers.{empty-at, put_same, put-kept}
use Rattle.classes.proofs.Called.{loaded, formula, rated, cut, fleet, fleet-of-numbers, sisters}
use Rattle.classes.proofs.Outcomes.{was-accepted, was-refused, cut-refused, fleet-refused, refused-with, refused-by, accepted-by}
use Rattle.classes.proofs.Outcomes.{engine-own, cut-own, fleet-own, unknown-if, numbers-if, after-refusal}

-- one condition exactly where another, and that where a third
infixl 20 ◌then◌
◌then◌ : {A B C : Type 0} → A ↔ B → B ↔ C → A ↔ C
f then g = (λ a. g.0 (f.0 a), λ c. f.1 (g.1 c))

decided : (o : engine-outcome.Outcome) → Decided (engine_outcome o)
decided engine-outcome.Accepted = inl refl
decided (engine-outcome.Refused r) = inr (refusal.TheVariants.Engine r, refl)

-- a refused load leaves the engine, and so the classes
left-kept : (d : Classes) (k : ℕ) (l : Loading) → ((q : engine.Refusal) → l.outcome ≡ engine-outcome.Refused q → l.engine ≡ engine_at d k)
    → (r : Refusal) → engine_outcome l.outcome ≡ Refused r → with_engine d k l.engine ≡ d
left-kept d k l kept r h = let w = was-refused l.outcome r h in ap (with_engine d k) (kept w.own w.outcome) ∙ put-kept d k

-- numbers of the engine's calls
engine-numbers : (o : engine-outcome.Outcome) (ns : List ℕ)
    → ((q : engine.Refusal) → o ≡ engine-outcome.Refused q → Memᴰ (number_of (refusal.TheVariants.Engine q)) ns)
    → (r : Refusal) → engine_outcome o ≡ Refused r → Memᴰ (number_of r) ns
engine-numbers o ns n r h = let w = was-refused o r h in rw (← w.is) (n w.own w.outcome)

-- ---- one class
module _ (d : Classes) (k : ℕ) (c : is_class k ≡ true) where
  abbrev e : Engine
  e = engine_at d k

  -- the engine that a load leaves in the class
  left : (x : ClassLoading) (l : Loading) → x ≡ loading_of d k l → engine_at x.classes k ≡ l.engine
  left x l p = ap (λ (y : ClassLoading). engine_at y.classes k) p ∙ put_same d k l.engine c

  accepted : (x : ClassLoading) (l : Loading) → x ≡ loading_of d k l → x.outcome ≡ Accepted → l.outcome ≡ engine-outcome.Accepted
  accepted x l p h = was-accepted l.outcome (sym (ap (λ (y : ClassLoading). y.outcome) p) ∙ h)

  not-empty : (s : List ℕ) (xs : List ℤ) → (class_loaded d k s).outcome ≡ Accepted
      → ¬ ((class_rated (class_loaded d k s).classes k xs).outcome ≡ Refused (refusal.TheVariants.Engine (engine.TheVariants.Rate NoCodelist)))
  not-empty s xs h g =
      let f = (class_loaded d k s).classes in
      let o = ap (λ (r : ClassRating). r.outcome) (rated f k c xs) ∙ ap (λ (x : Engine). engine_outcome (rated_of x xs).outcome) (left (class_loaded d k s) (loaded_of e s) (loaded d k c s)) in
      demands.loaded-not-empty e s xs (accepted (class_loaded d k s) (loaded_of e s) (loaded d k c s) h) ((refused-by _ _).0 (sym o ∙ g))

  meets : ClassMeets d k
  meets = record {
    load-decided = λ s. rw (loaded d k c s) (decided (loaded_of e s).outcome);
    rate-decided = λ xs. rw (rated d k c xs) (decided (rated_of e xs).outcome);
    load-numbers = λ s. rw (loaded d k c s) (engine-numbers (loaded_of e s).outcome load_numbers (demands.load-numbers e s));
    rate-numbers = λ xs. rw (rated d k c xs) (engine-numbers (rated_of e xs).outcome rate_numbers (demands.rate-numbers e xs));
    load_kept = λ s. rw (loaded d k c s) (left-kept d k (loaded_of e s) (demands.load_kept e s));
    rate-zero = λ xs r. rw (rated d k c xs) (λ h. let w = was-refused (rated_of e xs).outcome r h in demands.rate-zero e xs w.own w.outcome);
    accepted-written = λ s. rw (loaded d k c s) (accepted-by (loaded_of e s).outcome then demands.accepted-written e s);
    loaded-written = λ s h. rw (codelist_at, left (class_loaded d k s) (loaded_of e s) (loaded d k c s)) (demands.loaded-written e s (accepted (class_loaded d k s) (loaded_of e s) (loaded d k c s) h));
    load-table = λ s n p. rw (loaded d k c s) (refused-with (loaded_of e s).outcome n p then demands.load-table e s n p);
    rate-table = λ xs n p. rw (rated d k c xs) (refused-with (rated_of e xs).outcome n p then demands.rate-table e xs n p);
    refused-listed = λ s r. rw (loaded d k c s) (refused-by (loaded_of e s).outcome _ then demands.refused-listed e s r);
    rate-refused-listed = λ xs r. rw (rated d k c xs) (refused-by (rated_of e xs).outcome _ then demands.rate-refused-listed e xs r);
    published = λ xs. rated d k c xs ∙ ap rating_of (demands.published e xs);
    published-lines = λ xs. rw (rated d k c xs) (λ h. demands.published-lines e xs (was-accepted _ h));
    empty-refused = λ xs.
        ap (λ (r : ClassRating). r.outcome) (rated empty_classes k c xs) ∙ ap (λ (x : Engine). engine_outcome (rated_of x xs).outcome) (empty-at k)
        ∙ ap engine_outcome (demands.empty-refused xs);
    loaded-not-empty = not-empty;
    shaped = λ xs. rw (rated d k c xs) (λ h. demands.shaped e xs (was-accepted _ h));
    nested = λ xs y. rw (rated d k c xs) (λ h. demands.nested e xs y (was-accepted _ h));
    all-bent = λ xs y. rw (rated d k c xs) (λ h. demands.all-bent e xs y (was-accepted _ h));
    sound = λ xs. rw (rated d k c xs) (λ h. demands.sound e xs (was-accepted _ h));
    sisters = λ xs. rw (rated d k c xs) (λ h. demands.sisters e xs (was-accepted _ h));
    vanishing = λ xs. rw (rated d k c xs) (λ h. demands.vanishing e xs (was-accepted _ h));
    formula-decided = λ s n. rw (formula d k c s n) (decided (formula_loaded_of e s n).outcome);
    formula-numbers = λ s n. rw (formula d k c s n) (engine-numbers (formula_loaded_of e s n).outcome formula_numbers (demands.formula-numbers e s n));
    formula-kept = λ s n. rw (formula d k c s n) (left-kept d k (formula_loaded_of e s n) (demands.formula-kept e s n));
    formula-loaded = λ s n x b. formula d k c s n ∙ ap (loading_of d k) (demands.formula-loaded e s n x b) ∙ sym (loaded d k c x);
    formula-accepted = λ s n. rw (formula d k c s n) (accepted-by (formula_loaded_of e s n).outcome then demands.formula-accepted e s n);
    formula-table = λ s n a b. rw (formula d k c s n) (refused-with (formula_loaded_of e s n).outcome a b then demands.formula-table e s n a b);
    formula-text = λ s n p. rw (formula d k c s n) (refused-by (formula_loaded_of e s n).outcome _ then demands.formula-text e s n p);
    formula-constants = λ s n. rw (formula d k c s n) (refused-by (formula_loaded_of e s n).outcome _ then demands.formula-constants e s n);
    formula-refused = λ s n r. rw (formula d k c s n) (refused-by (formula_loaded_of e s n).outcome _ then demands.formula-refused e s n r);
    formula-premium = λ s n t h. rw (codelist_at, left (class_formula d k s n) (formula_loaded_of e s n) (formula d k c s n)) (demands.formula-premium e s n t (accepted (class_formula d k s n) (formula_loaded_of e s n) (formula d k c s n) h));
  }

-- ---- all numbers
-- the answers of each call where the number is a class's, with what holds of them
module _ (d : Classes) (k : ℕ) where
  abbrev at : Engine
  at = engine_at d k

  cut-numbers : (xs : List ℤ) (n : ℤ) (r : Refusal) → cut_outcome (cut_of at xs n).outcome ≡ Refused r → Memᴰ (number_of r) cut_numbers
  cut-numbers xs n r h = let w = cut-refused (cut_of at xs n).outcome r h in rw (← w.is) (cut-sound.numbers at xs n w.own w.outcome)

  fleet-numbers : (o : fleet-outcome.Outcome) (r : Refusal) → fleet_outcome o ≡ Refused r → Memᴰ (number_of r) fleet_numbers
  fleet-numbers o r h = let w = fleet-refused o r h in rw (← w.is) (fleet-figures.numbers w.own)

  rate-zero : (xs : List ℤ) (r : Refusal) → engine_outcome (rated_of at xs).outcome ≡ Refused r → (rated_of at xs).limits ≡ no_limits
  rate-zero xs r h = let w = was-refused (rated_of at xs).outcome r h in demands.rate-zero at xs w.own w.outcome

  cut-zero : (xs : List ℤ) (n : ℤ) (r : Refusal) → cut_outcome (cut_of at xs n).outcome ≡ Refused r → (cut_of at xs n).limits ≡ no_limits
  cut-zero xs n r h = let w = cut-refused (cut_of at xs n).outcome r h in cut-sound.zero at xs n w.own w.outcome

  fleet-zero : (bs : List (List ℤ)) (r : Refusal) → fleet_outcome (fleet_of at bs).outcome ≡ Refused r → (fleet_of at bs).report ≡ no_report
  fleet-zero bs r h = let w = fleet-refused (fleet_of at bs).outcome r h in fleet-figures.refused-zero at bs w.own w.outcome

  numbers-zero : (xs : List ℤ) (r : Refusal) → fleet_outcome (fleet_of_numbers at xs).outcome ≡ Refused r → (fleet_of_numbers at xs).report ≡ no_report
  numbers-zero xs r h =
      let w = fleet-refused (fleet_of_numbers at xs).outcome r h in fleet-figures.numbers-refused-zero at xs w.own w.outcome

  sisters-zero : (xs bs : List ℤ) (r : Refusal) → engine_outcome (sisters_of at xs bs).outcome ≡ Refused r
      → ((sisters_of at xs bs).low ≡ pos 0) × ((sisters_of at xs bs).high ≡ pos 0)
  sisters-zero xs bs r h = let w = was-refused (sisters_of at xs bs).outcome r h in sisters-call.zero at xs bs w.own w.outcome

-- ---- the outcomes of the answers
abbrev load-outcome : ClassLoading → Outcome
load-outcome x = x.outcome

abbrev rate-outcome : ClassRating → Outcome
rate-outcome x = x.outcome

abbrev fleet-outcome-of : ClassFleet → Outcome
fleet-outcome-of x = x.outcome

abbrev sisters-outcome : ClassDifference → Outcome
sisters-outcome x = x.outcome

-- ---- a load, by what the engine's gives
module _ (d : Classes) (k : ℕ) (l : Loading) where
  load-unknown : UnknownClass k (cond (is_class k) (loading_of d k l) (unknown_loading d)).outcome
  load-unknown = unknown-if load-outcome (loading_of d k l) (unknown_loading d) refl (is_class k) (engine-own l.outcome)

  load-numbered : (ns : List ℕ) → ((q : engine.Refusal) → l.outcome ≡ engine-outcome.Refused q → Memᴰ (number_of (refusal.TheVariants.Engine q)) ns)
      → (r : Refusal) → (cond (is_class k) (loading_of d k l) (unknown_loading d)).outcome ≡ Refused r → Memᴰ (number_of r) (21 ∷ ns)
  load-numbered ns n = numbers-if load-outcome (loading_of d k l) (unknown_loading d) refl (is_class k) ns (engine-numbers l.outcome ns n)

  load-left : ((q : engine.Refusal) → l.outcome ≡ engine-outcome.Refused q → l.engine ≡ engine_at d k)
      → (r : Refusal) → (cond (is_class k) (loading_of d k l) (unknown_loading d)).outcome ≡ Refused r
      → (cond (is_class k) (loading_of d k l) (unknown_loading d)).classes ≡ d
  load-left kept =
      after-refusal load-outcome (loading_of d k l) (unknown_loading d) refl (λ (x : ClassLoading). x.classes) d (is_class k) (left-kept d k l kept) refl

pub class-demands : ClassDemands
unfolding class_loaded class_formula class_rated class_cut class_fleet class_fleet_of_numbers class_sisters
class-demands = record {
  meets = meets;
  cut = λ d k xs n c. cut d k c xs n;
  fleet = λ d k bs c. fleet d k c bs;
  fleet-of-numbers = λ d k xs c. fleet-of-numbers d k c xs;
  sisters = λ d k xs bs c. sisters d k c xs bs;
  unknown-load = λ d k s. load-unknown d k (loaded_of (at d k) s);
  unknown-formula = λ d k s n. load-unknown d k (formula_loaded_of (at d k) s n);
  unknown-rate = λ d k xs. unknown-if rate-outcome (rating_of (rated_of (at d k) xs)) unknown_rating refl (is_class k) (engine-own (rated_of (at d k) xs).outcome);
  unknown-cut = λ d k xs n. unknown-if rate-outcome (cut_rating_of (cut_of (at d k) xs n)) unknown_rating refl (is_class k) (cut-own (cut_of (at d k) xs n).outcome);
  unknown-fleet = λ d k bs. unknown-if fleet-outcome-of (page_of (fleet_of (at d k) bs)) unknown_page refl (is_class k) (fleet-own (fleet_of (at d k) bs).outcome);
  unknown-fleet-of-numbers = λ d k xs.
      unknown-if fleet-outcome-of (page_of (fleet_of_numbers (at d k) xs)) unknown_page refl (is_class k) (fleet-own (fleet_of_numbers (at d k) xs).outcome);
  unknown-sisters = λ d k xs bs.
      unknown-if sisters-outcome (difference_of (sisters_of (at d k) xs bs)) unknown_difference refl (is_class k) (engine-own (sisters_of (at d k) xs bs).outcome);
  load-numbers = λ d k s. load-numbered d k (loaded_of (at d k) s) load_numbers (demands.load-numbers (at d k) s);
  formula-numbers = λ d k s n. load-numbered d k (formula_loaded_of (at d k) s n) formula_numbers (demands.formula-numbers (at d k) s n);
  rate-numbers = λ d k xs.
      numbers-if rate-outcome (rating_of (rated_of (at d k) xs)) unknown_rating refl (is_class k) rate_numbers
      (engine-numbers (rated_of (at d k) xs).outcome rate_numbers (demands.rate-numbers (at d k) xs));
  cut-numbers = λ d k xs n. numbers-if rate-outcome (cut_rating_of (cut_of (at d k) xs n)) unknown_rating refl (is_class k) cut_numbers (cut-numbers d k xs n);
  fleet-numbers = λ d k bs.
      numbers-if fleet-outcome-of (page_of (fleet_of (at d k) bs)) unknown_page refl (is_class k) fleet_numbers (fleet-numbers d k (fleet_of (at d k) bs).outcome);
  fleet-of-numbers-numbers = λ d k xs.
      numbers-if fleet-outcome-of (page_of (fleet_of_numbers (at d k) xs)) unknown_page refl (is_class k) fleet_numbers
      (fleet-numbers d k (fleet_of_numbers (at d k) xs).outcome);
  sisters-numbers = λ d k xs bs.
      numbers-if sisters-outcome (difference_of (sisters_of (at d k) xs bs)) unknown_difference refl (is_class k) rate_numbers
      (engine-numbers (sisters_of (at d k) xs bs).outcome rate_numbers (sisters-call.numbers (at d k) xs bs));
  load_kept = λ d k s. load-left d k (loaded_of (at d k) s) (demands.load_kept (at d k) s);
  formula-kept = λ d k s n. load-left d k (formula_loaded_of (at d k) s n) (demands.formula-kept (at d k) s n);
  rate-zero = λ d k xs.
      after-refusal rate-outcome (rating_of (rated_of (at d k) xs)) unknown_rating refl (λ (x : ClassRating). x.limits) no_limits (is_class k) (rate-zero d k xs) refl;
  cut-zero = λ d k xs n.
      after-refusal rate-outcome (cut_rating_of (cut_of (at d k) xs n)) unknown_rating refl (λ (x : ClassRating). x.limits) no_limits (is_class k) (cut-zero d k xs n) refl;
  fleet-zero = λ d k bs.
      after-refusal fleet-outcome-of (page_of (fleet_of (at d k) bs)) unknown_page refl (λ (x : ClassFleet). x.report) no_report (is_class k) (fleet-zero d k bs) refl;
  fleet-of-numbers-zero = λ d k xs.
      after-refusal fleet-outcome-of (page_of (fleet_of_numbers (at d k) xs)) unknown_page refl (λ (x : ClassFleet). x.report) no_report (is_class k) (numbers-zero d k xs) refl;
  sisters-zero = λ d k xs bs r h. (
    after-refusal sisters-outcome (difference_of (sisters_of (at d k) xs bs)) unknown_difference refl (λ (x : ClassDifference). x.low) (pos 0) (is_class k)
        (λ q g. (sisters-zero d k xs bs q g).0) refl r h,
    after-refusal sisters-outcome (difference_of (sisters_of (at d k) xs bs)) unknown_difference refl (λ (x : ClassDifference). x.high) (pos 0) (is_class k)
        (λ q g. (sisters-zero d k xs bs q g).1) refl r h,
  );
}
