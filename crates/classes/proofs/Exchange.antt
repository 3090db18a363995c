-- Swapped references change no answer of any class: `exchange-class-calls`. Assumes nothing.
use Prim.Native.Nat.{ℕ}
use mathlib.Core.Bool.{Bool, true, false, cond}
use mathlib.Core.Path.{◌≡◌, refl, ap}
use native.Mathlib.Decide.{ℕ_discrete}
use Rattle.engine.specs.InFull.{Loading}
use Rattle.engine.specs.Engine.{loaded_of}
use Rattle.engine.specs.Exchange.{LoadingAlike}
use Rattle.engine.proofs.Exchange.{exchange-calls}
use Rattle.boats.proofs.Exchange.{exchange-fleet}
use Rattle.bisection.proofs.Exchange.{exchange-cut}
use Rattle.increments.proofs.Exchange.{exchange-sisters}
use Rattle.classes.specs.declared.Classes.{Classes}
use Rattle.classes.specs.Classes.{is_class, engine_at, with_engine}
use Rattle.classes.specs.Calls.{engine_outcome, loading_of, unknown_loading, rating_of, unknown_rating, cut_rating_of, page_of, unknown_page, difference_of, unknown_difference}
use Rattle.classes.specs.Calls.{class_loaded, class_rated, class_cut, class_fleet, class_fleet_of_numbers, class_sisters}
use Rattle.classes.specs.Exchange.{ExchangedClasses, ExchangeClassCalls}
use Rattle.classes.proofs.Numbers.{put_same, put_other}

-- the same answer of a class, and 21 where it is none
pub same_if : {A B : Type 0} (g : A → B) (u : B) {x y : A} (b : Bool) → (b ≡ true → x ≡ y) → cond b (g x) u ≡ cond b (g y) u
same_if g u true h = ap g (h refl)
same_if g u false h = refl

module _ (d f : Classes) (k : ℕ) (h : ExchangedClasses d f) (l m : Loading) (alike : is_class k ≡ true → LoadingAlike l m) where
  outcome-alike : (cond (is_class k) (loading_of d k l) (unknown_loading d)).outcome ≡ (cond (is_class k) (loading_of f k m) (unknown_loading f)).outcome
  outcome-alike = go (is_class k) refl
    where
      go : (b : Bool) → is_class k ≡ b → (cond b (loading_of d k l) (unknown_loading d)).outcome ≡ (cond b (loading_of f k m) (unknown_loading f)).outcome
      go true c = ap engine_outcome (alike c).outcome
      go false c = refl

  left-alike : ExchangedClasses (cond (is_class k) (loading_of d k l) (unknown_loading d)).classes (cond (is_class k) (loading_of f k m) (unknown_loading f)).classes
  left-alike = go (is_class k) refl
    where
      put : is_class k ≡ true → ExchangedClasses (with_engine d k l.engine) (with_engine f k m.engine)
      put c j g =
          elim (ℕ_discrete j k) [
            | yes e ↦ rw (e, put_same d k l.engine c, put_same f k m.engine c) (alike c).engine
            | no n ↦ rw (put_other d k l.engine j n, put_other f k m.engine j n) (h j g)
          ]

      go : (b : Bool) → is_class k ≡ b → ExchangedClasses (cond b (loading_of d k l) (unknown_loading d)).classes (cond b (loading_of f k m) (unknown_loading f)).classes
      go true c = put c
      go false c = h

pub exchange-class-calls : ExchangeClassCalls
unfolding class_loaded class_rated class_cut class_fleet class_fleet_of_numbers class_sisters
exchange-class-calls = record {
  load = λ d f k s t h x.
      outcome-alike d f k h (loaded_of (engine_at d k) s) (loaded_of (engine_at f k) t) (λ c. exchange-calls.load (engine_at d k) (engine_at f k) s t (h k c) x);
  load-left = λ d f k s t h x.
      left-alike d f k h (loaded_of (engine_at d k) s) (loaded_of (engine_at f k) t) (λ c. exchange-calls.load (engine_at d k) (engine_at f k) s t (h k c) x);
  rate = λ d f k xs h. same_if rating_of unknown_rating (is_class k) (λ c. exchange-calls.rate (engine_at d k) (engine_at f k) xs (h k c));
  cut = λ d f k xs n h. same_if cut_rating_of unknown_rating (is_class k) (λ c. exchange-cut (engine_at d k) (engine_at f k) xs n (h k c));
  fleet = λ d f k bs h. same_if page_of unknown_page (is_class k) (λ c. exchange-fleet.of-records (engine_at d k) (engine_at f k) bs (h k c));
  fleet-of-numbers = λ d f k xs h. same_if page_of unknown_page (is_class k) (λ c. exchange-fleet.of-numbers (engine_at d k) (engine_at f k) xs (h k c));
  sisters = λ d f k xs bs h. same_if difference_of unknown_difference (is_class k) (λ c. exchange-sisters (engine_at d k) (engine_at f k) xs bs (h k c));
}
