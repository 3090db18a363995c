-- The classes don't touch: `apart`. Assumes nothing.
use Prim.Native.Nat.{ℕ}
use mathlib.Core.Bool.{Bool, true, false, cond}
use mathlib.Core.List.{List, [], ◌∷◌}
use mathlib.Core.Path.{◌≡◌, refl, sym, ap, ◌∙◌}
use lib.Dec.{eqb}
use borrow.Author.Tests.{eqb-true, eqb-false}
use Rattle.codelist.specs.declared.Codelist.{Codelist}
use Rattle.codelist.specs.InFull.{Loaded}
use Rattle.codelist.specs.InFull as loading
use Rattle.codelist.specs.Load as Load
use Rattle.formulas.specs.Load.{Given, given, refused, formula_of}
use Rattle.engine.specs.declared.Engine.{Engine}
use Rattle.engine.specs.InFull.{Loading}
use Rattle.engine.specs.Engine.{empty_engine, loaded, loaded_of, formula_loaded, formula_loaded_of, rated_of}
use Rattle.boats.specs.Fleet.{fleet_of, fleet_of_numbers}
use Rattle.bisection.specs.Cut.{cut_of}
use Rattle.increments.specs.Call.{sisters_of}
use Rattle.classes.specs.declared.Classes.{Classes}
use Rattle.classes.specs.Classes.{is_class, empty_classes, engine_at, codelist_at, with_engine}
use Rattle.classes.specs.Calls.{engine_outcome, loading_of, unknown_loading, rating_of, unknown_rating, cut_rating_of, page_of, unknown_page, difference_of, unknown_difference}
use Rattle.classes.specs.Calls.{class_loaded, class_formula, class_rated, class_cut, class_fleet, class_fleet_of_numbers, class_sisters}
use Rattle.classes.specs.Apart.{ClassLoad, sheet, formula, class_of, after, after_all, accepted_before, given_before, left_before, accepted_of, last_or, SameFor, Apart}
use Rattle.classes.proofs.Numbers.{empty-at, same-classes, put_same, put_other, put-nowhere}

-- ---- what a load does to the engine of its class, and to no other
abbrev left_in : Engine → ClassLoad → Engine
left_in e (sheet k s) = (loaded_of e s).engine
left_in e (formula k s n) = (formula_loaded_of e s n).engine

-- 21 is like a load of what is nobody's
put-by : (d : Classes) (k : ℕ) (l : Loading) → (cond (is_class k) (loading_of d k l) (unknown_loading d)).classes ≡ with_engine d k l.engine
put-by d k l = go (is_class k) refl
  where
    go : (b : Bool) → is_class k ≡ b → (cond b (loading_of d k l) (unknown_loading d)).classes ≡ with_engine d k l.engine
    go true h = refl
    go false h = sym (put-nowhere d k l.engine h)

after_is : (d : Classes) (l : ClassLoad) → after d l ≡ with_engine d (class_of l) (left_in (engine_at d (class_of l)) l)
unfolding class_loaded class_formula
after_is d (sheet k s) = put-by d k (loaded_of (engine_at d k) s)
after_is d (formula k s n) = put-by d k (formula_loaded_of (engine_at d k) s n)

module _ (d : Classes) (l : ClassLoad) (j : ℕ) where
  hit : is_class j ≡ true → class_of l ≡ j → engine_at (after d l) j ≡ left_in (engine_at d j) l
  hit c p = rw (← p) (ap (λ (f : Classes). engine_at f (class_of l)) (after_is d l) ∙ put_same d (class_of l) _ (ap is_class p ∙ c))

  miss : ¬ (j ≡ class_of l) → engine_at (after d l) j ≡ engine_at d j
  miss n = ap (λ (f : Classes). engine_at f j) (after_is d l) ∙ put_other d (class_of l) _ j n

-- ---- classes with the same engine of j give the same for j
same-for : (j : ℕ) (d f : Classes) → engine_at f j ≡ engine_at d j → SameFor j d f
unfolding class_loaded class_formula class_rated class_cut class_fleet class_fleet_of_numbers class_sisters
same-for j d f h = record {
  engine = h;
  load = λ s. outcome (λ e. loaded_of e s) (is_class j);
  load-left = λ s. left (λ e. loaded_of e s) (is_class j) refl;
  formula = λ s n. outcome (λ e. formula_loaded_of e s n) (is_class j);
  formula-left = λ s n. left (λ e. formula_loaded_of e s n) (is_class j) refl;
  rate = λ xs. ap (λ (e : Engine). cond (is_class j) (rating_of (rated_of e xs)) unknown_rating) h;
  cut = λ xs n. ap (λ (e : Engine). cond (is_class j) (cut_rating_of (cut_of e xs n)) unknown_rating) h;
  fleet = λ bs. ap (λ (e : Engine). cond (is_class j) (page_of (fleet_of e bs)) unknown_page) h;
  fleet-of-numbers = λ xs. ap (λ (e : Engine). cond (is_class j) (page_of (fleet_of_numbers e xs)) unknown_page) h;
  sisters = λ xs bs. ap (λ (e : Engine). cond (is_class j) (difference_of (sisters_of e xs bs)) unknown_difference) h;
}
  where
    outcome : (g : Engine → Loading) (b : Bool)
        → (cond b (loading_of f j (g (engine_at f j))) (unknown_loading f)).outcome ≡ (cond b (loading_of d j (g (engine_at d j))) (unknown_loading d)).outcome
    outcome g true = ap (λ (e : Engine). engine_outcome (g e).outcome) h
    outcome g false = refl

    left : (g : Engine → Loading) (b : Bool) → is_class j ≡ b
        → engine_at (cond b (loading_of f j (g (engine_at f j))) (unknown_loading f)).classes j
        ≡ engine_at (cond b (loading_of d j (g (engine_at d j))) (unknown_loading d)).classes j
    left g true c = put_same f j _ c ∙ ap (λ (e : Engine). (g e).engine) h ∙ sym (put_same d j _ c)
    left g false c = h

exchanged : (d : Classes) (l m : ClassLoad) → ¬ (class_of l ≡ class_of m) → after (after d l) m ≡ after (after d m) l
exchanged d l m n = same-classes _ _ (λ j c. go j c (eqb j (class_of l)) refl (eqb j (class_of m)) refl)
  where
    go : (j : ℕ) → is_class j ≡ true → (a : Bool) → eqb j (class_of l) ≡ a → (b : Bool) → eqb j (class_of m) ≡ b
        → engine_at (after (after d l) m) j ≡ engine_at (after (after d m) l) j
    go j c true p b q =
        let e = eqb-true j (class_of l) p in
        let o : ¬ (j ≡ class_of m) = λ f. n (sym e ∙ f) in
        miss (after d l) m j o ∙ hit d l j c (sym e) ∙ sym (hit (after d m) l j c (sym e) ∙ ap (λ (x : Engine). left_in x l) (miss d m j o))
    go j c false p true q =
        let e = eqb-true j (class_of m) q in
        let o = eqb-false j (class_of l) p in
        hit (after d l) m j c (sym e) ∙ ap (λ (x : Engine). left_in x m) (miss d l j o) ∙ sym (miss (after d m) l j o ∙ hit d m j c (sym e))
    go j c false p false q =
        let o = eqb-false j (class_of l) p in
        let r = eqb-false j (class_of m) q in
        miss (after d l) m j r ∙ miss d l j o ∙ sym (miss (after d m) l j o ∙ miss d m j r)

-- ---- one load after another
-- what a class holds after a load is the load's codelist, where it was accepted
last-left : (e : Engine) (l : ClassLoad) (cs : List Codelist) → last_or (left_in e l).codelist cs ≡ last_or e.codelist (left_before l cs)
unfolding loaded_of formula_loaded_of last_or
last-left e l cs = of l
  where
    by : (o : loading.Outcome) (c : Codelist) → last_or (loaded e o c).engine.codelist cs ≡ last_or e.codelist (accepted_before o c cs)
    by loading.Accepted c = refl
    by (loading.Refused r) c = refl

    given_by : (g : Given Loaded) → last_or (formula_loaded e g).engine.codelist cs ≡ last_or e.codelist (given_before g cs)
    given_by (given l) = by l.outcome l.codelist
    given_by (refused r) = refl

    of : (l : ClassLoad) → last_or (left_in e l).codelist cs ≡ last_or e.codelist (left_before l cs)
    of (sheet k s) = by (Load.load_of s).outcome (Load.load_of s).codelist
    of (formula k s n) = given_by (formula_of s n)

history : (d : Classes) (ls : List ClassLoad) (j : ℕ) → is_class j ≡ true → codelist_at (after_all d ls) j ≡ last_or (codelist_at d j) (accepted_of j ls)
unfolding after_all accepted_of last_or
history d [] j c = refl
history d (l ∷ ls) j c = history (after d l) ls j c ∙ go (eqb (class_of l) j) refl
  where
    go : (b : Bool) → eqb (class_of l) j ≡ b
        → last_or (codelist_at (after d l) j) (accepted_of j ls) ≡ last_or (codelist_at d j) (cond b (left_before l (accepted_of j ls)) (accepted_of j ls))
    go true h =
        ap (λ (e : Engine). last_or e.codelist (accepted_of j ls)) (hit d l j c (eqb-true (class_of l) j h)) ∙ last-left (engine_at d j) l (accepted_of j ls)
    go false h = ap (λ (e : Engine). last_or e.codelist (accepted_of j ls)) (miss d l j (λ p. eqb-false (class_of l) j h (sym p)))

from_empty : (ls : List ClassLoad) (j : ℕ) → is_class j ≡ true → codelist_at (after_all empty_classes ls) j ≡ last_or Load.empty (accepted_of j ls)
unfolding empty_engine
from_empty ls j c = history empty_classes ls j c ∙ ap (λ (e : Engine). last_or e.codelist (accepted_of j ls)) (empty-at j)

any_order : (ls ms : List ClassLoad) → ((j : ℕ) → is_class j ≡ true → accepted_of j ls ≡ accepted_of j ms) → after_all empty_classes ls ≡ after_all empty_classes ms
any_order ls ms h = same-classes _ _ (λ j c. let p = from_empty ls j c ∙ ap (last_or Load.empty) (h j c) ∙ sym (from_empty ms j c) in λ i. record { codelist = p i })

pub apart : Apart
apart = record {
  others = λ d l j n. same-for j d (after d l) (miss d l j n);
  exchanged = exchanged;
  unknown = λ d l h. after_is d l ∙ put-nowhere d (class_of l) _ h;
  history = from_empty;
  any_order = any_order;
}
