-- The three demands, of what the engine's calls give. Assumes nothing.
use mathlib.Core.Path.{◌≡◌, refl, sym, ap, ◌∙◌}
use mathlib.Core.List.{List, Memᴰ}
use mathlib.Core.Logic.{◌↔◌, ◌⊎◌, inl, inr}
use mathlib.Core.Bool.{Bool, true, false, cond}
use Prim.Native.Nat.{ℕ, zero, suc, ◌*◌}
use lib.Dec.{lit≤, eqb}
use lib.IntN.{ℤ}
use lib.ListN.{length}
use Rattle.codelist.specs.declared.Codelist.{Codelist}
use Rattle.codelist.specs.Codelist.{WellFormed, ratable}
use Rattle.codelist.specs.Load as Load
use Rattle.codelist.proofs.Ratable.{well-formed-ratable}
use Rattle.rules.specs.declared.Refusal as rules
use Rattle.rules.specs.declared.Limits.{Limits}
use Rattle.rules.specs.InFull.{Rating}
use Rattle.rules.specs.Rate as Rate
use Rattle.rules.specs.Rate.{no_limits, rate_of, rate_ranges, finished, first_bad}
use Rattle.rules.specs.Run.{Lines, through, stopped, lines_of}
use Rattle.rules.proofs.Sound.{sound}
use Rattle.rules.proofs.Shaped.{shaped}
use Rattle.rules.proofs.Years.{nested, all-bent}
use Rattle.rules.proofs.Vanishing.{vanishing}
use Rattle.rules.proofs.Sisters.{sisters}
use Rattle.rules.proofs.Published.{published}
use Rattle.rules.specs.Refused as Rules
use Rattle.rules.proofs.Refused as rates
use Rattle.engine.specs.declared.Engine.{Engine}
use Rattle.engine.specs.declared.Refusal as refusal
use Rattle.engine.specs.declared.Refusal.{Refusal}
use Rattle.engine.specs.InFull.{Accepted, Refused}
use Rattle.engine.specs.Engine.{empty_engine, loaded_of, outcome_of, as_rating, rated_of}
use Rattle.engine.specs.Refusals.{RefusedWith, RateTable, count, range, no-codelist, divisor, overflow}
use Rattle.engine.specs.Demands.{Demands}
use Rattle.engine.proofs.Loads.{not-both, is-in, decided, kept, load-number, written, back, listed, unlisted, from-load-table, to-load-table}
use Rattle.engine.proofs.Formulas as formula

-- ---- rating
-- rated, with limits, or refused, with none
abbrev Shape : Rating → Type 0
Shape x = ((l : Limits) × (x ≡ Rate.rated l)) ⊎ ((r : rules.Refusal) × (x ≡ Rate.refused r))

shape-if : (t : Bool) {x y : Rating} → Shape x → Shape y → Shape (cond t x y)
shape-if true p q = p
shape-if false p q = q

shape-lines : (n : ℕ) (ls : Lines) → Shape (finished n ls)
shape-lines n (through ls) = inl (_, refl)
shape-lines n (stopped r) = inr (r, refl)

shape : (c : Codelist) (xs : List ℤ) → Shape (rate_of c xs)
unfolding rate_of rate_ranges
shape c xs = shape-if (ratable c) (shape-if (eqb (length xs) (2 * c.factors)) (ranges (first_bad 1 (Rate.pairs xs))) (inr (_, refl))) (inr (_, refl))
  where
    ranges : (k : ℕ) → Shape (rate_ranges c (Rate.pairs xs) k)
    ranges zero = shape-lines c.factors (lines_of c (Rate.pairs xs))
    ranges (suc k) = inr (rules.TheVariants.BadRange (suc k), refl)

rate-number : (q : rules.Refusal) → Memᴰ (Rate.number_of q) Rate.rate_numbers
rate-number rules.TheVariants.NoCodelist = is-in 0 _ (lit≤ tt)
rate-number rules.TheVariants.RangeCount = is-in 1 _ (lit≤ tt)
rate-number (rules.TheVariants.BadRange a) = is-in 2 _ (lit≤ tt)
rate-number (rules.TheVariants.Divisor k) = is-in 3 _ (lit≤ tt)
rate-number (rules.TheVariants.Overflow k) = is-in 4 _ (lit≤ tt)

module _ (x : Rating) where
  rate-decided : Shape x → (outcome_of x.outcome ≡ Accepted) ⊎ ((r : Refusal) × (outcome_of x.outcome ≡ Refused r))
  rate-decided (inl p) = inl (ap (λ (y : Rating). outcome_of y.outcome) p.1)
  rate-decided (inr p) = inr (refusal.TheVariants.Rate p.0, ap (λ (y : Rating). outcome_of y.outcome) p.1)

  refused-with : Shape x → (r : Refusal) → outcome_of x.outcome ≡ Refused r → (x.limits ≡ no_limits) × ((q : rules.Refusal) × (r ≡ refusal.TheVariants.Rate q))
  refused-with (inl p) r h = not-both (sym (ap (λ (y : Rating). outcome_of y.outcome) p.1) ∙ h)
  refused-with (inr p) r h =
      let o : outcome_of x.outcome ≡ Refused (refusal.TheVariants.Rate p.0) = ap (λ (y : Rating). outcome_of y.outcome) p.1 in
      (ap (λ (y : Rating). y.limits) p.1, (p.0, cc))

  rated-with : Shape x → outcome_of x.outcome ≡ Accepted → x ≡ Rate.rated x.limits
  rated-with (inl p) h = p.1 ∙ ap (λ (y : Rating). Rate.rated y.limits) (sym p.1)
  rated-with (inr p) h = not-both (sym h ∙ ap (λ (y : Rating). outcome_of y.outcome) p.1)

-- a refusal of the engine is that of rating
module _ (e : Engine) (xs : List ℤ) (r : rules.Refusal) where
  same-refusal : (rated_of e xs).outcome ≡ Refused (refusal.TheVariants.Rate r) → rate_of e.codelist xs ≡ Rate.refused r
  unfolding rated_of
  same-refusal h = go (shape e.codelist xs)
    where
      go : Shape (rate_of e.codelist xs) → rate_of e.codelist xs ≡ Rate.refused r
      go (inl p) = not-both (sym (ap (λ (y : Rating). outcome_of y.outcome) p.1) ∙ h)
      go (inr p) =
          let o : outcome_of (rate_of e.codelist xs).outcome ≡ Refused (refusal.TheVariants.Rate p.0) = ap (λ (y : Rating). outcome_of y.outcome) p.1 in
          let q : p.0 ≡ r = cc in
          p.1 ∙ ap Rate.refused q

  refused-back : rate_of e.codelist xs ≡ Rate.refused r → (rated_of e xs).outcome ≡ Refused (refusal.TheVariants.Rate r)
  unfolding rated_of
  refused-back h = ap (λ (y : Rating). outcome_of y.outcome) h

-- ---- 01's tables by number and place
rate-row : (c : Codelist) (xs : List ℤ) (r : rules.Refusal) → Rules.RefusedFor c xs r → RateTable c xs (Rate.number_of r) (Rate.place_of r)
rate-row c xs rules.TheVariants.NoCodelist h = no-codelist h
rate-row c xs rules.TheVariants.RangeCount h = count h
rate-row c xs (rules.TheVariants.BadRange a) h = range h
rate-row c xs (rules.TheVariants.Divisor k) h = divisor h
rate-row c xs (rules.TheVariants.Overflow k) h = overflow h

module _ (e : Engine) (xs : List ℤ) where
  table : (r : rules.Refusal) → ((rated_of e xs).outcome ≡ Refused (refusal.TheVariants.Rate r)) ↔ Rules.RefusedFor e.codelist xs r
  table r =
      let i = (rates.refused-exactly).where-listed e.codelist xs r in
      (λ h. i.0 (same-refusal e xs r h), λ w. refused-back e xs r (i.1 w))

  rate-refused : (r : rules.Refusal) → Rules.RefusedFor e.codelist xs r → RefusedWith (rated_of e xs).outcome (Rate.number_of r) (Rate.place_of r)
  rate-refused r w = record { refusal = refusal.TheVariants.Rate r; refused = (table r).1 w; number = refl; place = refl }

  from-rate-table : {k p : ℕ} → RateTable e.codelist xs k p → RefusedWith (rated_of e xs).outcome k p
  from-rate-table (count h) = rate-refused rules.TheVariants.RangeCount h
  from-rate-table (range {factor} h) = rate-refused (rules.TheVariants.BadRange factor) h
  from-rate-table (no-codelist h) = rate-refused rules.TheVariants.NoCodelist h
  from-rate-table (divisor {line} h) = rate-refused (rules.TheVariants.Divisor line) h
  from-rate-table (overflow {line} h) = rate-refused (rules.TheVariants.Overflow line) h

  -- rating refuses with a refusal of its own
  pub rate-own : (r : Refusal) → (rated_of e xs).outcome ≡ Refused r → (q : rules.Refusal) × (r ≡ refusal.TheVariants.Rate q)
  unfolding rated_of
  rate-own r h = (refused-with (rate_of e.codelist xs) (shape e.codelist xs) r h).1

  to-rate-table : {k p : ℕ} → RefusedWith (rated_of e xs).outcome k p → RateTable e.codelist xs k p
  to-rate-table w =
      let own = rate-own w.refusal w.refused in
      let q = own.0 in
      let t = rate-row e.codelist xs q ((table q).0 (w.refused ∙ ap Refused own.1)) in
      rw (← w.number, ← w.place, own.1) t

  pub accepted-rating : (rated_of e xs).outcome ≡ Accepted → rate_of e.codelist xs ≡ Rate.rated (rated_of e xs).limits
  unfolding rated_of
  accepted-rating h = rated-with (rate_of e.codelist xs) (shape e.codelist xs) h

-- 10 is never given of what an accepted load leaves
never-ten : (e : Engine) (xs : List ℤ) → WellFormed e.codelist
    → ¬ ((rated_of e xs).outcome ≡ Refused (refusal.TheVariants.Rate rules.TheVariants.NoCodelist))
never-ten e xs w h =
    ((rates.refused-exactly).where-listed e.codelist xs rules.TheVariants.NoCodelist).0 (same-refusal e xs rules.TheVariants.NoCodelist h)
    (well-formed-ratable w)

pub demands : Demands
unfolding loaded_of rated_of empty_engine Load.empty rate_of ratable
demands = record {
  load-decided = λ e s. decided e (Load.load_of s).outcome (Load.load_of s).codelist;
  rate-decided = λ e xs. rate-decided (rate_of e.codelist xs) (shape e.codelist xs);
  load-numbers = λ e s r h. load-number e (Load.load_of s).outcome (Load.load_of s).codelist r h;
  rate-numbers = λ e xs r h. let q = rate-own e xs r h in rw q.1 (rate-number q.0);
  load_kept = λ e s r h. kept e (Load.load_of s).outcome (Load.load_of s).codelist r h;
  rate-zero = λ e xs r h. (refused-with (rate_of e.codelist xs) (shape e.codelist xs) r h).0;
  accepted-written = λ e s. (λ h. ((loaded_of e s).engine.codelist, written e s h), λ w. back e s w.0 w.1);
  loaded-written = λ e s h. written e s h;
  load-table = λ e s k p. (to-load-table e s, from-load-table e s);
  rate-table = λ e xs k p. (to-rate-table e xs, from-rate-table e xs);
  refused-listed = λ e s r. (λ h. listed e s r h, λ w. unlisted e s r w);
  rate-refused-listed = table;
  published = λ e xs. ap as_rating (published.rating e.codelist xs);
  published-lines = λ e xs h. published.lines e.codelist xs (rated_of e xs).limits (accepted-rating e xs h);
  empty-refused = λ xs. refl;
  loaded-not-empty = λ e s xs h r. never-ten (loaded_of e s).engine xs (written e s h).0 r;
  shaped = λ e xs h. shaped e.codelist xs (rated_of e xs).limits (accepted-rating e xs h);
  nested = λ e xs y h. nested e.codelist xs (rated_of e xs).limits y (accepted-rating e xs h);
  all-bent = λ e xs y h. all-bent e.codelist xs (rated_of e xs).limits y (accepted-rating e xs h);
  sound = λ e xs h p i. sound e.codelist xs (rated_of e xs).limits (accepted-rating e xs h) p i;
  sisters = λ e xs h p q i j. sisters e.codelist xs (rated_of e xs).limits (accepted-rating e xs h) p q i j;
  vanishing = λ e xs h p j is. vanishing e.codelist xs (rated_of e xs).limits (accepted-rating e xs h) p j is;
  formula-decided = formula.decided;
  formula-numbers = formula.numbers;
  formula-kept = formula.kept;
  formula-loaded = formula.is-loaded;
  formula-accepted = formula.accepted;
  formula-table = λ e s k number place. (formula.to-table e s k, formula.from-table e s k);
  formula-text = formula.text-refused;
  formula-constants = formula.constants-refused;
  formula-refused = formula.sheet-refused;
  formula-premium = formula.premium;
}
