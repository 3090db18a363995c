-- What is promised of a class cut finer: `cut-sound`. Assumes nothing.
use mathlib.Core.Path.{◌≡◌, refl, sym, ap, subst, ◌∙◌}
use mathlib.Core.List.{List, map_congr_left}
use mathlib.Core.Logic.{◌⊎◌, inl, inr, ◌↔◌}
use mathlib.Core.Option.{some}
use Prim.Native.Nat.{ℕ}
use native.Mathlib.Omega.{arith}
use lib.IntN.{ℤ, pos, nat_abs}
use lib.Signed.{le_z_yes}
use Rattle.codelist.specs.declared.Year.TheVariants.{Y2016, Y2014}
use Rattle.rules.specs.declared.Refusal as rules
use Rattle.rules.specs.InFull as rating
use Rattle.rules.specs.declared.Limits.{Limits}
use Rattle.rules.specs.InFull.{Rating}
use Rattle.rules.specs.Rate.{rated, refused, pairs, rate_ranges, rate_of}
use Rattle.rules.specs.Refused.{Runnable}
use Rattle.rules.specs.Exact.{Point, Jet, premium_of}
use Rattle.rules.specs.Promises.{Vanishing}
use Rattle.rules.specs.Years.{Nested, AllBent}
use Rattle.rules.specs.Figures.{ends}
use Rattle.rules.specs.SameSets.{SameSets}
use Rattle.rules.proofs.Refused.{refused-exactly}
use Rattle.rules.proofs.Published.{published}
use Rattle.rules.proofs.Years.{nested, not_lifted, all-bent}
use Rattle.rules.proofs.Vanishing.{vanishing}
use Rattle.rules.proofs.SameSets.{same-sets}
use Rattle.engine.specs.declared.Engine.{Engine}
use Rattle.engine.specs.InFull as engine
use Rattle.engine.specs.declared.Refusal as engine-refusal
use Rattle.engine.specs.Engine as Engine
use Rattle.engine.specs.Engine.{rated_of}
use Rattle.engine.proofs.Validity.{Valid}
use Rattle.bisection.specs.declared.Refusal.{Refusal}
use Rattle.bisection.specs.declared.Refusal.TheVariants.{Rate}
use Rattle.bisection.specs.InFull.{Accepted, Refused}
use Rattle.bisection.specs.InFull.{Bisected}
use Rattle.bisection.specs.Cut.{parts, leaves, together, outcome_of, answer_of, cut_of}
use Rattle.bisection.specs.Promises.{IsDepth, CutRefusedFor, AsRated, CutSound}
use Rattle.bisection.proofs.Widths.{widest-is, all-narrow}
use Rattle.bisection.proofs.Covers.{covers}
use Rattle.bisection.proofs.Plain.{rated-plainly}
use Rattle.bisection.proofs.Recursion.{narrow-parts, Fine, parts-fine}
use Rattle.bisection.proofs.Leaves.{parts-leaves}
use Rattle.bisection.proofs.Tested.{ready, Tested, no-codelist, range-count, bad-range, runs, tested}
use Rattle.bisection.proofs.Numbered.{numbered, table}
use Rattle.bisection.proofs.Classified.{run, refused-complete, Class, cut, turned_down, classify}

-- an accepted answer is no refusal
pub not-both : {A : Type 0} {r : Refusal} → Accepted ≡ Refused r → A
not-both e = let z : ◌≡◌ {A = ℕ} 0 1 = cc in let f : ⊥ = omega arith in absurd f

-- ---- as plain rating
-- where the parts are the whole, by all that is tested before
plain-cut : (e : Engine) (xs : List ℤ) (d : ℤ) → IsDepth d
    → (Runnable e.codelist xs → parts (nat_abs d) e.codelist (pairs xs) ≡ rate_ranges e.codelist (pairs xs) 0)
    → cut_of e xs d ≡ answer_of (rate_of e.codelist xs)
plain-cut e xs d i f = go (tested e.codelist xs)
  where
    refusal : (r : rules.Refusal) → CutRefusedFor e.codelist xs d (Rate r) → rate_of e.codelist xs ≡ refused r
        → cut_of e xs d ≡ answer_of (rate_of e.codelist xs)
    refusal r t h = refused-complete e xs d (Rate r) t ∙ sym (ap answer_of h)

    go : Tested e.codelist xs → cut_of e xs d ≡ answer_of (rate_of e.codelist xs)
    go (no-codelist t) = refusal rules.TheVariants.NoCodelist t ((refused-exactly.where-listed e.codelist xs _).1 t)
    go (range-count t) = refusal rules.TheVariants.RangeCount (i, t) ((refused-exactly.where-listed e.codelist xs _).1 t)
    go (bad-range a t) = refusal (rules.TheVariants.BadRange a) (i, t) ((refused-exactly.where-listed e.codelist xs _).1 t)
    go (runs t) = run e xs d i t ∙ ap answer_of (f t ∙ sym (rated-plainly xs t.codelist t.count (ready t).valid))

pub uncut : (e : Engine) (xs : List ℤ) → cut_of e xs (pos 0) ≡ answer_of (rate_of e.codelist xs)
unfolding parts
uncut e xs = plain-cut e xs (pos 0) (le_z_yes tt, le_z_yes tt) (λ t. refl)

as-rated : (e : Engine) (xs : List ℤ) (d : ℤ) → cut_of e xs d ≡ answer_of (rate_of e.codelist xs) → AsRated e xs d
unfolding rated_of
as-rated e xs d h = record {
  accepted = (λ a. (acc x.outcome).0 (sym o ∙ a), λ a. o ∙ (acc x.outcome).1 a);
  refused = λ r. (λ a. (ref x.outcome r).0 (sym o ∙ a), λ a. o ∙ (ref x.outcome r).1 a);
  limits = ap (λ (b : Bisected). b.limits) h;
}
  where
    x : Rating
    x = rate_of e.codelist xs

    o : (cut_of e xs d).outcome ≡ outcome_of (rate_of e.codelist xs).outcome
    o = ap (λ (b : Bisected). b.outcome) h

    acc : (u : rating.Outcome) → (outcome_of u ≡ Accepted) ↔ (Engine.outcome_of u ≡ engine.Accepted)
    acc rating.Rated = (λ a. refl, λ a. refl)
    acc (rating.Refused r) = (λ a. not-both (sym a), λ a. let z : ◌≡◌ {A = ℕ} 0 1 = cc in let f : ⊥ = omega arith in absurd f)

    ref : (u : rating.Outcome) (r : rules.Refusal) → (outcome_of u ≡ Refused (Rate r))
        ↔ (Engine.outcome_of u ≡ engine.Refused (engine-refusal.TheVariants.Rate r))
    ref rating.Rated r = (λ a. not-both a, λ a. let z : ◌≡◌ {A = ℕ} 0 1 = cc in let f : ⊥ = omega arith in absurd f)
    ref (rating.Refused q) r = (λ a. let s : q ≡ r = cc in rw s, λ a. let s : q ≡ r = cc in rw s)

-- ---- what each answer says
module _ (e : Engine) (xs : List ℤ) (d : ℤ) where
  decided : Class e xs d → ((cut_of e xs d).outcome ≡ Accepted) ⊎ ((r : Refusal) × ((cut_of e xs d).outcome ≡ Refused r))
  decided (cut i t l h b) = inl (ap (λ (b : Bisected). b.outcome) b)
  decided (turned_down r b t) = inr (r, ap (λ (b : Bisected). b.outcome) b)

  -- a refusal is the one that is listed
  refused-sound : (r : Refusal) → (cut_of e xs d).outcome ≡ Refused r → Class e xs d → CutRefusedFor e.codelist xs d r
  refused-sound r o (cut i t l h b) = not-both (sym (ap (λ (b : Bisected). b.outcome) b) ∙ o)
  refused-sound r o (turned_down q b t) =
      let u : (cut_of e xs d).outcome ≡ Refused q = ap (λ (b : Bisected). b.outcome) b in
      let s : q ≡ r = cc in
      subst (CutRefusedFor e.codelist xs d) s t

  refused-back : (r : Refusal) → CutRefusedFor e.codelist xs d r → (cut_of e xs d).outcome ≡ Refused r
  refused-back r t = ap (λ (b : Bisected). b.outcome) (refused-complete e xs d r t)

  listed : (r : Refusal) → ((cut_of e xs d).outcome ≡ Refused r) ↔ CutRefusedFor e.codelist xs d r
  listed r = (λ o. refused-sound r o (classify e xs d), refused-back r)

  one-refusal : (q r : Refusal) → CutRefusedFor e.codelist xs d q → CutRefusedFor e.codelist xs d r → q ≡ r
  one-refusal q r s t = let u = refused-back q s in let v = refused-back r t in cc

  -- the limits of an accepted answer are those of the parts
  fine : (cut_of e xs d).outcome ≡ Accepted → Class e xs d → Fine e.codelist (pairs xs) (cut_of e xs d).limits
  fine o (cut i t l h b) = subst (Fine e.codelist (pairs xs)) (sym (ap (λ (b : Bisected). b.limits) b)) (parts-fine (nat_abs d) (ready t) h)
  fine o (turned_down r b t) = not-both (sym o ∙ ap (λ (b : Bisected). b.outcome) b)

  all_of : (cut_of e xs d).outcome ≡ Accepted → Fine e.codelist (pairs xs) (cut_of e xs d).limits
  all_of o = fine o (classify e xs d)

  sets : (cut_of e xs d).outcome ≡ Accepted → (ys : List ℤ) (m : Limits) → rate_of e.codelist ys ≡ rated m → SameSets (cut_of e xs d).limits m
  sets o ys m h =
      let F = all_of o in
      let s = same-sets e.codelist F.ranges ys F.plain m F.accepted h in
      record { support = F.sets.support ∙ s.support; nonlinear = F.sets.nonlinear ∙ s.nonlinear }

  -- its sets are those of the plain rating
  cut-nested : e.codelist.year ≡ Y2016 → (cut_of e xs d).outcome ≡ Accepted → Nested (cut_of e xs d).limits
  cut-nested y o =
      let F = all_of o in
      let h = nested e.codelist F.ranges F.plain y F.accepted in
      record { into = rw (F.sets.support, F.sets.nonlinear) h.into }

  cut-all-bent : e.codelist.year ≡ Y2014 → (cut_of e xs d).outcome ≡ Accepted → AllBent e.codelist (cut_of e xs d).limits
  cut-all-bent y o =
      let F = all_of o in
      let b = F.sets.nonlinear ∙ (all-bent e.codelist F.ranges F.plain y F.accepted).nonlinear in
      record { nonlinear = b; full = F.lifted ∙ not_lifted _ b }

  cut-vanishing : (cut_of e xs d).outcome ≡ Accepted → (p : Point) (premium : Jet) → premium_of e.codelist p ≡ some premium
      → Vanishing (cut_of e xs d).limits premium
  cut-vanishing o p premium g =
      let F = all_of o in
      let h = vanishing e.codelist F.ranges F.plain F.accepted p premium g in
      record { outside-support = rw F.sets.support h.outside-support; outside-nonlinear = rw F.sets.nonlinear h.outside-nonlinear }

  pub cut-valid : (cut_of e xs d).outcome ≡ Accepted → Valid (cut_of e xs d).limits
  cut-valid o = (all_of o).valid

pub cut-sound : CutSound
cut-sound = record {
  widest = widest-is;
  depth-zero = λ e xs. as-rated e xs (pos 0) (uncut e xs);
  under-two = λ e xs d i h.
      as-rated e xs d
      (plain-cut e xs d i
      (λ t. narrow-parts (nat_abs d) e.codelist (pairs xs) (all-narrow (pairs xs) (λ a l. h a (omega (arith, (ready t).count))))));
  covers = λ e xs d t. covers d (pairs xs) (ready t).valid;
  leaves = λ e xs d i t. run e xs d i t ∙ ap answer_of (parts-leaves (nat_abs d) (ready t));
  decided = λ e xs d. decided e xs d (classify e xs d);
  numbers = λ e xs d r o. numbered r;
  zero = λ e xs d r o. ap (λ (b : Bisected). b.limits) (refused-complete e xs d r (refused-sound e xs d r o (classify e xs d)));
  refused-listed = listed;
  table = λ e xs d. table e xs d (listed e xs d);
  one-refusal = one-refusal;
  published = λ e xs d i t.
      run e xs d i t ∙ ap answer_of (parts-leaves (nat_abs d) (ready t) ∙ ap together (map_congr_left {l = leaves (nat_abs d) (pairs xs)} (λ ls m. published.rating e.codelist (ends ls))));
  sound = λ e xs d o p i. (all_of e xs d o).sound p (record { each = i.each });
  nested = cut-nested;
  all-bent = cut-all-bent;
  vanishing = cut-vanishing;
  shaped = λ e xs d o. (all_of e xs d o).shaped;
  same-sets = sets;
  full-is-extended = λ e xs d o. (all_of e xs d o).lifted;
}
