-- What holds of the limits of the parts, hulled: `parts-fine`, by induction over the depth. Assumes nothing.
use mathlib.Core.Path.{◌≡◌, refl, sym, ap, ap₂, subst, ◌∙◌}
use mathlib.Core.Bool.{Bool, true, false, cond, ◌||◌}
use mathlib.Core.List.{List}
use mathlib.Core.Logic.{◌⊎◌, inl, inr}
use Prim.Native.Nat.{ℕ, zero, suc, ◌-◌, ◌≤◌}
use native.Mathlib.Omega.{arith}
use borrow.Author.Tests.{eqb-false}
use lib.Dec.{eqb}
use lib.IntN.{ℤ}
use Rattle.codelist.specs.declared.Codelist.{Codelist}
use Rattle.range.specs.declared.Range.{Range}
use Rattle.rules.specs.InFull.{Outcome}
use Rattle.rules.specs.InFull.{Rated, Refused}
use Rattle.rules.specs.declared.Limits.{Limits}
use Rattle.rules.specs.InFull.{Rating}
use Rattle.rules.specs.declared.Refusal.{Refusal}
use Rattle.rules.specs.Rate.{rated, refused, rate_ranges, rate_of}
use Rattle.rules.specs.Exact.{Point}
use Rattle.rules.specs.Promises.{Sound, Shaped}
use Rattle.rules.specs.Figures.{ends}
use Rattle.rules.specs.SameSets.{SameSets}
use Rattle.rules.proofs.Accepted.{not-rated}
use Rattle.rules.proofs.SameSets.{same-sets}
use Rattle.engine.proofs.Validity.{Valid}
use Rattle.bisection.specs.Cut.{hull_limits, hulled_by, hulled, narrow, lower_part, upper_part, parts}
use Rattle.bisection.specs.Promises.{Holds}
use Rattle.bisection.proofs.Covers.{lower-part, upper-part, in-part}
use Rattle.bisection.proofs.Wider.{wider-sound, hull-first, hull-second, hull-shaped, hull-limits-valid, Lifted, hull-full}
use Rattle.bisection.proofs.Plain.{Ready, ready-part, plain-is, plain-sound, plain-shaped, plain-valid, plain-lifted}

-- ---- one step
pub narrow-parts : (d : ℕ) (c : Codelist) (rs : List Range) → narrow rs ≡ true → parts d c rs ≡ rate_ranges c rs 0
unfolding parts
narrow-parts zero c rs w = refl
narrow-parts (suc d) c rs w = rw w

pub zero_parts : (d : ℕ) (c : Codelist) (rs : List Range) → d ≡ 0 → parts d c rs ≡ rate_ranges c rs 0
unfolding parts
zero_parts zero c rs z = refl
zero_parts (suc d) c rs z = absurd (omega (arith, z))

module _ (d : ℕ) (c : Codelist) (rs : List Range) (deep : ¬ (d ≡ 0)) (wide : narrow rs ≡ false) where
  halved-parts : parts d c rs ≡ hulled (parts (d - 1) c (lower_part rs)) (parts (d - 1) c (upper_part rs))
  unfolding parts
  halved-parts = go d deep
    where
      go : (d : ℕ) → ¬ (d ≡ 0) → parts d c rs ≡ hulled (parts (d - 1) c (lower_part rs)) (parts (d - 1) c (upper_part rs))
      go zero z = absurd (z refl)
      go (suc d) z = let e : suc d - 1 ≡ d = omega arith in rw (wide, e)

  -- as the code goes on: a refusal of the lower half, else one of the upper half, else the hull
  pub lower_refused : {r : Refusal} → refused r ≡ parts (d - 1) c (lower_part rs) → refused r ≡ parts d c rs
  lower_refused p = ap (λ (x : Rating). hulled x (parts (d - 1) c (upper_part rs))) p ∙ sym halved-parts

  module _ {l : Limits} (p : rated l ≡ parts (d - 1) c (lower_part rs)) where
    pub upper_refused : {r : Refusal} → refused r ≡ parts (d - 1) c (upper_part rs) → refused r ≡ parts d c rs
    upper_refused q = ap₂ hulled p q ∙ sym halved-parts

    pub both_rated : {m : Limits} → rated m ≡ parts (d - 1) c (upper_part rs) → rated (hull_limits l m) ≡ parts d c rs
    both_rated q = ap₂ hulled p q ∙ sym halved-parts

-- a test of two that fails, fails of both
pub neither : (a b : Bool) → (a || b) ≡ false → (a ≡ false) × (b ≡ false)
neither true b e = (e, absurd (let z : ◌≡◌ {A = ℕ} 0 1 = cc in omega arith))
neither false b e = (refl, e)

-- by one test: neither depth 0 nor a widest range that is narrow
pub cut_parts : (d : ℕ) (c : Codelist) (rs : List Range) → (eqb d 0 || narrow rs) ≡ false
    → parts d c rs ≡ hulled (parts (d - 1) c (lower_part rs)) (parts (d - 1) c (upper_part rs))
cut_parts d c rs w = let n = neither (eqb d 0) (narrow rs) w in halved-parts d c rs (eqb-false d 0 n.0) n.1

-- ---- which hulls are limits
pub record Both (x y : Rating) (l : Limits) : Type 0 where
  pub first : x ≡ rated x.limits
  pub second : y ≡ rated y.limits
  pub limits : l ≡ hull_limits x.limits y.limits

pub hulled-rated : (x y : Rating) {l : Limits} → hulled x y ≡ rated l → Both x y l
hulled-rated x y {l} e =
    let t = go x.outcome y.outcome e in
    record {
      first = ap (λ (o : Outcome). record { outcome = o; limits = x.limits }) t.0;
      second = ap (λ (o : Outcome). record { outcome = o; limits = y.limits }) t.1.0;
      limits = t.1.1;
    }
  where
    go : (o u : Outcome) → hulled_by o x.limits u y.limits ≡ rated l → (o ≡ Rated) × ((u ≡ Rated) × (l ≡ hull_limits x.limits y.limits))
    go (Refused r) u e = absurd (not-rated e)
    go Rated (Refused r) e = absurd (not-rated e)
    go Rated Rated e = (refl, (refl, sym (ap (λ (a : Rating). a.limits) e)))

-- ---- the limits of ranges that are ready to be rated
pub record Fine (c : Codelist) (rs : List Range) (l : Limits) : Type 0 where
  pub sound : (p : Point) → Holds c.factors rs p → Sound c l p
  pub shaped : Shaped c l
  pub valid : Valid l
  pub lifted : Lifted c.factors l
  -- the sets are those of a plain rating
  pub ranges : List ℤ
  pub plain : Limits
  pub accepted : rate_of c ranges ≡ rated plain
  pub sets : SameSets l plain

fine-plain : {c : Codelist} {rs : List Range} {l : Limits} → Ready c rs → rate_ranges c rs 0 ≡ rated l → Fine c rs l
fine-plain {c} {rs} {l} y e = record {
  sound = plain-sound y e;
  shaped = plain-shaped y e;
  valid = plain-valid y e;
  lifted = plain-lifted y e;
  ranges = ends rs;
  plain = l;
  accepted = plain-is y ∙ e;
  sets = record { support = refl; nonlinear = refl };
}

-- two parts have the same sets
pub fine-same : {c : Codelist} {rs ts : List Range} {l m : Limits} → Fine c rs l → Fine c ts m → SameSets l m
fine-same {c} F G =
    let s = same-sets c F.ranges G.ranges F.plain G.plain F.accepted G.accepted in
    record {
      support = F.sets.support ∙ s.support ∙ sym G.sets.support;
      nonlinear = F.sets.nonlinear ∙ s.nonlinear ∙ sym G.sets.nonlinear;
    }

fine-halves : {c : Codelist} {rs : List Range} {l m : Limits} → c.factors ≤ 8 → narrow rs ≡ false
    → Fine c (lower_part rs) l → Fine c (upper_part rs) m → Fine c rs (hull_limits l m)
unfolding hull_limits
fine-halves {c} {rs} {l} {m} few wide F G =
    let same = fine-same F G in
    record {
      sound = λ p h. go p (in-part rs wide h);
      shaped = hull-shaped l m same c F.shaped G.shaped;
      valid = hull-limits-valid l m F.valid G.valid;
      lifted = hull-full c.factors l m same F.valid.spectrum G.valid.spectrum F.lifted G.lifted;
      ranges = F.ranges;
      plain = F.plain;
      accepted = F.accepted;
      sets = record { support = F.sets.support; nonlinear = F.sets.nonlinear };
    }
  where
    go : (p : Point) → Holds c.factors (lower_part rs) p ⊎ Holds c.factors (upper_part rs) p → Sound c (hull_limits l m) p
    go p (inl h) = wider-sound few (hull-first l m) (F.sound p h)
    go p (inr h) = wider-sound few (hull-second l m (fine-same F G)) (G.sound p h)

-- ---- the recursion
pub parts-fine : (d : ℕ) {c : Codelist} {rs : List Range} {l : Limits} → Ready c rs → parts d c rs ≡ rated l → Fine c rs l
unfolding parts
parts-fine zero y e = fine-plain y e
parts-fine (suc d) {c} {rs} {l} y e =
    go (narrow rs) refl e
    (λ w a f. parts-fine d (ready-part y (lower-part rs w y.valid)) f)
    (λ w b f. parts-fine d (ready-part y (upper-part rs w y.valid)) f)
  where
    go : (t : Bool) → narrow rs ≡ t → cond t (rate_ranges c rs 0) (hulled (parts d c (lower_part rs)) (parts d c (upper_part rs))) ≡ rated l
        → (narrow rs ≡ false → (a : Limits) → parts d c (lower_part rs) ≡ rated a → Fine c (lower_part rs) a)
        → (narrow rs ≡ false → (b : Limits) → parts d c (upper_part rs) ≡ rated b → Fine c (upper_part rs) b)
        → Fine c rs l
    go true w e L U = fine-plain y e
    go false w e L U =
        let b = hulled-rated (parts d c (lower_part rs)) (parts d c (upper_part rs)) e in
        subst (Fine c rs) (sym b.limits) (fine-halves y.codelist.factors.1 w (L w _ b.first) (U w _ b.second))
