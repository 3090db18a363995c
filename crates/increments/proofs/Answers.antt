-- The answer put together: what each test of the code says of `boats_of` and of `sisters_of`. Assumes nothing.
use mathlib.Core.Path.{◌≡◌, refl, sym, ap, ap₂, subst, ◌∙◌}
use mathlib.Core.Bool.{true}
use mathlib.Core.List.{List}
use Prim.Native.Nat.{ℕ, zero, suc, ◌*◌}
use native.Mathlib.Omega.{arith}
use lib.Dec.{T}
use lib.IntN.{ℤ}
use lib.ListN.{length}
use lib.Signed.{le_z, le_z_yes}
use borrow.Author.Tests.{eq-eqb, ne_eqb}
use Rattle.algebra.proofs.Int.{≤ℤ-trans}
use Rattle.std.specs.Prelude.{Some, None, Ok, Err}
use Rattle.range.specs.declared.Range.{Range}
use Rattle.range.specs.Limit.{is_valid}
use Rattle.range.specs.Sums.{at}
use Rattle.range.proofs.Fitting.{InLimit, in-limit}
use Rattle.range.proofs.Valid.{true-T, and_left, and_right, ends-of}
use Rattle.rules.specs.declared.Refusal.TheVariants.{RangeCount, BadRange}
use Rattle.rules.specs.declared.Limits.{Limits}
use Rattle.rules.specs.Rate.{pairs}
use Rattle.rules.proofs.Accepted.{accepted}
use Rattle.rules.proofs.FirstBad.{all-good}
use Rattle.rules.proofs.Passing.{good-iff}
use Rattle.engine.specs.declared.Engine.{Engine}
use Rattle.engine.specs.InFull.{Accepted, Refused}
use Rattle.engine.specs.declared.Refusal.{Refusal}
use Rattle.engine.specs.declared.Refusal.TheVariants.{Rate}
use Rattle.engine.specs.InFull.{Rating}
use Rattle.engine.specs.Engine.{rated_of, in_full}
use Rattle.engine.proofs.Demands.{accepted-rating}
use Rattle.engine.proofs.Validity.{accepted-valid}
use Rattle.bounds.specs.FirstBad.{or_none}
use Rattle.increments.specs.Call.{first, second, holds, first_outside, difference_of, refused_with, unless_outside, boats_of, sisters_of}
use Rattle.increments.specs.Steps.{Classed, Apart}
use Rattle.increments.proofs.Outside.{all-inside}

-- ---- the boats of a rated class
module _ (n : ℕ) (rs g : List Range) (bs : List ℤ) where
  pub another-count : ¬ (length bs ≡ 2 * n) → refused_with (Rate RangeCount) ≡ boats_of n rs g bs
  unfolding boats_of
  another-count f = rw (ne_eqb (length bs) (2 * n) f)

  module _ (e : length bs ≡ 2 * n) where
    pub counted : unless_outside (first_outside n rs bs) (difference_of n g bs) ≡ boats_of n rs g bs
    unfolding boats_of
    counted = rw (eq-eqb (length bs) (2 * n) e)

    pub boat-outside : (k : ℕ) → k ≡ first_outside n rs bs → ¬ (k ≡ 0) → refused_with (Rate (BadRange k)) ≡ boats_of n rs g bs
    boat-outside zero p f = absurd (f refl)
    boat-outside (suc a) p f = ap (λ k. unless_outside k (difference_of n g bs)) p ∙ counted

    pub boats-inside : 0 ≡ first_outside n rs bs → difference_of n g bs ≡ boats_of n rs g bs
    boats-inside p = ap (λ k. unless_outside k (difference_of n g bs)) p ∙ counted

-- a value in a valid range is within the limit
held : (r : Range) (x : ℤ) → is_valid r ≡ true → T (holds r x) → InLimit x
unfolding holds
held r x v t =
    let e = ends-of r (true-T v) in
    in-limit x
    (≤ℤ-trans e.above (le_z_yes (and_left (le_z r.low x) (le_z x r.high) t)))
    (≤ℤ-trans (le_z_yes (and_right (le_z r.low x) (le_z x r.high) t)) e.below)

pub apart : {n : ℕ} {g : List Range} {xs bs : List ℤ} → Classed n g xs → length bs ≡ 2 * n → 0 ≡ first_outside n (pairs xs) bs → Apart n g bs
apart {n} {g} {xs} {bs} k e z =
    let inside = all-inside n (pairs xs) bs z in
    record {
      few = k.few;
      count = e;
      slopes = k.slopes;
      first = λ a l. held (at (pairs xs) a) (first bs a) (k.ranges a l)
          (and_left (holds (at (pairs xs) a) (first bs a)) (holds (at (pairs xs) a) (second n bs a)) (true-T (inside a l)));
      second = λ a l. held (at (pairs xs) a) (second n bs a) (k.ranges a l)
          (and_right (holds (at (pairs xs) a) (first bs a)) (holds (at (pairs xs) a) (second n bs a)) (true-T (inside a l)));
    }

-- ---- the class
module _ (e : Engine) (xs : List ℤ) where
  pub classed : (rated_of e xs).outcome ≡ Accepted → Classed e.codelist.factors (rated_of e xs).limits.gradient xs
  classed h =
      let l = (rated_of e xs).limits in
      let A = accepted e.codelist xs l (accepted-rating e xs h) in
      record {
        few = A.codelist.factors.1;
        count = A.count;
        ranges = λ a k. (good-iff (at (pairs xs) a)).1 (all-good 0 (pairs xs) A.good a (omega (arith, A.count)));
        slopes = λ a k. (accepted-valid e xs h).slopes a;
      }

  module _ (bs : List ℤ) where
    pub class-rated : (rated_of e xs).outcome ≡ Accepted
        → boats_of e.codelist.factors (pairs xs) (rated_of e xs).limits.gradient bs ≡ sisters_of e xs bs
    unfolding sisters_of
    class-rated h = rw h

    pub class-refused : (r : Refusal) → (rated_of e xs).outcome ≡ Refused r → refused_with r ≡ sisters_of e xs bs
    unfolding sisters_of
    class-refused r h = rw h

-- ---- as the code has it: n factors, and the lowest with a boat outside as an option
outside-some : (k : ℕ) {a : ℕ} → Some a ≡ or_none k → (a ≡ k) × (¬ (a ≡ 0))
outside-some zero e = absurd (let z : ◌≡◌ {A = ℕ} 0 1 = cc in omega arith)
outside-some (suc k) {a} e = let p : a ≡ suc k = cc in (p, λ z. omega (arith, p, z))

outside-none : (k : ℕ) → None ≡ or_none k → 0 ≡ k
outside-none zero e = refl
outside-none (suc k) e = absurd (let z : ◌≡◌ {A = ℕ} 0 1 = cc in omega arith)

module _ (e : Engine) (xs bs : List ℤ) {l : Limits} (is : in_full (Ok l) ≡ rated_of e xs) {n : ℕ} (m : n ≡ e.codelist.factors) where
  accepts : (rated_of e xs).outcome ≡ Accepted
  accepts = ap (λ (r : Rating). r.outcome) (sym is)

  pub class_of : Classed n l.gradient xs
  class_of = rw m (subst (λ (r : Rating). Classed e.codelist.factors r.limits.gradient xs) (sym is) (classed e xs accepts))

  as-rated : boats_of n (pairs xs) l.gradient bs ≡ sisters_of e xs bs
  as-rated = ap₂ (λ (k : ℕ) (r : Rating). boats_of k (pairs xs) r.limits.gradient bs) m is ∙ class-rated e xs bs accepts

  pub count-refused : ¬ (length bs ≡ 2 * n) → refused_with (Rate RangeCount) ≡ sisters_of e xs bs
  count-refused f = another-count n (pairs xs) l.gradient bs f ∙ as-rated

  module _ (c : length bs ≡ 2 * n) where
    pub outside-refused : {a : ℕ} → Some a ≡ or_none (first_outside n (pairs xs) bs) → refused_with (Rate (BadRange a)) ≡ sisters_of e xs bs
    outside-refused {a} o =
        let s = outside-some (first_outside n (pairs xs) bs) o in
        boat-outside n (pairs xs) l.gradient bs c a s.0 s.1 ∙ as-rated

    module _ (o : None ≡ or_none (first_outside n (pairs xs) bs)) where
      pub both-apart : Apart n l.gradient bs
      both-apart = apart class_of c (outside-none _ o)

      pub difference-answers : difference_of n l.gradient bs ≡ sisters_of e xs bs
      difference-answers = boats-inside n (pairs xs) l.gradient bs c (outside-none _ o) ∙ as-rated

pub refusal-answers : (e : Engine) (xs bs : List ℤ) {r : Refusal} → in_full (Err r) ≡ rated_of e xs → refused_with r ≡ sisters_of e xs bs
refusal-answers e xs bs {r} is = class-refused e xs bs r (ap (λ (r : Rating). r.outcome) (sym is))
