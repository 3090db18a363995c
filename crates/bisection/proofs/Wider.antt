-- Limits about others with the same sets are sound where those are, and the hull of two is about each. Assumes nothing.
use mathlib.Core.Path.{◌≡◌, refl, sym, ap, ap₂, ◌∙◌}
use mathlib.Core.Bool.{Bool, true, false, cond}
use mathlib.Core.List.{List}
use Prim.Native.Nat.{ℕ, ◌≤◌, ◌<◌}
use native.Mathlib.Omega.{arith}
use lib.Dec.{eqb, ltb}
use lib.IntN.{ℤ}
use lib.ListN.{get_or-eq_default}
use borrow.Author.Tests.{ltb-true, ltb-false}
use Rattle.algebra.proofs.Ordered as Ord
use Rattle.algebra.proofs.Sum.{sum_nonneg}
use Rattle.codelist.specs.declared.Codelist.{Codelist}
use Rattle.exact.proofs.Rat as Q
use Rattle.exact.proofs.Rat.{ℚ, ◌*ℚ◌, ◌≤ℚ◌, 0ℚ, ℚ-ordered}
use Rattle.range.specs.declared.Range.{Range}
use Rattle.range.specs.Limit.{zero_range, is_valid}
use Rattle.range.specs.Arithmetic.{ends_hull, hull_of}
use Rattle.range.specs.Sums.{has, at}
use Rattle.range.proofs.Fitting.{hull-valid, hull_of-is}
use Rattle.rules.specs.declared.Limits.{Limits}
use Rattle.rules.specs.Formula.{given, sticky}
use Rattle.rules.specs.Sets.{all_of}
use Rattle.rules.specs.Table.{extended}
use Rattle.rules.specs.Exact.{Point}
use Rattle.rules.specs.Promises.{entry, squares_in, squares_all, Sound, Shaped}
use Rattle.rules.specs.SameSets.{SameSets}
use Rattle.rules.proofs.Enclosed.{at-eight}
use Rattle.engine.proofs.Validity.{Valid}
use Rattle.bisection.specs.Cut.{hull_limits}
use Rattle.bisection.proofs.Hulls.{hull-each, About, about-left, about-right, in-about, between-about}

-- ---- sums of squares
module _ (n : ℕ) (v : List ℤ) where
  square : (a : ℕ) → 0ℚ ≤ℚ entry v a *ℚ entry v a
  square a = Ord.square-nonneg ℚ-ordered (entry v a)

  squares-in : (s : ℕ) → 0ℚ ≤ℚ squares_in n s v
  unfolding squares_in
  squares-in s = sum_nonneg ℚ-ordered n (λ a l. member (has s a) (square a))
    where
      member : (b : Bool) {x : ℚ} → 0ℚ ≤ℚ x → 0ℚ ≤ℚ cond b x 0ℚ
      member true h = h
      member false h = Q.≤ℚ-refl 0ℚ

  squares-all : 0ℚ ≤ℚ squares_all n v
  unfolding squares_all
  squares-all = sum_nonneg ℚ-ordered n (λ a l. square a)

-- ---- wider limits
pub record Wider (l m : Limits) : Type 0 where
  pub value : About l.value m.value
  pub gradient : (a : ℕ) → a < 8 → About (at l.gradient a) (at m.gradient a)
  pub spectrum : About l.spectrum m.spectrum
  pub full : About l.full m.full
  pub sets : SameSets l m

pub wider-sound : {c : Codelist} {l m : Limits} {p : Point} → c.factors ≤ 8 → Wider l m → Sound c m p → Sound c l p
wider-sound {c} few w s = record {
  divisors = s.divisors;
  premium = s.premium;
  is-premium = s.is-premium;
  value = in-about w.value s.value;
  gradient = λ a k. in-about (w.gradient a (omega arith)) (s.gradient a k);
  support = λ q g. s.support q (rw w.sets.support at g);
  nonlinear = λ q g. s.nonlinear q (rw w.sets.nonlinear at g);
  outside-support = λ a o. s.outside-support a (rw w.sets.support at o);
  outside-nonlinear = λ a b o. s.outside-nonlinear a b (rw w.sets.nonlinear at o);
  spectrum = λ v. between-about w.spectrum (squares-in c.factors v _) (rw w.sets.nonlinear (s.spectrum v));
  full = λ v. between-about w.full (squares-all c.factors v) (s.full v);
}

-- ---- the hull of two
module _ (l m : Limits) where
  pub slope-hulled : (a : ℕ) → a < 8 → at (hull_limits l m).gradient a ≡ ends_hull (at l.gradient a) (at m.gradient a)
  unfolding hull_limits
  slope-hulled a k = at-eight (λ a. ends_hull (at l.gradient a) (at m.gradient a)) a k

  pub hull-first : Wider (hull_limits l m) l
  unfolding hull_limits
  hull-first = record {
    value = about-left l.value m.value;
    gradient = λ a k. rw (slope-hulled a k) (about-left (at l.gradient a) (at m.gradient a));
    spectrum = about-left l.spectrum m.spectrum;
    full = about-left l.full m.full;
    sets = record { support = refl; nonlinear = refl };
  }

  module _ (same : SameSets l m) where
    pub hull-second : Wider (hull_limits l m) m
    unfolding hull_limits
    hull-second = record {
      value = about-right l.value m.value;
      gradient = λ a k. rw (slope-hulled a k) (about-right (at l.gradient a) (at m.gradient a));
      spectrum = about-right l.spectrum m.spectrum;
      full = about-right l.full m.full;
      sets = record { support = same.support; nonlinear = same.nonlinear };
    }

    pub hull-shaped : (c : Codelist) → Shaped c l → Shaped c m → Shaped c (hull_limits l m)
    unfolding hull_limits
    hull-shaped c s t = record {
      beyond-factors = λ a f k. slope-hulled a k ∙ ap₂ ends_hull (s.beyond-factors a f k) (t.beyond-factors a f k);
      outside-support = λ a k o.
          slope-hulled a k ∙ ap₂ ends_hull (s.outside-support a k o) (t.outside-support a k (rw same.support at o));
      empty-nonlinear = λ e. ap₂ ends_hull (s.empty-nonlinear e) (t.empty-nonlinear (sym same.nonlinear ∙ e));
      support-factors = s.support-factors;
      nonlinear-factors = s.nonlinear-factors;
    }

  -- within the limit where both are
  pub hull-limits-valid : Valid l → Valid m → Valid (hull_limits l m)
  unfolding hull_limits is_valid
  hull-limits-valid v w = record {
    value = hull-valid l.value m.value v.value w.value;
    slopes = λ a. go a (ltb a 8) refl;
    spectrum = hull-valid l.spectrum m.spectrum v.spectrum w.spectrum;
    full = hull-valid l.full m.full v.full w.full;
  }
    where
      go : (a : ℕ) (t : Bool) → ltb a 8 ≡ t → is_valid (at (hull_limits l m).gradient a) ≡ true
      go a true e = rw (slope-hulled a (ltb-true a 8 e)) (hull-valid (at l.gradient a) (at m.gradient a) (v.slopes a) (w.slopes a))
      go a false e = rw (get_or-eq_default (hull_limits l m).gradient zero_range {n = a} (ltb-false a 8 e))

-- ---- the full bend is the bend, lifted to all factors
abbrev pub lifted : ℕ → Range → ℕ → Range
lifted n e b = sticky (extended (given e) b (all_of n))

hull-lifted : (t : Bool) (e f : Range) → is_valid e ≡ true → is_valid f ≡ true
    → ends_hull (cond t e (hull_of e zero_range)) (cond t f (hull_of f zero_range)) ≡ cond t (ends_hull e f) (hull_of (ends_hull e f) zero_range)
unfolding is_valid
hull-lifted true e f v w = refl
hull-lifted false e f v w =
    let z : (r : Range) → is_valid r ≡ true → hull_of r zero_range ≡ ends_hull r zero_range =
    λ r u. hull_of-is r zero_range u refl in
    ap₂ ends_hull (z e v) (z f w) ∙ hull-each e f zero_range ∙ sym (z (ends_hull e f) (hull-valid e f v w))

abbrev pub Lifted : ℕ → Limits → Type 0
Lifted n l = l.full ≡ lifted n l.spectrum l.nonlinear

pub hull-full : (n : ℕ) (l m : Limits) → SameSets l m → is_valid l.spectrum ≡ true → is_valid m.spectrum ≡ true → Lifted n l → Lifted n m
    → Lifted n (hull_limits l m)
unfolding hull_limits
hull-full n l m same v w x y =
    ap₂ ends_hull x (y ∙ ap (lifted n m.spectrum) (sym same.nonlinear))
    ∙ hull-lifted (eqb l.nonlinear (all_of n)) l.spectrum m.spectrum v w
