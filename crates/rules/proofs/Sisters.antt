-- 02, request 7: the two sums bound the difference of two premiums of one class: `sisters`. By the derivative of the premium on the way from
-- one boat to the other, which the slopes bound at each moment. Assumes nothing.
use mathlib.Core.Path.{◌≡◌, ◌∙◌, ap, subst}
use mathlib.Core.Bool.{Bool, true, false, not, cond}
use mathlib.Core.List.{List}
use Prim.Native.Nat.{ℕ, ◌<◌}
use lib.Dec.{T}
use lib.IntN.{ℤ}
use Rattle.algebra.proofs.Dot.{dot}
use Rattle.algebra.proofs.MeanValue.{rises-at-most, rises-at-least}
use Rattle.algebra.proofs.Moments.{Moment, at-start, at-end}
use Rattle.algebra.proofs.Ordered as Ord
use Rattle.algebra.proofs.Sum.{sum-longer, sum_mono}
use Rattle.codelist.specs.declared.Codelist.{Codelist}
use Rattle.exact.proofs.Archimedean.{ℚ-archimedean}
use Rattle.exact.proofs.Rat.{ℚ, ◌*ℚ◌, ◌≤ℚ◌, 0ℚ, 1ℚ, le_q, ℚ-ring, ℚ-ordered, ≤ℚ-refl, <ℚ→≤ℚ, *ℚ-comm, *ℚ-zero}
use Rattle.exact.proofs.Units.{units}
use Rattle.range.specs.declared.Range.{Range}
use Rattle.range.specs.Sums.{at}
use Rattle.range.proofs.Holds.{InRange}
use Rattle.rules.specs.declared.Limits.{Limits}
use Rattle.rules.specs.Rate.{last, rated, rate_of}
use Rattle.rules.specs.Exact.{Point, Jet, premium_of}
use Rattle.rules.specs.Promises.{Inside, Sound}
use Rattle.rules.specs.Sisters.{difference, least_product, greatest_product, least_difference, greatest_difference, Sisters, SisterBoats}
use Rattle.rules.proofs.Members.{beyond}
use Rattle.rules.proofs.Sparse.{support-below}
use Rattle.rules.proofs.Accepted.{accepted}
use Rattle.rules.proofs.Sound.{sound}
use Rattle.rules.proofs.Smooth.{rise}
use Rattle.rules.proofs.Ways.{way, way-inside, premium-start, premium-end}
use Rattle.rules.proofs.SmoothLines.{SmoothLine, smooth-premium}

-- ---- the least and the greatest products

-- m and M are the lesser and the greater of x and y
record Extremes (x y m M : ℚ) : Type 0 where
  low_x : m ≤ℚ x
  low-y : m ≤ℚ y
  high-x : x ≤ℚ M
  high-y : y ≤ℚ M

extremes : (x y : ℚ) → Extremes x y (cond (le_q x y) x y) (cond (le_q x y) y x)
extremes x y = go (le_q x y) (λ t. record { le = t }) (λ t. <ℚ→≤ℚ (record { lt = t }))
  where
    go : (b : Bool) → (T b → x ≤ℚ y) → (T (not b) → y ≤ℚ x) → Extremes x y (cond b x y) (cond b y x)
    go true f g = record { low_x = ≤ℚ-refl x; low-y = f tt; high-x = f tt; high-y = ≤ℚ-refl y }
    go false f g = record { low_x = g tt; low-y = ≤ℚ-refl y; high-x = ≤ℚ-refl x; high-y = g tt }

-- d times a number of the range g
module _ (g : Range) (d : ℚ) {s : ℚ} (i : InRange s g) where
  ends : Extremes (d *ℚ units g.low) (d *ℚ units g.high) (least_product g d) (greatest_product g d)
  unfolding least_product greatest_product
  ends =
      rw (*ℚ-comm d (units g.low), *ℚ-comm d (units g.high))
      (extremes (units g.low *ℚ d) (units g.high *ℚ d))

  least-below : least_product g d ≤ℚ d *ℚ s
  least-below = Ord.line-lower ℚ-ordered d i.low i.high ends.low_x ends.low-y

  greatest-above : d *ℚ s ≤ℚ greatest_product g d
  greatest-above = Ord.line-upper ℚ-ordered d i.low i.high ends.high-x ends.high-y

-- ---- on the way from p to q
module _ (c : Codelist) (xs : List ℤ) (l : Limits) (e : rate_of c xs ≡ rated l) (p q : Point) (i : Inside c xs p) (j : Inside c xs q) where
  abbrev n : ℕ
  n = c.factors

  abbrev d : ℕ → ℚ
  d = difference p q

  S : SmoothLine d (way n p q) (premium_of c) (last (accepted c xs l e).lines)
  S = smooth-premium (accepted c xs l e) p q i j

  -- the derivative of the premium at a moment
  module _ (τ : ℚ) (m : Moment ℚ-ordered τ) where
    at-moment : Sound c l (way n p q τ)
    at-moment = sound c xs l e (way n p q τ) (way-inside i j τ m)

    same : at-moment.premium ≡ S.given τ
    same = cc (at-moment.is-premium, S.is τ m)

    abbrev slope : ℕ → ℚ
    slope = (S.given τ).first

    -- the n factors alone count
    slopes : rise d slope ≡ dot ℚ-ring n d slope
    unfolding dot
    slopes =
        sum-longer ℚ-ring n 8 (accepted c xs l e).codelist.factors.1 (λ a k.
        let none : (S.given τ).first a ≡ 0ℚ =
        subst (λ (x : Jet). x.first a ≡ 0ℚ) same (at-moment.outside-support a (beyond (support-below c xs l e) a k)) in
        ap (λ s. d a *ℚ s) none ∙ *ℚ-zero (d a))

    inside : (a : ℕ) → a < n → InRange (slope a) (at l.gradient a)
    inside a k = subst (λ (x : Jet). InRange (x.first a) (at l.gradient a)) same (at-moment.gradient a k)

    least_at : least_difference n l.gradient p q ≤ℚ rise d slope
    unfolding least_difference dot
    least_at = rw slopes (sum_mono ℚ-ordered n (λ a k. least-below _ (d a) (inside a k)))

    greatest-at : rise d slope ≤ℚ greatest_difference n l.gradient p q
    unfolding greatest_difference dot
    greatest-at = rw slopes (sum_mono ℚ-ordered n (λ a k. greatest-above _ (d a) (inside a k)))

  two-boats : Sisters c l p q
  two-boats = record {
    one = S.given 0ℚ;
    other = S.given 1ℚ;
    is_one = premium-start c p q ∙ S.is 0ℚ (at-start ℚ-ordered);
    is-other = premium-end c p q ∙ S.is 1ℚ (at-end ℚ-ordered);
    least = rises-at-least ℚ-ordered ℚ-archimedean S.smooth.first least_at;
    greatest = rises-at-most ℚ-ordered ℚ-archimedean S.smooth.first greatest-at;
  }

pub sisters : SisterBoats
sisters = two-boats
