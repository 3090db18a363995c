-- Division by a shift of the dividend, as 64 bits work it out: each step fits, and what is left is the quotient. And what lets the dividends of the code
-- be shifted. Assumes nothing.
use mathlib.Core.Path.{◌≡◌, sym, ap, ap₂, ◌∙◌}
use Prim.Native.Nat.{ℕ, ◌+◌, ◌*◌, ◌/◌, ◌≤◌, ◌<◌}
use native.Mathlib.Nat as N
use native.Mathlib.Omega.{arith}
use lib.Dec.{T, lit<, lit≤}
use lib.IntN.{ℤ, pos, negsuc, nat_abs, ◌+ℤ◌, ◌-ℤ◌, ◌*ℤ◌}
use lib.Signed.{non_neg, ◌≤ℤ◌, ◌<ℤ◌}
use mir.Syntax.{w64}
use mir.Val.{Fits, SFits, to_z}
use mir.ValLaws.{to_z-of_z, to_z_pos}
use Rattle.algebra.proofs.Ordered as Ord
use Rattle.algebra.proofs.Int.{ints, ℤ-ordered, add-dif, sub-dif, within-abs, *ℤ-one, *ℤ-nonneg, ≤ℤ-trans, ≤ℤ-of-≡, <ℤ→≤ℤ}
use Rattle.exact.proofs.Div.{floor_div, ceil_div}
use Rattle.exact.proofs.Machine.{fits-abs, floor-lowered, ceil-lowered}
use Rattle.range.specs.Limit.{from_to}
use Rattle.range.specs.Steps.{Shiftable}
use Rattle.range.proofs.Fitting.{held}

-- ---- numbers of at most 9·10^18, either sign, which 64 bits hold
record Near (z : ℤ) : Type 0 where
  few : nat_abs z ≤ 9000000000000000000

near : (z : ℤ) → negsuc 8999999999999999999 ≤ℤ z → z ≤ℤ pos 9000000000000000000 → Near z
near z l h = record { few = within-abs 9000000000000000000 z l h }

module _ {z : ℤ} (h : Near z) where
  fits : SFits w64 z
  fits = fits-abs z (omega (arith, h.few))

  is_held : held z ≡ z
  is_held = to_z-of_z w64 z fits

  unsigned : pos 0 ≤ℤ z → T (non_neg z) × Fits w64 (nat_abs z)
  unsigned p = go z h.few p
    where
      go : (z : ℤ) → nat_abs z ≤ 9000000000000000000 → pos 0 ≤ℤ z → T (non_neg z) × Fits w64 (nat_abs z)
      go (pos n) h p = (tt, omega arith)
      go (negsuc n) h p = absurd p.le

-- ════ the steps ════

module _ {x d k : ℤ} (s : Shiftable x d k) where
  -- the dividend raised by k times the divisor, and d − 1 more; as they are, and as they are worked out
  abbrev raised : ℤ
  raised = x +ℤ k *ℤ d

  abbrev more : ℤ
  more = raised +ℤ (d -ℤ pos 1)

  abbrev raised' : ℤ
  raised' = held (held x +ℤ held (held k *ℤ held d))

  abbrev more' : ℤ
  more' = held (raised' +ℤ held (held d -ℤ pos 1))

  -- ---- how far they go
  shift-nonneg : pos 0 ≤ℤ (k *ℤ d)
  shift-nonneg = *ℤ-nonneg s.times (<ℤ→≤ℤ s.divisor)

  more-nonneg : pos 0 ≤ℤ more
  more-nonneg = omega (ints, s.divisor, s.above, add-dif raised (d -ℤ pos 1), sub-dif d (pos 1))

  times-few : k ≤ℤ pos 9000000000000000000
  times-few =
      let one : pos 1 ≤ℤ d = omega (ints, s.divisor) in
      ≤ℤ-trans (≤ℤ-trans (≤ℤ-of-≡ (sym (*ℤ-one k))) (Ord.mul-le-left ℤ-ordered s.times one)) s.shift

  dividend-near : Near x
  dividend-near =
      near x (omega (ints, s.above, s.shift, add-dif x (k *ℤ d)))
      (omega (ints, s.divisor, s.below, shift-nonneg, add-dif x (k *ℤ d), add-dif raised d))

  divisor-near : Near d
  divisor-near = near d (omega (ints, s.divisor)) (omega (ints, s.above, s.below, add-dif raised d))

  times-near : Near k
  times-near = near k (omega (ints, s.times)) times-few

  shift-near : Near (k *ℤ d)
  shift-near = near (k *ℤ d) (omega (ints, shift-nonneg)) s.shift

  raised-near : Near raised
  raised-near = near raised (omega (ints, s.above)) (omega (ints, s.divisor, s.below, add-dif raised d))

  rest-near : Near (d -ℤ pos 1)
  rest-near =
      near (d -ℤ pos 1) (omega (ints, s.divisor, sub-dif d (pos 1))) (omega (ints, s.above, s.below, add-dif raised d, sub-dif d (pos 1)))

  more-near : Near more
  more-near =
      near more (omega (ints, more-nonneg)) (omega (ints, s.below, add-dif raised (d -ℤ pos 1), add-dif raised d, sub-dif d (pos 1)))

  -- ---- the dividend
  pub shift_fits : SFits w64 (held k *ℤ held d)
  shift_fits = rw (is_held times-near, is_held divisor-near) (fits shift-near)

  shift_is : held (held k *ℤ held d) ≡ k *ℤ d
  shift_is = to_z-of_z w64 _ shift_fits ∙ ap₂ ◌*ℤ◌ (is_held times-near) (is_held divisor-near)

  pub raised-fits : SFits w64 (held x +ℤ held (held k *ℤ held d))
  raised-fits = rw (is_held dividend-near, shift_is) (fits raised-near)

  raised_is : raised' ≡ raised
  raised_is = to_z-of_z w64 _ raised-fits ∙ ap₂ ◌+ℤ◌ (is_held dividend-near) shift_is

  pub raised-unsigned : T (non_neg raised') × Fits w64 (nat_abs raised')
  raised-unsigned = rw raised_is (unsigned raised-near s.above)

  pub rest-fits : SFits w64 (held d -ℤ pos 1)
  rest-fits = rw (is_held divisor-near) (fits rest-near)

  rest-is : held (held d -ℤ pos 1) ≡ d -ℤ pos 1
  rest-is = to_z-of_z w64 _ rest-fits ∙ ap (◌-ℤ pos 1) (is_held divisor-near)

  pub more-fits : SFits w64 (raised' +ℤ held (held d -ℤ pos 1))
  more-fits = rw (raised_is, rest-is) (fits more-near)

  more-is : more' ≡ more
  more-is = to_z-of_z w64 _ more-fits ∙ ap₂ ◌+ℤ◌ raised_is rest-is

  pub more-unsigned : T (non_neg more') × Fits w64 (nat_abs more')
  more-unsigned = rw more-is (unsigned more-near more-nonneg)

  -- ---- the divisor
  pub divisor-unsigned : T (non_neg (held d)) × Fits w64 (nat_abs (held d))
  divisor-unsigned = rw (is_held divisor-near) (unsigned divisor-near (<ℤ→≤ℤ s.divisor))

  pub divisor-some : 0 < nat_abs (held d)
  divisor-some = rw (is_held divisor-near) (go d s.divisor)
    where
      go : (z : ℤ) → pos 0 <ℤ z → 0 < nat_abs z
      go (pos n) p = omega ints
      go (negsuc n) p = absurd p.lt

  -- ---- the quotient, and lowered by k
  module _ {u u' : ℤ} (h : Near u) (e : u' ≡ u) where
    abbrev quotient : ℕ
    quotient = nat_abs u / nat_abs d

    few-parts : quotient ≤ 9000000000000000000
    few-parts = N.le_trans (N.div-le_self (nat_abs u) (nat_abs d)) h.few

    quotient_fits : SFits w64 (pos (nat_abs u' / nat_abs (held d)))
    quotient_fits = rw (e, is_held divisor-near) (fits (record { few = few-parts }))

    lowered : to_z w64 (nat_abs u' / nat_abs (held d)) -ℤ held k ≡ pos quotient -ℤ k
    lowered = rw (e, is_held divisor-near, is_held times-near, to_z_pos w64 quotient (omega (arith, few-parts)))

    lowered-fits : SFits w64 (to_z w64 (nat_abs u' / nat_abs (held d)) -ℤ held k)
    lowered-fits =
        rw lowered
        (fits
        (near (pos quotient -ℤ k) (omega (ints, times-few, sub-dif (pos quotient) k)) (omega (ints, few-parts, s.times, sub-dif (pos quotient) k))))

    lowered-held : held (to_z w64 (nat_abs u' / nat_abs (held d)) -ℤ held k) ≡ pos quotient -ℤ k
    lowered-held = to_z-of_z w64 _ lowered-fits ∙ lowered

  pub floor-quotient-fits : SFits w64 (pos (nat_abs raised' / nat_abs (held d)))
  floor-quotient-fits = quotient_fits raised-near raised_is

  pub floor-fits : SFits w64 (to_z w64 (nat_abs raised' / nat_abs (held d)) -ℤ held k)
  floor-fits = lowered-fits raised-near raised_is

  pub floor-made : held (to_z w64 (nat_abs raised' / nat_abs (held d)) -ℤ held k) ≡ floor_div x (nat_abs d)
  floor-made = lowered-held raised-near raised_is ∙ floor-lowered d s.divisor x k s.above

  pub ceil-quotient-fits : SFits w64 (pos (nat_abs more' / nat_abs (held d)))
  ceil-quotient-fits = quotient_fits more-near more-is

  pub ceil-fits : SFits w64 (to_z w64 (nat_abs more' / nat_abs (held d)) -ℤ held k)
  ceil-fits = lowered-fits more-near more-is

  pub ceil-made : held (to_z w64 (nat_abs more' / nat_abs (held d)) -ℤ held k) ≡ ceil_div x (nat_abs d)
  ceil-made = lowered-held more-near more-is ∙ ceil-lowered d s.divisor x k s.above

-- ════ the dividends ════

-- of at most k times the divisor d, either sign, as they are passed on
pub shiftable : (x : ℤ) (d k : ℕ) → 0 < d → nat_abs x ≤ k * d → 2 * (k * d) + d ≤ 9000000000000000000 → Shiftable (held x) (pos d) (pos k)
shiftable x d k p h b =
    rw (is_held {z = x} (record { few = omega arith }))
    (record {
      divisor = omega ints;
      times = omega ints;
      shift = omega ints;
      above = above x h;
      below = below x h;
    })
  where
    above : (x : ℤ) → nat_abs x ≤ k * d → pos 0 ≤ℤ (x +ℤ pos (k * d))
    above (pos n) h = omega (ints, add-dif (pos n) (pos (k * d)))
    above (negsuc n) h = omega (ints, add-dif (negsuc n) (pos (k * d)))

    below : (x : ℤ) → nat_abs x ≤ k * d → (x +ℤ pos (k * d) +ℤ pos d) ≤ℤ pos 9000000000000000000
    below (pos n) h = omega (ints, add-dif (pos n) (pos (k * d)), add-dif (pos n +ℤ pos (k * d)) (pos d))
    below (negsuc n) h = omega (ints, add-dif (negsuc n) (pos (k * d)), add-dif (negsuc n +ℤ pos (k * d)) (pos d))

-- products of two ends
pub product-shiftable : (x : ℤ) → nat_abs x ≤ 4000000000000000000 → Shiftable (held x) (pos 10000) (pos 400000000000000)
product-shiftable x h = shiftable x 10000 400000000000000 (lit< tt) h (lit≤ tt)

-- not below 0, so that nothing has to be added
pub unshifted : (n : ℕ) (d : ℤ) → pos 0 <ℤ d → (pos n +ℤ d) ≤ℤ pos 9000000000000000000 → Shiftable (pos n) d (pos 0)
unshifted n (pos m) p b = record { divisor = p; times = omega ints; shift = omega ints; above = omega ints; below = omega ints }
unshifted n (negsuc m) p b = absurd p.lt

-- two ends, divided by 10,000
module _ {a b l h : ℤ} (p : SFits w64 a) (q : SFits w64 b) (f : SFits w64 l) (g : SFits w64 h) where
  pub ends-divided : l ≡ floor_div (held a) 10000 → h ≡ ceil_div (held b) 10000 → from_to (held l) (held h) ≡ from_to (floor_div a 10000) (ceil_div b 10000)
  ends-divided d e = rw (to_z-of_z w64 l f, to_z-of_z w64 h g, d, e, to_z-of_z w64 a p, to_z-of_z w64 b q)
