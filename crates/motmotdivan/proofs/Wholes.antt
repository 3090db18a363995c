-- What each way out of `whole_of` returns is the whole number of the double, in 64 bits.
use Rattle.std.proofs.Common.{◌<◌, cond, nat_abs, ◌≡◌, ℕ, zero, suc, ◌+◌, ◌-◌, ◌*◌, ◌^◌, ◌≤◌, min, Bool, true, false, ◌||◌, T, eqb, ◌⊎◌, ℤ, pos, negsuc, neg_ℤ, sym, refl, ap, ◌∙◌, subst, inl, inr, true≢false, le-div_iff_mul-le, arith, ltb-false, lt-ltb, eq-eqb, le-leb}
use lib.Ieee.{Float, nan, inf, fin, binary64, up, down, fits, le, lt, eq, to_signed, of_int, in_float}
use lib.Ieee.Back.{round_whole}
use lib.Ieee.Exact.{HasValue}
use lib.Ieee.Fits.{down_pos}
use lib.Ieee.Scale.{finite}
use Rattle.std.specs.Bool.{then_some}
use Rattle.std.specs.declared.option.Option.TheVariants.{Some, None}
use Rattle.motmotdivan.specs.Doubles.{whole, no_whole, signed, whole_of}
use Rattle.motmotdivan.specs.Views.{clamp, clamped}
use Rattle.motmotdivan.proofs.Parts.{q, r, few-digits, nothing_left, clamp-is, equal-whole}

-- A double is whole where nothing is left of its size besides the whole part
abbrev pub is_whole : Float → Bool
is_whole nan = false
is_whole (inf s) = false
is_whole (fin s m e) = eqb (r m e) 0

-- A whole double is its whole part in 64 bits, any other is none
whole-or-none : (x : Float) → then_some (is_whole x) (to_signed 63 x) ≡ clamped (whole_of x)
unfolding whole_of
whole-or-none nan = refl
whole-or-none (inf s) = refl
whole-or-none (fin s m e) = go (eqb (r m e) 0)
  where
    go : (t : Bool) → then_some t (to_signed 63 (fin s m e)) ≡ clamped (cond t (whole (signed s (q m e))) no_whole)
    go true = ap Some (clamp-is s m e)
    go false = refl

pub whole_is : (x : Float) → is_whole x ≡ true → Some (to_signed 63 x) ≡ clamped (whole_of x)
whole_is x h = ap (λ (t : Bool). then_some t (to_signed 63 x)) (sym h) ∙ whole-or-none x

pub none_is : (x : Float) → is_whole x ≡ false → None ≡ clamped (whole_of x)
none_is x h = ap (λ (t : Bool). then_some t (to_signed 63 x)) (sym h) ∙ whole-or-none x

-- A double whose whole part has more than 53 digits is whole
big : (s : Bool) (m : ℕ) (e : ℤ) → T (fits binary64 (fin s m e)) → 2 ^ 53 ≤ q m e → is_whole (fin s m e) ≡ true
big s m e f h = eq-eqb (r m e) 0 (nothing_left m e (few-digits s m e f) h)

reaches : (m : ℕ) (e : ℤ) → 2 ^ 63 * down e ≤ m * up e → 2 ^ 63 ≤ q m e
reaches m e h = (le-div_iff_mul-le (down_pos e)).1 h

-- A double below -2 ^ 63, or from 2 ^ 63 on
neither : (a b : Bool) → (a || b) ≡ false → a ≡ false
neither true b h = absurd (true≢false h)
neither false b h = refl

pub below_all : (x : Float) → T (finite x) → T (fits binary64 x) → le (fin true 1 (pos 63)) x ≡ false
    → Some (negsuc 9_223_372_036_854_775_807) ≡ clamped (whole_of x)
unfolding le lt eq to_signed
below_all nan g f h = absurd g
below_all (inf s) g f h = absurd g
below_all (fin false m e) g f h =
    absurd (omega (arith, ltb-false 0 (1 * 2 ^ 63 * down e + m * up e * 1) (neither _ _ h), down_pos e))
below_all (fin true m e) g f h =
    let l : 2 ^ 63 ≤ q m e = reaches m e (omega (arith, ltb-false (m * up e * 1) (1 * 2 ^ 63 * down e) (neither _ _ h))) in
    let c : min (q m e) (2 ^ 63) ≡ 2 ^ 63 = omega arith in
    ap (λ (n : ℕ). Some (neg_ℤ (pos n))) (sym c) ∙ whole_is (fin true m e) (big true m e f (omega arith))

pub above-all : (x : Float) → T (finite x) → T (fits binary64 x) → lt x (fin false 1 (pos 63)) ≡ false
    → Some (pos 9_223_372_036_854_775_807) ≡ clamped (whole_of x)
unfolding lt to_signed
above-all nan g f h = absurd g
above-all (inf s) g f h = absurd g
above-all (fin true m e) g f h =
    absurd (omega (arith, ltb-false 0 (m * up e * 1 + 1 * 2 ^ 63 * down e) h, down_pos e))
above-all (fin false m e) g f h =
    let l : 2 ^ 63 ≤ q m e = reaches m e (omega (arith, ltb-false (m * up e * 1) (1 * 2 ^ 63 * down e) h)) in
    let c : min (q m e) (2 ^ 63 - 1) ≡ 9_223_372_036_854_775_807 = omega arith in
    ap (λ (n : ℕ). Some (pos n)) (sym c) ∙ whole_is (fin false m e) (big false m e f (omega arith))

-- The test of the whole part against 2 ^ 53
big-test : (s : Bool) (n : ℕ) → 2 ^ 53 < nat_abs (clamp (signed s n)) → 2 ^ 53 ≤ n
big-test false n h = omega arith
big-test true zero h = omega arith
big-test true (suc n) h = omega arith

small-test : (s : Bool) (n : ℕ) → nat_abs (clamp (signed s n)) ≤ 2 ^ 53 → n ≤ 2 ^ 53
small-test false n h = omega arith
small-test true zero h = omega arith
small-test true (suc n) h = omega arith

-- Beyond 2 ^ 53 either way
pub wide-whole : (x : Float) → T (finite x) → T (fits binary64 x) → 2 ^ 53 < nat_abs (to_signed 63 x) → Some (to_signed 63 x) ≡ clamped (whole_of x)
unfolding whole_of
wide-whole nan g f h = absurd g
wide-whole (inf s) g f h = absurd g
wide-whole (fin s m e) g f h = rw (big s m e f (big-test s (q m e) (rw clamp-is at h))) (ap Some (clamp-is s m e))

-- Within 2 ^ 53 either way the double of the whole part has its value
record Value (s : Bool) (n : ℕ) : Type 0 where
  sign : Bool
  value : HasValue (of_int binary64 (signed s n)) sign n 1
  same : (sign ≡ s) ⊎ (n ≡ 0)

valued : (s : Bool) (n : ℕ) → n ≤ 2 ^ 53 → Value s n
unfolding of_int
valued false n h = record { sign = false; value = round_whole binary64 false n h; same = inl refl }
valued true zero h = record { sign = false; value = round_whole binary64 false zero h; same = inr refl }
valued true (suc n) h = record { sign = true; value = round_whole binary64 true (suc n) h; same = inl refl }

within : (s : Bool) (n : ℕ) → n ≤ 2 ^ 53 → clamp (signed s n) ≡ signed s n
within false n h = ap pos (omega arith)
within true zero h = refl
within true (suc n) h = ap negsuc (omega arith)

pub small-equal : (x : Float) → T (finite x) → nat_abs (to_signed 63 x) ≤ 2 ^ 53 → eq (of_int binary64 (to_signed 63 x)) x ≡ is_whole x
small-equal nan g h = absurd g
small-equal (inf s) g h = absurd g
small-equal (fin s m e) g h =
    let k = small-test s (q m e) (rw clamp-is at h) in
    let v = valued s (q m e) k in
    ap (λ (z : ℤ). eq (of_int binary64 z) (fin s m e)) (clamp-is s m e ∙ within s (q m e) k) ∙ equal-whole s v.sign m e _ v.value v.same

pub small-whole : (x : Float) → T (finite x) → nat_abs (to_signed 63 x) ≤ 2 ^ 53
    → then_some (eq (of_int binary64 (to_signed 63 x)) x) (to_signed 63 x) ≡ clamped (whole_of x)
small-whole x g h = rw (small-equal x g h) (whole-or-none x)

-- Up to 2 ^ 53 either way the machine's own conversion loses nothing
pub in-float : (z : ℤ) → nat_abs z ≤ 2 ^ 53 → T (in_float binary64 z)
unfolding in_float
in-float (pos n) h = subst T (sym (le-leb n (2 ^ 53) h)) tt
in-float (negsuc n) h = subst T (sym (lt-ltb n (2 ^ 53) h)) tt
