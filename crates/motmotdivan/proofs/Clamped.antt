-- Numbers in 64 bits: read back from their bits they are the same, and rating tells no number beyond the limit from another.
use Rattle.std.proofs.Common.{◌≡◌, ℕ, zero, suc, ◌^◌, ◌<◌, ◌≤◌, Bool, true, false, cond, List, [], ◌∷◌, map, ℤ, pos, negsuc, nat_abs, sym, refl, ap, ◌∙◌, inl, inr, arith, w64, to_z, of_z}
use native.Mathlib.Decide.{dec_lt}
use lib.ListN.{length-map}
use lib.Signed.{mag}
use Rattle.algebra.proofs.Int.{<-in}
use Rattle.exact.specs.Units.{limit}
use Rattle.codelist.specs.declared.Codelist.{Codelist}
use Rattle.codelist.proofs.Laws.{back}
use Rattle.range.specs.declared.Range.{Range}
use Rattle.range.specs.Limit.{from_to, is_valid}
use Rattle.rules.specs.Overflow.{Beyond}
use Rattle.rules.specs.Rate.{pairs, first_bad, rate_ranges, rate_of}
use Rattle.rules.proofs.Passing.{bad-iff, good-iff}
use Rattle.std.specs.declared.option.Option.TheVariants.{Some, None}
use Rattle.motmotdivan.specs.Doubles.{Number, whole, no_whole}
use Rattle.motmotdivan.specs.Views.{clamp, clamped}

-- ---- 64 bits
clamp-small : (z : ℤ) → mag (clamp z) < 2 ^ 63
clamp-small (pos n) = omega arith
clamp-small (negsuc n) = omega arith

pub is-back : (x : Number) (z : ℤ) → clamped x ≡ Some z → to_z w64 (of_z w64 z) ≡ z
is-back (whole y) z e = let c : clamp y ≡ z = cc in ap (λ (w : ℤ). to_z w64 (of_z w64 w)) (sym c) ∙ back (clamp y) (clamp-small y) ∙ c
is-back no_whole z e = cc

pub not-whole : (x : Number) → clamped x ≡ None → x ≡ no_whole
not-whole (whole y) e = cc
not-whole no_whole e = refl

-- a number that there is in 64 bits is that of a whole one
pub record Clamped (x : Number) (z : ℤ) : Type 0 where
  pub exact : ℤ
  pub is : x ≡ whole exact
  pub near : clamp exact ≡ z

pub is-clamped : (x : Number) (z : ℤ) → clamped x ≡ Some z → Clamped x z
is-clamped (whole y) z e = record { exact = y; is = refl; near = cc }
is-clamped no_whole z e = cc

-- ---- the limit
pub kept : (z : ℤ) → nat_abs z ≤ limit → clamp z ≡ z
kept (pos n) h = ap pos (omega arith)
kept (negsuc n) h = ap negsuc (omega arith)

far : (z : ℤ) → limit < nat_abs z → limit < nat_abs (clamp z)
far (pos n) h = omega arith
far (negsuc n) h = omega arith

beyond : (z : ℤ) → limit < nat_abs z → Beyond z
beyond (pos n) h = inr (<-in (omega arith))
beyond (negsuc n) h = inl (<-in (omega arith))

-- ---- rating
valid-clamp : (l h : ℤ) → is_valid (from_to (clamp l) (clamp h)) ≡ is_valid (from_to l h)
valid-clamp l h =
    elim (dec_lt limit (nat_abs l)) [
      | yes p ↦ (bad-iff (from_to (clamp l) (clamp h))).1 (inr (inl (beyond (clamp l) (far l p)))) ∙ sym ((bad-iff (from_to l h)).1 (inr (inl (beyond l p))))
      | no p ↦ elim (dec_lt limit (nat_abs h)) [
        | yes q ↦ (bad-iff (from_to (clamp l) (clamp h))).1 (inr (inr (beyond (clamp h) (far h q)))) ∙ sym ((bad-iff (from_to l h)).1 (inr (inr (beyond h q))))
        | no q ↦ rw (kept l (omega arith), kept h (omega arith))
      ]
    ]

-- the ends of a valid range are within the limit
pub valid-ends : (r : Range) → is_valid r ≡ true → (nat_abs r.low ≤ limit) × (nat_abs r.high ≤ limit)
valid-ends r v =
    let g = (good-iff r).0 v in (
      elim (dec_lt limit (nat_abs r.low)) [
        | yes p ↦ absurd (g (inr (inl (beyond r.low p))))
        | no p ↦ omega arith
      ],
      elim (dec_lt limit (nat_abs r.high)) [
        | yes p ↦ absurd (g (inr (inr (beyond r.high p))))
        | no p ↦ omega arith
      ],
    )

bad-same : (a : ℕ) (xs : List ℤ) → first_bad a (pairs (map clamp xs)) ≡ first_bad a (pairs xs)
unfolding first_bad
bad-same a [] = refl
bad-same a (l ∷ []) = refl
bad-same a (l ∷ h ∷ xs) = rw (valid-clamp l h, bad-same (suc a) xs)

good-same : (a : ℕ) (xs : List ℤ) → first_bad (suc a) (pairs xs) ≡ 0 → pairs (map clamp xs) ≡ pairs xs
unfolding first_bad
good-same a [] e = refl
good-same a (l ∷ []) e = refl
good-same a (l ∷ h ∷ xs) e = go (is_valid (from_to l h)) refl (good-same (suc a) xs) e
  where
    go : (t : Bool) → is_valid (from_to l h) ≡ t → (first_bad (suc (suc a)) (pairs xs) ≡ 0 → pairs (map clamp xs) ≡ pairs xs)
        → cond t (first_bad (suc (suc a)) (pairs xs)) (suc a) ≡ 0 → pairs (map clamp (l ∷ h ∷ xs)) ≡ pairs (l ∷ h ∷ xs)
    go true v more f =
        let w = valid-ends (from_to l h) v in
        rw (kept l w.0, kept h w.1, more f)
    go false v more f = absurd (omega arith)

bad-either : (c : Codelist) (rs ss : List Range) (a : ℕ) → rate_ranges c rs (suc a) ≡ rate_ranges c ss (suc a)
unfolding rate_ranges
bad-either c rs ss a = refl

-- RATING IS THE SAME of numbers in 64 bits: 9 at the same factor, or the same ranges
pub rate-clamped : (c : Codelist) (xs : List ℤ) → rate_of c (map clamp xs) ≡ rate_of c xs
unfolding rate_of
rate-clamped c xs = rw (length-map xs clamp, bad-same 1 xs, ranges (first_bad 1 (pairs xs)) refl)
  where
    ranges : (n : ℕ) → first_bad 1 (pairs xs) ≡ n → rate_ranges c (pairs (map clamp xs)) n ≡ rate_ranges c (pairs xs) n
    ranges zero e = ap (λ (rs : List Range). rate_ranges c rs zero) (good-same 0 xs e)
    ranges (suc a) e = bad-either c (pairs (map clamp xs)) (pairs xs) a
