-- A double is read, and a whole number written, without rounding.
use Rattle.std.proofs.Common.{◌≡◌, ℕ, zero, suc, ◌+◌, ◌*◌, ◌/◌, ◌%◌, ◌^◌, ◌<◌, ◌≤◌, true, false, cond, eqb, List, [], ◌∷◌, length, get_or, take, drop, ℤ, pos, negsuc, nat_abs, sym, refl, ap, ◌∙◌, subst, mul-one, mul-div_cancel, arith, take_at, eq-eqb}
use native.Mathlib.Nat.{mul-mod_left}
use lib.Dec.{eqb-suc-zero}
use lib.Ieee.{Float, nan, inf, fin, binary64, up, down, of_bits, to_bits, of_int}
use lib.Ieee.Back.{round_whole}
use lib.Ieee.Bits.{of_bits-to_bits, to_bits-lt}
use lib.Ieee.Fits.{down_pos, of_int-fits}
use lib.Seq.{drop-append-add}
use Rattle.encoding.specs.Bytes.{number_of}
use Rattle.encoding.proofs.Numbers.{number-back}
use Rattle.motmotdivan.specs.Doubles.{whole, no_whole, signed, whole_of, double_of}
use Rattle.motmotdivan.specs.Record.{pattern_at, doubles_of}
use Rattle.motmotdivan.specs.Quoting.{Exactly}
use Rattle.motmotdivan.proofs.Parts.{q, r, parts}
use Rattle.motmotdivan.proofs.Results.{double-length}

-- A double of which nothing is left is its whole part
pub read-sound : (x : Float) (z : ℤ) → whole_of x ≡ whole z → Exactly x z
unfolding whole_of
read-sound nan z p = absurd (let n : ◌≡◌ {A = ℕ} 0 1 = cc in omega arith)
read-sound (inf s) z p = absurd (let n : ◌≡◌ {A = ℕ} 0 1 = cc in omega arith)
read-sound (fin s m e) z p = go (r m e) refl p
  where
    go : (k : ℕ) → r m e ≡ k → cond (eqb k 0) (whole (signed s (q m e))) no_whole ≡ whole z → Exactly (fin s m e) z
    go zero h t = record { sign = s; size = q m e; value = (refl, omega (arith, parts m e, h)); is = cc }
    go (suc k) h t =
        let n : no_whole ≡ whole z = rw eqb-suc-zero at t in
        absurd (let c : ◌≡◌ {A = ℕ} 0 1 = cc in omega arith)

pub read-complete : (x : Float) (z : ℤ) → Exactly x z → whole_of x ≡ whole z
unfolding whole_of
read-complete nan z v = absurd v.value
read-complete (inf s) z v = absurd v.value
read-complete (fin s m e) z v =
    let h : m * up e ≡ v.size * down e = sym (mul-one (m * up e)) ∙ v.value.1 in
    let k : r m e ≡ 0 = ap (λ (n : ℕ). n % down e) h ∙ mul-mod_left v.size (down e) in
    let d : q m e ≡ v.size = ap (λ (n : ℕ). n / down e) h ∙ mul-div_cancel v.size (down_pos e) in
    rw (eq-eqb (r m e) 0 k, d, v.value.0) (ap whole v.is)

-- A whole number of at most 53 digits as a double has its value
written : (z : ℤ) → nat_abs z ≤ 2 ^ 53 → Exactly (of_int binary64 z) z
unfolding of_int
written (pos n) h = record { sign = false; size = n; value = round_whole binary64 false n h; is = refl }
written (negsuc n) h = record { sign = true; size = suc n; value = round_whole binary64 true (suc n) h; is = refl }

pattern-back : (z : ℤ) → of_bits binary64 (number_of (double_of z)) ≡ of_int binary64 z
unfolding double_of
pattern-back z =
    ap (of_bits binary64) (number-back 8 (to_bits binary64 (of_int binary64 z)) (to_bits-lt binary64 (of_int binary64 z) (of_int-fits binary64 z)))
    ∙ of_bits-to_bits binary64 (of_int binary64 z) (of_int-fits binary64 z)

-- the double at k of those that were written
pattern-at : (zs : List ℤ) (k : ℕ) → k < length zs → pattern_at (doubles_of zs) k ≡ number_of (double_of (get_or zs k (pos 0)))
unfolding doubles_of
pattern-at [] k h = absurd (omega arith)
pattern-at (z ∷ zs) zero h = ap number_of (take_at (double_of z) (doubles_of zs) 8 (double-length z))
pattern-at (z ∷ zs) (suc k) h =
    let e : 8 * suc k ≡ length (double_of z) + 8 * k = omega (arith, double-length z) in
    ap (λ (n : ℕ). number_of (take 8 (drop n (doubles_of (z ∷ zs))))) e
    ∙ ap (λ (t : List ℕ). number_of (take 8 t)) (drop-append-add (double_of z) (doubles_of zs) (8 * k))
    ∙ pattern-at zs k (omega arith)

pub double-exactly : (zs : List ℤ) (k : ℕ) → k < length zs → nat_abs (get_or zs k (pos 0)) ≤ 2 ^ 53
    → Exactly (of_bits binary64 (pattern_at (doubles_of zs) k)) (get_or zs k (pos 0))
double-exactly zs k h f =
    let z = get_or zs k (pos 0) in
    subst (λ (x : Float). Exactly x z) (sym (ap (of_bits binary64) (pattern-at zs k h) ∙ pattern-back z)) (written z f)
