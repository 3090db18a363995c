-- Patterns of eight bytes: as a number, which are finite, and that a whole number's is no NaN's.
use Rattle.std.proofs.Common.{◌≡◌, ℕ, zero, suc, ◌+◌, ◌*◌, ◌/◌, ◌%◌, ◌^◌, ◌<◌, ◌≤◌, Bool, true, false, cond, not, T, eqb, ltb, leb, List, [], ◌∷◌, ◌++◌, length, get_or, take, drop, ℤ, pos, negsuc, sym, refl, ap, ◌∙◌, subst, mul_assoc, arith, length-drop, length-take-le, drop-drop, take-add, drop_of_length-le, ltb-false, ltb-true, le-ltb, eq-eqb, ne_eqb}
use native.Mathlib.Nat.{pow-succ'}
use lib.Ieee.{Float, nan, inf, binary64, odd, units, round, of_int, is_nan, of_fields, of_bits, nan_bits, prec, low, hid}
use lib.Ieee.Bits.{nan_bits_above}
use lib.Ieee.Fits.{round_is}
use lib.Ieee.Scale.{finite}
use Rattle.std.specs.Int.{w64, from_le_bytes, to_le_bytes}
use Rattle.encoding.specs.Bytes.{number_of, low_first}
use Rattle.encoding.proofs.Numbers.{number-four}
use Rattle.motmotdivan.specs.Doubles.{no_whole, whole_of}
use Rattle.motmotdivan.specs.Views.{finite_pattern}

number-step : (s : List ℕ) (k : ℕ) → number_of (drop k s) ≡ get_or s k 0 + 256 * number_of (drop (suc k) s)
unfolding number_of
number-step [] zero = refl
number-step [] (suc k) = refl
number-step (x ∷ xs) zero = refl
number-step (x ∷ xs) (suc k) = number-step xs k

number_append : (xs ys : List ℕ) → number_of (xs ++ ys) ≡ number_of xs + 256 ^ length xs * number_of ys
unfolding number_of
number_append [] ys = omega arith
number_append (x ∷ xs) ys =
    let e : 256 ^ suc (length xs) ≡ 256 * 256 ^ length xs = pow-succ' 256 (length xs) in
    rw (number_append xs ys, e, mul_assoc 256 (256 ^ length xs) (number_of ys)) (omega arith)

number-halves : (s : List ℕ) (at : ℕ) → at + 8 ≤ length s
    → number_of (take 8 (drop at s)) ≡ number_of (take 4 (drop at s)) + 4_294_967_296 * number_of (take 4 (drop (at + 4) s))
number-halves s at h =
    let l : length (take 4 (drop at s)) ≡ 4 = length-take-le 4 (drop at s) (omega (arith, length-drop at s)) in
    ap number_of (take-add 4 4 (drop at s)) ∙ number_append (take 4 (drop at s)) (take 4 (drop 4 (drop at s)))
    ∙ rw (l, drop-drop 4 at s)

-- Eight bytes from a place on, one by one
pub number-eight : (s : List ℕ) (at : ℕ) → at + 8 ≤ length s → number_of (take 8 (drop at s))
    ≡ get_or s at 0 + 256 * get_or s (at + 1) 0 + 65_536 * get_or s (at + 2) 0 + 16_777_216 * get_or s (at + 3) 0 + 4_294_967_296 * get_or s (at + 4) 0
    + 1_099_511_627_776 * get_or s (at + 5) 0 + 281_474_976_710_656 * get_or s (at + 6) 0 + 72_057_594_037_927_936 * get_or s (at + 7) 0
number-eight s at h =
    let a : at + 4 + 1 ≡ at + 5 = omega arith in
    let b : at + 4 + 2 ≡ at + 6 = omega arith in
    let c : at + 4 + 3 ≡ at + 7 = omega arith in
    number-halves s at h ∙ rw (number-four s at (omega arith), number-four s (at + 4) (omega arith), a, b, c) (omega arith)

-- Eight bytes as std has them
pub eight-read : (s : List ℕ) → length s ≡ 8 → from_le_bytes w64 s ≡ number_of s
unfolding number_of
eight-read s h =
    let z : number_of (drop 8 s) ≡ 0 = ap number_of (drop_of_length-le s {i = 8} (omega arith)) in
    omega (arith, number-step s 0, number-step s 1, number-step s 2, number-step s 3, number-step s 4, number-step s 5, number-step s 6, number-step s 7)

pub eight-written : (u : ℕ) → to_le_bytes w64 u ≡ low_first 8 u
unfolding low_first
eight-written u =
    let b : u / 65536 ≡ u / 256 / 256 = omega arith in
    let c : u / 16777216 ≡ u / 256 / 256 / 256 = omega arith in
    let d : u / 4294967296 ≡ u / 256 / 256 / 256 / 256 = omega arith in
    let e : u / 1099511627776 ≡ u / 256 / 256 / 256 / 256 / 256 = omega arith in
    let f : u / 281474976710656 ≡ u / 256 / 256 / 256 / 256 / 256 / 256 = omega arith in
    let g : u / 72057594037927936 ≡ u / 256 / 256 / 256 / 256 / 256 / 256 / 256 = omega arith in
    rw (b, c, d, e, f, g)

-- Which patterns are finite: those whose exponent's field is not all ones
odd-finite : (d : ℕ) (s : Bool) (n k l : ℕ) → T (finite (odd d s n k l))
unfolding odd
odd-finite d s zero k l = tt
odd-finite d s (suc n) k l = tt

field-finite : (s : Bool) (x t : ℕ) → x < 2047 → T (finite (of_fields binary64 s x t))
unfolding of_fields
field-finite s zero t h = odd-finite (prec binary64) s t 0 (low binary64)
field-finite s (suc x) t h = rw (ne_eqb (suc x) 2047 (λ e. omega arith)) (odd-finite (prec binary64) s (hid binary64 + t) x (low binary64))

field-ones : (s : Bool) (x t : ℕ) → x ≡ 2047 → whole_of (of_fields binary64 s x t) ≡ no_whole
unfolding of_fields whole_of
field-ones s zero t h = absurd (omega arith)
field-ones s (suc x) t h = rw (eq-eqb (suc x) 2047 h) (go (eqb t 0))
  where
    go : (b : Bool) → whole_of (cond b (inf s) nan) ≡ no_whole
    go true = refl
    go false = refl

abbrev most : ℕ
most = 9_218_868_437_227_405_312

abbrev unsigned : ℕ → ℕ
unsigned p = p % 9_223_372_036_854_775_808

pub pattern-finite : (p : ℕ) → finite_pattern p ≡ true → T (finite (of_bits binary64 p))
unfolding of_bits
pattern-finite p e =
    let h = ltb-true (unsigned p) most e in
    field-finite (leb (2 ^ 63) p) (p % 2 ^ 63 / 2 ^ 52) (p % 2 ^ 52) (omega arith)

pub pattern-not-finite : (p : ℕ) → finite_pattern p ≡ false → whole_of (of_bits binary64 p) ≡ no_whole
unfolding of_bits
pattern-not-finite p e =
    let h = ltb-false (unsigned p) most e in
    field-ones (leb (2 ^ 63) p) (p % 2 ^ 63 / 2 ^ 52) (p % 2 ^ 52) (omega arith)

-- a half, which stands for one that is not finite: no whole number either
abbrev a-half : ℕ
a-half = 4_602_678_819_172_646_912

pub half-none : whole_of (of_bits binary64 a-half) ≡ no_whole
unfolding whole_of of_bits
half-none = refl

pub half-finite : T (finite (of_bits binary64 a-half))
half-finite = pattern-finite a-half refl

pub pattern_number : (p : ℕ) → finite_pattern p ≡ true → T (not (nan_bits binary64 p))
pattern_number p e =
    let h = ltb-true (unsigned p) most e in
    subst (λ (b : Bool). T (not b)) (sym (nan_bits_above binary64 p ∙ le-ltb (2047 * 2 ^ 52) (p % 2 ^ 63) (omega arith))) tt

-- A whole number as a double is no NaN
abbrev IsNumber : Float → Type 0
IsNumber x = T (not (is_nan x))

odd_number : (d : ℕ) (s : Bool) (n k l : ℕ) → IsNumber (odd d s n k l)
unfolding odd is_nan
odd_number d s zero k l = tt
odd_number d s (suc n) k l = tt

units_number : (s : Bool) (n k : ℕ) → IsNumber (units binary64 s n k)
unfolding units is_nan
units_number s n k = go (ltb (n * 2 ^ k) (2 ^ (low binary64 + 1024)))
  where
    go : (b : Bool) → IsNumber (cond b (odd 54 s n k (low binary64)) (inf s))
    go true = odd_number 54 s n k (low binary64)
    go false = tt

round_number : (s : Bool) (n : ℕ) → IsNumber (round binary64 s n 1)
round_number s n = subst IsNumber (sym (round_is binary64 s n 1)) (units_number s _ _)

pub whole-number : (z : ℤ) → T (not (is_nan (of_int binary64 z)))
unfolding of_int
whole-number (pos n) = round_number false n
whole-number (negsuc n) = round_number true (suc n)
