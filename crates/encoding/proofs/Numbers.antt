-- A number in bytes, the lowest first, and a constant as such a number; and back.
use Prim.Native.Nat.{ℕ, suc, zero, ◌+◌, ◌-◌, ◌*◌, ◌/◌, ◌%◌, ◌^◌, ◌≤◌, ◌<◌}
use mathlib.Core.Bool.{true}
use mathlib.Core.List.{List, [], ◌∷◌}
use mathlib.Core.Path.{◌≡◌, refl, ap, ◌∙◌}
use native.Mathlib.Decide.{dec_lt}
use native.Mathlib.Nat.{pow-succ'}
use native.Mathlib.Numerals.{add-one}
use native.Mathlib.Omega.{arith}
use lib.Dec.{ltb}
use lib.IntN.{ℤ, pos, negsuc, nat_abs, ◌+ℤ◌, ◌-ℤ◌}
use lib.ListN.{length, get_or, take, drop}
use lib.Signed.{mag}
use mir.Facts.{to_z_pos, to_z-of_z}
use mir.Syntax.{w64}
use mir.Val.{SFits, to_z, of_z}
use borrow.Author.Tests.{lt-ltb, le-ltb, ltb-true}
use Rattle.std.specs.Int.{w32, from_le_bytes, to_le_bytes}
use Rattle.exact.specs.Units.{limit}
use Rattle.codelist.proofs.Laws.{back, both_true}
use Rattle.encoding.specs.Bytes.{are_bytes, low_first, number_of}
use Rattle.encoding.specs.Encode.{shifted}
use Rattle.encoding.specs.Decode.{constant_of}
use Rattle.encoding.proofs.Bytes.{first}

pub number-back : (k u : ℕ) → u < 256 ^ k → number_of (low_first k u) ≡ u
unfolding number_of low_first
number-back zero u h = omega arith
number-back (suc k) u h =
    let e : 256 ^ suc k ≡ 256 * 256 ^ k = pow-succ' 256 k in
    let r = number-back k (u / 256) (omega arith) in
    omega arith

pub low-first-back : (xs : List ℕ) → are_bytes xs ≡ true → low_first (length xs) (number_of xs) ≡ xs
unfolding are_bytes number_of low_first
low-first-back [] e = refl
low-first-back (x ∷ xs) e =
    let b = both_true (ltb x 256) (are_bytes xs) e in
    let h : x < 256 = ltb-true x 256 b.0 in
    let m : (x + 256 * number_of xs) % 256 ≡ x = omega arith in
    let d : (x + 256 * number_of xs) / 256 ≡ number_of xs = omega arith in
    rw (m, d) (ap (λ (t : List ℕ). x ∷ t) (low-first-back xs b.1))

-- Four bytes of a list as a number
number_step : (s : List ℕ) (at next k : ℕ) → at + 1 ≡ next → at < length s
    → number_of (take (suc k) (drop at s)) ≡ get_or s at 0 + 256 * number_of (take k (drop next s))
unfolding number_of
number_step s at next k e h = rw (first s at k h, ← e, add-one at)

pub number-four : (s : List ℕ) (at : ℕ) → at + 4 ≤ length s → number_of (take 4 (drop at s))
    ≡ get_or s at 0 + 256 * (get_or s (at + 1) 0 + 256 * (get_or s (at + 2) 0 + 256 * get_or s (at + 3) 0))
unfolding number_of
number-four s at h =
    let a = number_step s at (at + 1) 3 refl (omega arith) in
    let b = number_step s (at + 1) (at + 2) 2 (omega arith) (omega arith) in
    let c = number_step s (at + 2) (at + 3) 1 (omega arith) (omega arith) in
    let d = number_step s (at + 3) (at + 4) 0 (omega arith) (omega arith) in
    omega arith

-- The four bytes of a number as std has them
pub four-read : (s : List ℕ) → 8 ≤ length s
    → from_le_bytes w32 (get_or s 4 0 ∷ get_or s 5 0 ∷ get_or s 6 0 ∷ get_or s 7 0 ∷ []) ≡ number_of (take 4 (drop 4 s))
four-read s h = let e = number-four s 4 (omega arith) in omega arith

pub four-written : (u : ℕ) → to_le_bytes w32 u ≡ low_first 4 u
unfolding low_first
four-written u =
    let p : u / 65536 ≡ u / 256 / 256 = omega arith in
    let q : u / 16777216 ≡ u / 256 / 256 / 256 = omega arith in
    rw (p, q)

pub shifted-small : (c : ℤ) → nat_abs c ≤ limit → shifted c < 256 ^ 4
shifted-small (pos n) h = omega arith
shifted-small (negsuc n) h = omega arith

pub constant-back : (c : ℤ) → nat_abs c ≤ limit → constant_of (shifted c) ≡ c
constant-back (pos n) h = rw (le-ltb (limit + n) limit (omega arith)) (ap pos (omega arith))
constant-back (negsuc n) h = rw (lt-ltb (limit - suc n) limit (omega arith)) (ap negsuc (omega arith))

pub shifted_back : (u : ℕ) → shifted (constant_of u) ≡ u
shifted_back u =
    elim (dec_lt u limit) [
      | yes h ↦ rw (lt-ltb u limit h) (omega arith)
      | no h ↦ rw (le-ltb u limit (omega arith)) (omega arith)
    ]

-- The constant of a number below 2 ^ 32, as the code works it out
constant-small : (u : ℕ) → u < 4_294_967_296 → SFits w64 (constant_of u)
constant-small u h =
    elim (dec_lt u limit) [
      | yes l ↦ rw (lt-ltb u limit l) (record { sfits = omega arith })
      | no l ↦ rw (le-ltb u limit (omega arith)) (record { sfits = omega arith })
    ]

pub constant-fits : (u : ℕ) → u < 4_294_967_296 → SFits w64 (to_z w64 u -ℤ pos limit)
constant-fits u h = rw (to_z_pos w64 {n = u} (omega arith)) (constant-small u h)

pub constant-is : (u : ℕ) → u < 4_294_967_296 → to_z w64 (of_z w64 (to_z w64 u -ℤ pos limit)) ≡ constant_of u
constant-is u h = to_z-of_z (constant-fits u h) ∙ ap (λ (z : ℤ). z -ℤ pos limit) (to_z_pos w64 {n = u} (omega arith))

-- A constant within the limit plus the limit, as the code works it out
sum_is : (c : ℤ) → nat_abs c ≤ limit → c +ℤ pos limit ≡ pos (shifted c)
sum_is (pos n) h = ap pos (omega arith)
sum_is (negsuc n) h = rw (le-ltb limit (suc n) h)

pub shift_is : (c : ℤ) → nat_abs c ≤ limit → to_z w64 (of_z w64 c) +ℤ pos limit ≡ pos (shifted c)
shift_is c h = ap (λ (z : ℤ). z +ℤ pos limit) (back c (small c h)) ∙ sum_is c h
  where
    small : (z : ℤ) → nat_abs z ≤ limit → mag z < 2 ^ 63
    small (pos n) g = omega arith
    small (negsuc n) g = omega arith

pub shift_fits : (c : ℤ) → nat_abs c ≤ limit → SFits w64 (to_z w64 (of_z w64 c) +ℤ pos limit)
shift_fits c h = rw (shift_is c h) (record { sfits = omega (arith, shifted-small c h) })

pub shift-read : (c : ℤ) → nat_abs c ≤ limit → to_z w64 (of_z w64 (to_z w64 (of_z w64 c) +ℤ pos limit)) ≡ pos (shifted c)
shift-read c h = to_z-of_z (shift_fits c h) ∙ shift_is c h
