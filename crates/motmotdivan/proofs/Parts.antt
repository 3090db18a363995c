-- A finite double by its parts: the whole part q of its size and what is left of it, r. From 2 ^ 53 on nothing is left.
use Rattle.std.proofs.Common.{◌≡◌, ℕ, zero, suc, ◌+◌, ◌*◌, ◌/◌, ◌%◌, ◌^◌, ◌<◌, ◌≤◌, min, Bool, true, false, ◌&&◌, T, eqb, ltb, leb, ◌⊎◌, ℤ, pos, negsuc, neg_ℤ, sym, refl, ap, ◌∙◌, inl, inr, true≢false, zero-lt-suc, mul-pos, div-add-mod', div-le_self, arith, lit<, ltb→lt, eq-eqb, ne_eqb}
use mathlib.Core.Bool.{false≢true}
use lib.Dec.{eqb-suc-zero}
use lib.Ieee.{Float, nan, inf, fin, binary64, low, up, down, fits, eq, level, to_signed}
use lib.Ieee.Exact.{HasValue}
use lib.Ieee.Fits.{and_l, and_r, down_pos}
use Rattle.motmotdivan.specs.Doubles.{signed}
use Rattle.motmotdivan.specs.Views.{clamp}

abbrev pub q : ℕ → ℤ → ℕ
q m e = m * up e / down e

abbrev pub r : ℕ → ℤ → ℕ
r m e = m * up e % down e

pub parts : (m : ℕ) (e : ℤ) → q m e * down e + r m e ≡ m * up e
parts m e = div-add-mod' (m * up e) (down e)

pub few-digits : (s : Bool) (m : ℕ) (e : ℤ) → T (fits binary64 (fin s m e)) → m < 2 ^ 53
unfolding fits
few-digits s zero e h = lit< tt
few-digits s (suc m) e h =
    let odd = eqb (suc m % 2) 1 in
    let few = ltb (suc m) (2 ^ 53) in
    let fine = leb (down e) (2 ^ low binary64) in
    ltb→lt (suc m) (2 ^ 53) (and_r odd few (and_l (odd && few) fine (and_l (odd && few && fine) (ltb (suc m * up e) (2 ^ 1024 * down e)) h)))

pub nothing_left : (m : ℕ) (e : ℤ) → m < 2 ^ 53 → 2 ^ 53 ≤ q m e → r m e ≡ 0
nothing_left m (pos k) h l = omega arith
nothing_left m (negsuc k) h l = absurd (omega (arith, div-le_self (m * 1) (2 ^ suc k)))

-- The whole part, in 64 bits
pub clamp-is : (s : Bool) (m : ℕ) (e : ℤ) → to_signed 63 (fin s m e) ≡ clamp (signed s (q m e))
unfolding to_signed
clamp-is false m e = refl
clamp-is true m e = go (q m e)
  where
    go : (n : ℕ) → neg_ℤ (pos (min n (2 ^ 63))) ≡ clamp (neg_ℤ (pos n))
    go zero = refl
    go (suc n) = let h : min (suc n) (2 ^ 63) ≡ suc (min n 9_223_372_036_854_775_807) = omega arith in ap (λ (k : ℕ). neg_ℤ (pos k)) h

-- A double that has the whole part for its value is equal exactly where nothing is left
level-same : (u s : Bool) (a b : ℕ) → a ≡ b → (u ≡ s) ⊎ (a ≡ 0) → level u a s b ≡ true
level-same true true a b e o = rw (eq-eqb a b e)
level-same false false a b e o = rw (eq-eqb a b e)
level-same true false a b e (inl p) = absurd (true≢false p)
level-same true false a b e (inr p) = rw (eq-eqb a b e, eq-eqb a 0 p)
level-same false true a b e (inl p) = absurd (false≢true p)
level-same false true a b e (inr p) = rw (eq-eqb a b e, eq-eqb a 0 p)

level-apart : (u s : Bool) (a b : ℕ) → a < b → level u a s b ≡ false
level-apart u s a b h = rw (ne_eqb a b (λ e. omega arith))

-- two sizes over one denominator: n of which d make q, and m of which q times e and k are left
over : (n d q e k m : ℕ) → n * 1 ≡ q * d → q * e + k ≡ m → m * d ≡ n * e + k * d
over n d q e k m h g = omega (arith, ap (λ (x : ℕ). x * e) h, ap (λ (x : ℕ). x * d) g)

none : (n d q e : ℕ) → n * 1 ≡ q * d → q ≡ 0 → n * e ≡ 0
none n d q e h z =
    let c : n ≡ 0 = omega (arith, ap (λ (x : ℕ). x * d) z) in
    omega (arith, ap (λ (x : ℕ). x * e) c)

pub equal-whole : (s t : Bool) (m : ℕ) (e : ℤ) (y : Float) → HasValue y t (q m e) 1 → (t ≡ s) ⊎ (q m e ≡ 0) → eq y (fin s m e) ≡ eqb (r m e) 0
unfolding eq
equal-whole s t m e nan v o = absurd v
equal-whole s t m e (inf u) v o = absurd v
equal-whole s t m e (fin u n d) v o = go (r m e) (over (n * up d) (down d) (q m e) (down e) (r m e) (m * up e) v.1 (parts m e)) (signs o)
  where
    a : ℕ
    a = n * up d * down e

    b : ℕ
    b = m * up e * down d

    signs : (t ≡ s) ⊎ (q m e ≡ 0) → (u ≡ s) ⊎ (a ≡ 0)
    signs (inl w) = inl (v.0 ∙ w)
    signs (inr w) = inr (none (n * up d) (down d) (q m e) (down e) v.1 w)

    go : (k : ℕ) → b ≡ a + k * down d → (u ≡ s) ⊎ (a ≡ 0) → level u a s b ≡ eqb k 0
    go zero h w = level-same u s a b (omega (arith, h)) w
    go (suc k) h w =
        let more : 0 < suc k * down d = mul-pos (zero-lt-suc k) (down_pos d) in
        level-apart u s a b (omega (arith, h)) ∙ sym (eqb-suc-zero k)
