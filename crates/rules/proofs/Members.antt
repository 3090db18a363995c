-- Members of sets of factors: `T (has s a)` says that the factor a is in the set s. Digits, unions, inclusion, sets of one, and the first n
-- factors. Assumes nothing.
use mathlib.Core.Path.{◌≡◌, refl, sym, ◌∙◌, ap, subst}
use mathlib.Core.Bool.{Bool, true, false, ◌||◌}
use mathlib.Core.Logic.{⊎_elim, ◌⊎◌, inl, inr}
use Prim.Native.Nat.{ℕ, zero, suc, ◌+◌, ◌-◌, ◌*◌, ◌/◌, ◌%◌, ◌^◌, ◌≤◌, ◌<◌, min, max}
use native.Mathlib.Nat as N
use native.Mathlib.Omega.{arith}
use lib.Bits.{bit_or, bit_and, or_step, and_step, or_shr, and_shr, or_zero_l, or_zero_r}
use lib.Count.{ones, ones_step, ones-le, count_trailing_zeros}
use lib.Dec.{T, eqb, eqb→eq, lit<}
use lib.Pow.{pow_pos, pow-lt, pow_mono, high, high_ones, shr-shr}
use Rattle.range.specs.Sums.{has}
use Rattle.rules.specs.Sets.{none, single, all_of, ◌∪◌}

-- ════ digits ════

abbrev pub digit : ℕ → ℕ → ℕ
digit m i = m / 2 ^ i % 2

pub digit_lt : (m i : ℕ) → digit m i < 2
digit_lt m i = N.mod-lt (m / 2 ^ i) (lit< tt)

-- the lowest digit
or-low : (x y : ℕ) → bit_or x y % 2 ≡ max (x % 2) (y % 2)
or-low x y = omega (arith, or_step x y)

and_low : (x y : ℕ) → bit_and x y % 2 ≡ min (x % 2) (y % 2)
and_low x y = omega (arith, and_step x y)

pub digit_or : (a b i : ℕ) → digit (bit_or a b) i ≡ max (digit a i) (digit b i)
digit_or a b i = ap (λ (x : ℕ). x % 2) (or_shr a b i) ∙ or-low (a / 2 ^ i) (b / 2 ^ i)

pub digit-and : (a b i : ℕ) → digit (bit_and a b) i ≡ min (digit a i) (digit b i)
digit-and a b i = ap (λ (x : ℕ). x % 2) (and_shr a b i) ∙ and_low (a / 2 ^ i) (b / 2 ^ i)

-- ---- a mask with one digit is the power of the digit's place
half : (k : ℕ) {m : ℕ} → m < 2 ^ suc k → m / 2 < 2 ^ k
half k h = omega (arith, N.pow-suc 2 k)

no_digit : (k m : ℕ) → m < 2 ^ k → ones m ≡ 0 → m ≡ 0
no_digit zero m h e = omega arith
no_digit (suc k) m h e =
    let z : m / 2 ≡ 0 = no_digit k (m / 2) (half k h) (omega (arith, ones_step m)) in
    omega (arith, ones_step m)

odd-or-even : (m : ℕ) → (m % 2 ≡ 0) ⊎ (m % 2 ≡ 1)
odd-or-even m = go (m % 2) (omega arith)
  where
    go : (r : ℕ) → r < 2 → (r ≡ 0) ⊎ (r ≡ 1)
    go zero h = inl refl
    go (suc zero) h = inr refl
    go (suc (suc r)) h = absurd (omega arith)

pub one-digit : (k m : ℕ) → m < 2 ^ k → ones m ≡ 1 → m ≡ 2 ^ count_trailing_zeros k m
unfolding count_trailing_zeros
one-digit zero m h e = absurd (omega (arith, e, ones-le 0 m h))
one-digit (suc k) m h e =
    ⊎_elim
    (λ o.
    let ih : m / 2 ≡ 2 ^ count_trailing_zeros k (m / 2) = one-digit k (m / 2) (half k h) (omega (arith, ones_step m)) in
    rw o (omega (arith, ih, N.pow-suc 2 (count_trailing_zeros k (m / 2)))))
    (λ o.
    let z : m / 2 ≡ 0 = no_digit k (m / 2) (half k h) (omega (arith, ones_step m)) in
    rw o (omega arith))
    (odd-or-even m)

-- ════ unions ════

or_digits : (x y : ℕ) → x < 2 → y < 2 → eqb (max x y) 1 ≡ eqb x 1 || eqb y 1
or_digits zero zero h k = refl
or_digits zero (suc zero) h k = refl
or_digits (suc zero) zero h k = refl
or_digits (suc zero) (suc zero) h k = refl
or_digits zero (suc (suc y)) h k = let f : ⊥ = omega arith in absurd f
or_digits (suc zero) (suc (suc y)) h k = let f : ⊥ = omega arith in absurd f
or_digits (suc (suc x)) y h k = let f : ⊥ = omega arith in absurd f

pub has-union : (s t a : ℕ) → has (s ∪ t) a ≡ has s a || has t a
unfolding has
has-union s t a = ap (λ (d : ℕ). eqb d 1) (digit_or s t a) ∙ or_digits (digit s a) (digit t a) (digit_lt s a) (digit_lt t a)

or_left : (b c : Bool) → T b → T (b || c)
or_left true c t = tt
or_left false c t = absurd t

or_right : (b c : Bool) → T c → T (b || c)
or_right true c t = tt
or_right false c t = t

or-either : (b c : Bool) → T (b || c) → T b ⊎ T c
or-either true c t = inl tt
or-either false c t = inr t

-- ════ inclusion ════

infix 4 ◌⊆◌
pub record ◌⊆◌ (s t : ℕ) : Type 0 where
  pub into : (a : ℕ) → T (has s a) → T (has t a)

-- what is outside the larger set is outside the smaller
pub outside : {s t : ℕ} → s ⊆ t → (a : ℕ) → ¬ T (has t a) → ¬ T (has s a)
outside h a o m = o (h.into a m)

pub ⊆-refl : (s : ℕ) → s ⊆ s
⊆-refl s = record { into = λ a m. m }

pub ⊆-trans : {s t u : ℕ} → s ⊆ t → t ⊆ u → s ⊆ u
⊆-trans h k = record { into = λ a m. k.into a (h.into a m) }

module _ (s t : ℕ) where
  pub left-in : s ⊆ s ∪ t
  left-in = record { into = λ a m. subst T (sym (has-union s t a)) (or_left (has s a) (has t a) m) }

  pub right-in : t ⊆ s ∪ t
  right-in = record { into = λ a m. subst T (sym (has-union s t a)) (or_right (has s a) (has t a) m) }

  pub in_either : (a : ℕ) → T (has (s ∪ t) a) → T (has s a) ⊎ T (has t a)
  in_either a m = or-either (has s a) (has t a) (subst T (has-union s t a) m)

pub union-in : {s t u : ℕ} → s ⊆ u → t ⊆ u → (s ∪ t) ⊆ u
union-in {s} {t} h k = record { into = λ a m. ⊎_elim (h.into a) (k.into a) (in_either s t a m) }

pub ⊆-union : {s t u v : ℕ} → s ⊆ u → t ⊆ v → (s ∪ t) ⊆ (u ∪ v)
⊆-union {u = u} {v = v} h k = union-in (⊆-trans h (left-in u v)) (⊆-trans k (right-in u v))

-- ════ no factor, one factor, the first n factors ════

-- nothing is in the empty set
pub out_none : (a : ℕ) → ¬ T (has none a)
unfolding has
out_none a m = subst (λ (d : ℕ). T (eqb (d % 2) 1)) (N.zero-div (2 ^ a)) m

pub none_in : (s : ℕ) → none ⊆ s
none_in s = record { into = λ a m. absurd (out_none a m) }

-- a part adds nothing
pub part-union : (s t : ℕ) → t ⊆ s → s ∪ t ≡ s
unfolding has
part-union s t f = go t s t (N.le_refl t) f.into
  where
    go : (k s t : ℕ) → t ≤ k → ((a : ℕ) → T (has t a) → T (has s a)) → s ∪ t ≡ s
    go zero s t h f = let z : t ≡ 0 = omega arith in rw z (or_zero_r s)
    go (suc k) s t h f =
        let high : bit_or (s / 2) (t / 2) ≡ s / 2 = go k (s / 2) (t / 2) (omega arith) (λ a m. back s a (f (suc a) (forth t a m))) in
        ⊎_elim
        (λ e. omega (arith, or_step s t, high))
        (λ o.
        let m : T (eqb (s / 2 ^ 0 % 2) 1) = f 0 (subst (λ (x : ℕ). T (eqb x 1)) (sym (lowest t ∙ o)) tt) in
        let e : s % 2 ≡ 1 = sym (lowest s) ∙ eqb→eq (s / 2 ^ 0 % 2) 1 m in
        omega (arith, or_step s t, high))
        (odd-or-even t)
      where
        lowest : (m : ℕ) → m / 2 ^ 0 % 2 ≡ m % 2
        lowest m = ap (λ (x : ℕ). x % 2) (N.div-one m)

        next : (m a : ℕ) → m / 2 / 2 ^ a ≡ m / 2 ^ suc a
        next m a = shr-shr m 1 a ∙ ap (λ (x : ℕ). m / 2 ^ x) (omega arith)

        forth : (m a : ℕ) → T (eqb (m / 2 / 2 ^ a % 2) 1) → T (eqb (m / 2 ^ suc a % 2) 1)
        forth m a = subst (λ (x : ℕ). T (eqb (x % 2) 1)) (next m a)

        back : (m a : ℕ) → T (eqb (m / 2 ^ suc a % 2) 1) → T (eqb (m / 2 / 2 ^ a % 2) 1)
        back m a = subst (λ (x : ℕ). T (eqb (x % 2) 1)) (sym (next m a))

-- and a set that nothing is in is empty
pub no-members : (m : ℕ) → ((a : ℕ) → ¬ T (has m a)) → m ≡ none
no-members m f = sym (or_zero_l m) ∙ part-union none m (record { into = λ a t. absurd (f a t) })

pub in-single : (i : ℕ) → T (has (single i) i)
unfolding has
in-single i = subst (λ (d : ℕ). T (eqb (d % 2) 1)) (sym (N.div_self (pow_pos i))) tt

-- the digit at a of j + a ones: they are j ones above a ones
digit-of-ones : (j a : ℕ) → (2 ^ (j + a) - 1) / 2 ^ a ≡ 2 ^ j - 1
digit-of-ones j a = ap (λ (m : ℕ). m / 2 ^ a) split-ones ∙ high (2 ^ j - 1) a {lo = 2 ^ a - 1} (omega (arith, pow_pos a))
  where
    split-ones : 2 ^ (j + a) - 1 ≡ (2 ^ j - 1) * 2 ^ a + (2 ^ a - 1)
    split-ones = omega (arith, high_ones j a, pow_pos a, pow_mono {i = a} {j = j + a} (omega arith))

pub in_all : (n a : ℕ) → a < n → T (has (all_of n) a)
unfolding has
in_all n a h =
    subst (λ (m : ℕ). T (eqb (digit (all_of m) a) 1)) (omega arith)
    (subst (λ (d : ℕ). T (eqb (d % 2) 1)) (sym (digit-of-ones (suc (n - suc a)) a)) (odd (n - suc a)))
  where
    one_left : (j : ℕ) → 1 ≡ (2 ^ suc j - 1) % 2
    one_left j = omega (arith, N.pow-suc 2 j, pow_pos j)

    odd : (j : ℕ) → T (eqb ((2 ^ suc j - 1) % 2) 1)
    odd j = subst (λ (d : ℕ). T (eqb d 1)) (one_left j) tt

-- ---- sets that are within the first n factors
pub record Below (n s : ℕ) : Type 0 where
  pub below : (a : ℕ) → T (has s a) → a < n

pub beyond : {n s : ℕ} → Below n s → (a : ℕ) → n ≤ a → ¬ T (has s a)
beyond h a k m = N.not-le_of_lt (h.below a m) k

-- a mask below 2^n has no digit at or past n
pub below_power : (n s : ℕ) → s < 2 ^ n → Below n s
unfolding has
below_power n s h = record {
  below = λ a m.
      N.lt_of_not-le (λ k.
      let zero-digits : s / 2 ^ a ≡ 0 = N.div-eq_of_lt (omega (arith, pow_mono {i = n} {j = a} k)) in
      subst (λ (d : ℕ). T (eqb (d % 2) 1)) zero-digits m);
}

pub below-single : {n i : ℕ} → i < n → Below n (single i)
below-single {n} {i} h = below_power n (single i) (pow-lt {i = i} {j = n} h)

pub below-all_of : (n : ℕ) → Below n (all_of n)
below-all_of n = below_power n (all_of n) (omega (arith, pow_pos n))

pub below_all : {n s : ℕ} → Below n s → s ⊆ all_of n
below_all {n} h = record { into = λ a m. in_all n a (h.below a m) }
