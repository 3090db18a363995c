-- What the tests on sets say of their members: sets that are apart share none, in either order, and a set of one has its one. Assumes nothing.
use mathlib.Core.Path.{◌≡◌, refl, sym, ◌∙◌, ap, subst}
use mathlib.Core.Bool.{Bool, true, false, not, ◌&&◌, and-false}
use Prim.Native.Nat.{ℕ, suc, ◌+◌, ◌-◌, ◌/◌, ◌%◌, ◌^◌, ◌<◌}
use native.Mathlib.Decide.{ℕ_discrete}
use native.Mathlib.Nat as N
use native.Mathlib.Omega.{arith}
use lib.Bits.{bit_and, and_comm}
use lib.Count.{ones}
use lib.Dec.{T, eqb, eqb→eq}
use borrow.Author.Tests.{eq-eqb}
use lib.Pow.{pow-add, pow_mono, shl-shr}
use Rattle.range.specs.Sums.{has}
use Rattle.range.proofs.Valid.{true-T, and_right, and_both, false-T, not-true}
use Rattle.rules.specs.Sets.{none, single, apart, is_single, only}
use Rattle.rules.proofs.Members.{digit, digit_lt, digit-and, no-members, one-digit, out_none, in-single, below-single}

in_both : (s t a : ℕ) → T (has s a) → T (has t a) → T (has (bit_and s t) a)
unfolding has
in_both s t a m n = subst (λ (d : ℕ). T (eqb d 1)) (both (eqb→eq (digit s a) 1 m) (eqb→eq (digit t a) 1 n)) tt
  where
    both : digit s a ≡ 1 → digit t a ≡ 1 → 1 ≡ digit (bit_and s t) a
    both p q = omega (arith, digit-and s t a)

pub apart-disjoint : (s t : ℕ) → T (apart s t) → (a : ℕ) → T (has s a) → ¬ T (has t a)
unfolding apart
apart-disjoint s t h a m n = out_none a (subst (λ (u : ℕ). T (has u a)) empty (in_both s t a m n))
  where
    empty : bit_and s t ≡ none
    empty =
        let rest = not (eqb t none) && eqb (bit_and s t) none in
        eqb→eq (bit_and s t) none (and_right (not (eqb t none)) (eqb (bit_and s t) none) (and_right (not (eqb s none)) rest h))

-- sets that are not empty and share no factor are apart
pub disjoint-apart : (s t : ℕ) → ¬ (s ≡ none) → ¬ (t ≡ none) → ((a : ℕ) → T (has s a) → ¬ T (has t a)) → T (apart s t)
unfolding apart has
disjoint-apart s t p q d =
    and_both (not (eqb s none)) _ (some s p)
    (and_both (not (eqb t none)) _ (some t q)
    (true-T (eq-eqb (bit_and s t) none (no-members (bit_and s t) (λ a m.
    let e : digit (bit_and s t) a ≡ 1 = eqb→eq (digit (bit_and s t) a) 1 m in
    d a (digit-one (digit s a) (omega (arith, digit-and s t a, digit_lt s a))) (digit-one (digit t a) (omega (arith, digit-and s t a, digit_lt t a))))))))
  where
    some : (m : ℕ) → ¬ (m ≡ none) → T (not (eqb m none))
    some m f = false-T {b = eqb m none} (not-true (λ t. f (eqb→eq m none t)))

    digit-one : (x : ℕ) → x ≡ 1 → T (eqb x 1)
    digit-one x e = true-T (eq-eqb x 1 e)

pub swapped : (a b c : Bool) → (a && (b && c)) ≡ (b && (a && c))
swapped true b c = refl
swapped false b c = sym (and-false b)

pub apart-comm : (s t : ℕ) → apart s t ≡ apart t s
unfolding apart
apart-comm s t = rw (and_comm s t) (swapped (not (eqb s none)) (not (eqb t none)) (eqb (bit_and t s) none))

-- ---- sets of one
-- the digit of 2^(j + 1 + a) at a
digit-below : (j a : ℕ) → 2 ^ (suc j + a) / 2 ^ a % 2 ≡ 0
digit-below j a =
    ap (λ (m : ℕ). m / 2 ^ a % 2) (pow-add 2 (suc j) a) ∙ ap (λ (m : ℕ). m % 2) (shl-shr (2 ^ suc j) a) ∙ omega (arith, N.pow-suc 2 j)

in-single-only : (i a : ℕ) → T (has (single i) a) → a ≡ i
unfolding has
in-single-only i a m = go (ℕ_discrete a i)
  where
    at_most : a < suc i
    at_most = (below-single (N.lt-suc_self i)).below a m

    split : ¬ (a ≡ i) → suc (i - suc a) + a ≡ i
    split d = omega (arith, at_most)

    go : Dec (a ≡ i) → a ≡ i
    go (yes e) = e
    go (no d) =
        omega (arith, eqb→eq (digit (single i) a) 1 m, subst (λ (k : ℕ). 2 ^ k / 2 ^ a % 2 ≡ 0) (split d) (digit-below (i - suc a) a))

-- `only s` is a factor, and the one member
pub record Only (s : ℕ) : Type 0 where
  pub below : only s < 8
  pub member : T (has s (only s))
  pub alone : (a : ℕ) → T (has s a) → a ≡ only s

pub single-only : (s : ℕ) → s < 256 → T (is_single s) → Only s
unfolding is_single only
single-only s small t = record {
  below = N.lt_of_not-le (λ k. omega (arith, is, pow_mono {i = 8} {j = only s} k));
  member = subst (λ (m : ℕ). T (has m (only s))) (sym is) (in-single (only s));
  alone = λ a m. in-single-only (only s) a (subst (λ (m : ℕ). T (has m a)) is m);
}
  where
    is : s ≡ single (only s)
    is = one-digit 8 s small (eqb→eq (ones s) 1 t)
