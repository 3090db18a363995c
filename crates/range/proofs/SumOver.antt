-- Sums over the factors of a set: equal, at most, or not negative where the summands of its members are; and lists of which the members are
-- valid. Assumes nothing.
use mathlib.Core.Path.{◌≡◌, refl, sym, ◌∙◌}
use mathlib.Core.Bool.{Bool, true, false, ◌||◌, not, cond}
use mathlib.Core.List.{List}
use Prim.Native.Nat.{ℕ, zero, suc, ◌<◌}
use native.Mathlib.Decide.{ℕ_discrete}
use native.Mathlib.Nat as N
use native.Mathlib.Omega.{arith}
use lib.Dec.{T}
use lib.IntN.{pos, ◌*ℤ◌}
use lib.Signed.{◌≤ℤ◌}
use Rattle.algebra.proofs.Ring as Ring
use Rattle.algebra.proofs.Ring.{CommRing}
use Rattle.algebra.proofs.Ordered as Ord
use Rattle.algebra.proofs.Ordered.{OrderedRing}
use Rattle.algebra.proofs.Sum as Sum
use Rattle.algebra.proofs.Int.{ℤ-ordered, ≤ℤ-trans}
use Rattle.range.specs.declared.Range.{Range}
use Rattle.range.specs.Limit.{is_valid}
use Rattle.range.specs.Sums.{has, sum_over, at, valid_below, valid_over, largest_square, square_sum}
use Rattle.range.proofs.Extremes.{greater-left}
use Rattle.range.proofs.Powers.{up_up}
use Rattle.range.proofs.Valid.{and_left, and_right, and_both}

-- ---- sums
-- the members' summands decide
module _ {R : Type 0} (𝓡 : CommRing R) (s : ℕ) {f g : ℕ → R} where
  pub sum_over-ext : ((a : ℕ) → a < 8 → T (has s a) → f a ≡ g a) → sum_over 𝓡.𝟘 𝓡.add s f ≡ sum_over 𝓡.𝟘 𝓡.add s g
  unfolding sum_over
  sum_over-ext e = Sum.sum-ext 𝓡 8 (λ a l. part (has s a) (e a l))
    where
      part : {x y : R} (c : Bool) → (T c → x ≡ y) → cond c x 𝓡.𝟘 ≡ cond c y 𝓡.𝟘
      part true h = h tt
      part false h = refl

-- a common factor
pub sum_over-scale : {R : Type 0} (𝓡 : CommRing R) (s : ℕ) (k : R) (f : ℕ → R)
    → sum_over 𝓡.𝟘 𝓡.add s (λ a. 𝓡.mul k (f a)) ≡ 𝓡.mul k (sum_over 𝓡.𝟘 𝓡.add s f)
unfolding sum_over
sum_over-scale {R} 𝓡 s k f = Sum.sum-ext 𝓡 8 (λ a l. part (has s a) (f a)) ∙ Sum.sum-scale 𝓡 8 k (λ a. cond (has s a) (f a) 𝓡.𝟘)
  where
    part : (c : Bool) (x : R) → cond c (𝓡.mul k x) 𝓡.𝟘 ≡ 𝓡.mul k (cond c x 𝓡.𝟘)
    part true x = refl
    part false x = sym (Ring.mul-zero 𝓡 k)

module _ {R : Type 0} (𝓞 : OrderedRing R) where
  infix 50 ◌≤◌
  open 𝓞 use {comm_ring as 𝓡, le as ◌≤◌, le_refl}
  open 𝓞.comm_ring use {𝟘}

  module _ (s : ℕ) {f g : ℕ → R} where
    pub sum_over-mono : ((a : ℕ) → a < 8 → T (has s a) → f a ≤ g a) → sum_over 𝓡.𝟘 𝓡.add s f ≤ sum_over 𝓡.𝟘 𝓡.add s g
    unfolding sum_over
    sum_over-mono h = Sum.sum_mono 𝓞 8 (λ a l. part (has s a) (h a l))
      where
        part : {x y : R} (c : Bool) → (T c → x ≤ y) → cond c x 𝟘 ≤ cond c y 𝟘
        part true k = k tt
        part false k = le_refl 𝟘

  pub sum_over-zero : (s : ℕ) → sum_over 𝓡.𝟘 𝓡.add s (λ a. 𝟘) ≡ 𝟘
  unfolding sum_over
  sum_over-zero s = Sum.sum-zero 𝓡 8 (λ a l. part (has s a))
    where
      part : (c : Bool) → cond c 𝟘 𝟘 ≡ 𝟘
      part true = refl
      part false = refl

  pub sum_over-nonneg : (s : ℕ) {f : ℕ → R} → ((a : ℕ) → a < 8 → T (has s a) → 𝟘 ≤ f a) → 𝟘 ≤ sum_over 𝓡.𝟘 𝓡.add s f
  sum_over-nonneg s h = Ord.eq-le 𝓞 (sym (sum_over-zero s)) (sum_over-mono s h)

-- ---- valid lists
-- an index below n + 1 is n or below n
last-or-before : (n a : ℕ) (P : ℕ → Type 0) → a < suc n → (a < n → P a) → P n → P a
last-or-before n a P l f p = go (ℕ_discrete n a)
  where
    go : Dec (n ≡ a) → P a
    go (yes e) = rw e at p
    go (no d) = f (omega arith)

implied : (c d : Bool) → T (not c || d) → T c → T d
implied true d t u = t
implied false d t u = absurd u

implies : (c d : Bool) → (T c → T d) → T (not c || d)
implies true d f = f tt
implies false d f = tt

module _ (s : ℕ) (g : List Range) where
  members-below : (n : ℕ) → T (valid_below n s g) → (a : ℕ) → a < n → T (has s a) → T (is_valid (at g a))
  unfolding valid_below
  members-below zero t a l = let f : ⊥ = omega arith in absurd f
  members-below (suc n) t a l =
      let rest = valid_below n s g in
      let this = not (has s n) || is_valid (at g n) in
      last-or-before n a (λ k. T (has s k) → T (is_valid (at g k))) l
      (members-below n (and_left rest this t) a)
      (implied (has s n) (is_valid (at g n)) (and_right rest this t))

  valid-below : (n : ℕ) → ((a : ℕ) → a < n → T (has s a) → T (is_valid (at g a))) → T (valid_below n s g)
  unfolding valid_below
  valid-below zero h = tt
  valid-below (suc n) h =
      and_both
      (valid_below n s g)
      (not (has s n) || is_valid (at g n))
      (valid-below n (λ a l. h a (omega arith)))
      (implies (has s n) (is_valid (at g n)) (h n (N.lt-suc_self n)))

  -- valid over s exactly where each member's range is
  pub members-valid : T (valid_over s g) → (a : ℕ) → a < 8 → T (has s a) → T (is_valid (at g a))
  members-valid = members-below 8

  pub valid-over : ((a : ℕ) → a < 8 → T (has s a) → T (is_valid (at g a))) → T (valid_over s g)
  valid-over = valid-below 8

-- ---- sums of squares are not negative
pub largest_square-nonneg : (r : Range) → pos 0 ≤ℤ largest_square r
unfolding largest_square
largest_square-nonneg r =
    ≤ℤ-trans (Ord.square-nonneg ℤ-ordered r.low) (greater-left (r.low *ℤ r.low) (r.high *ℤ r.high))

pub square_sum-nonneg : (s : ℕ) (g : List Range) → pos 0 ≤ℤ square_sum s g
unfolding square_sum
square_sum-nonneg s g = up_up.low _ (sum_over-nonneg ℤ-ordered s (λ a l u. largest_square-nonneg (at g a)))
