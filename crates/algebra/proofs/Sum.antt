-- Finite sums: equal, at most, zero or nonnegative where the summands are; sums of sums, of multiples, of one summand.
use mathlib.Core.Path.{◌≡◌, refl, sym, ◌∙◌, ap, ap₂}
use Prim.Native.Nat.{ℕ, zero, suc, ◌<◌, ◌≤◌}
use native.Mathlib.Decide.{ℕ_discrete}
use native.Mathlib.Nat as N
use native.Mathlib.Omega.{arith}
use Rattle.algebra.proofs.Ring as Ring
use Rattle.algebra.proofs.Ring.{CommRing}
use Rattle.algebra.proofs.Ordered as Ord
use Rattle.algebra.proofs.Ordered.{OrderedRing}
pub use Rattle.algebra.specs.Sum.{sum}
unfoldable pub use Rattle.algebra.specs.Sum.{sum_below}

module _ {R : Type 0} (𝓡 : CommRing R) where
  infixl 65 ◌+◌
  infixl 70 ◌*◌
  open 𝓡 use {add as ◌+◌, mul as ◌*◌, 𝟘}

  -- the summands below n decide
  pub sum-ext : (n : ℕ) {f g : ℕ → R} → ((a : ℕ) → a < n → f a ≡ g a) → sum 𝓡 n f ≡ sum 𝓡 n g
  unfolding sum_below
  sum-ext zero e = refl
  sum-ext (suc n) e = ap₂ ◌+◌ (e n (N.lt-suc_self n)) (sum-ext n (λ a h. e a (omega arith)))

  pub sum-zero : (n : ℕ) {f : ℕ → R} → ((a : ℕ) → a < n → f a ≡ 𝟘) → sum 𝓡 n f ≡ 𝟘
  unfolding sum_below
  sum-zero zero e = refl
  sum-zero (suc n) e = ap₂ ◌+◌ (e n (N.lt-suc_self n)) (sum-zero n (λ a h. e a (omega arith))) ∙ 𝓡.add-zero 𝟘

  pub sum-add : (n : ℕ) (f g : ℕ → R) → sum 𝓡 n (λ a. f a + g a) ≡ sum 𝓡 n f + sum 𝓡 n g
  unfolding sum_below
  sum-add zero f g = sym (𝓡.add-zero 𝟘)
  sum-add (suc n) f g = ap (f n + g n +◌) (sum-add n f g) ∙ Ring.interchange 𝓡 (f n) (g n) (sum 𝓡 n f) (sum 𝓡 n g)

  pub sum-scale : (n : ℕ) (k : R) (f : ℕ → R) → sum 𝓡 n (λ a. k * f a) ≡ k * sum 𝓡 n f
  unfolding sum_below
  sum-scale zero k f = sym (Ring.mul-zero 𝓡 k)
  sum-scale (suc n) k f = ap (k * f n +◌) (sum-scale n k f) ∙ sym (𝓡.mul-add k (f n) (sum 𝓡 n f))

  -- one summand that may differ from 0
  pub sum-only : (n : ℕ) {k : ℕ} {f : ℕ → R} → k < n → ((a : ℕ) → a < n → ¬ (a ≡ k) → f a ≡ 𝟘) → sum 𝓡 n f ≡ f k
  unfolding sum_below
  sum-only zero h e = let f : ⊥ = omega arith in absurd f
  sum-only (suc n) {k} {f} h e = go (ℕ_discrete n k) (λ l. sum-only n l (λ a m. e a (omega arith)))
    where
      go : Dec (n ≡ k) → (k < n → sum 𝓡 n f ≡ f k) → f n + sum 𝓡 n f ≡ f k
      go (yes p) r = ap₂ ◌+◌ (ap f p) (sum-zero n (λ a l. e a (omega arith) (λ q. omega arith))) ∙ 𝓡.add-zero (f k)
      go (no q) r = ap₂ ◌+◌ (e n (N.lt-suc_self n) q) (r (omega arith)) ∙ Ring.zero-add 𝓡 (f k)

  -- summands that are 0 from n on
  pub sum-longer : (n m : ℕ) {f : ℕ → R} → n ≤ m → ((a : ℕ) → n ≤ a → f a ≡ 𝟘) → sum 𝓡 m f ≡ sum 𝓡 n f
  unfolding sum_below
  sum-longer n zero {f} h e = let p : 0 ≡ n = omega arith in ap (λ k. sum 𝓡 k f) p
  sum-longer n (suc m) {f} h e = go (ℕ_discrete (suc m) n) (λ l. sum-longer n m l e)
    where
      go : Dec (suc m ≡ n) → (n ≤ m → sum 𝓡 m f ≡ sum 𝓡 n f) → f m + sum 𝓡 m f ≡ sum 𝓡 n f
      go (yes p) r = ap (λ k. sum 𝓡 k f) p
      go (no q) r = let l : n ≤ m = omega arith in ap₂ ◌+◌ (e m l) (r l) ∙ Ring.zero-add 𝓡 (sum 𝓡 n f)

module _ {R : Type 0} (𝓞 : OrderedRing R) where
  infix 50 ◌≤ᴿ◌
  open 𝓞 use {comm_ring as 𝓡, le as ◌≤ᴿ◌, le_refl}
  open 𝓞.comm_ring use {𝟘}

  pub sum_mono : (n : ℕ) {f g : ℕ → R} → ((a : ℕ) → a < n → f a ≤ᴿ g a) → sum 𝓡 n f ≤ᴿ sum 𝓡 n g
  unfolding sum_below
  sum_mono zero h = le_refl 𝟘
  sum_mono (suc n) h = Ord.add-mono 𝓞 (h n (N.lt-suc_self n)) (sum_mono n (λ a l. h a (omega arith)))

  pub sum_nonneg : (n : ℕ) {f : ℕ → R} → ((a : ℕ) → a < n → 𝟘 ≤ᴿ f a) → 𝟘 ≤ᴿ sum 𝓡 n f
  sum_nonneg n h = Ord.eq-le 𝓞 (sym (sum-zero 𝓡 n (λ a l. refl))) (sum_mono n h)
