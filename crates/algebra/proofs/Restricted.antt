-- Sums over the indices in a set: of disjoint sets they add up, of a larger set they are larger, and of a set of one they are its summand.
use mathlib.Core.Path.{◌≡◌, refl, sym, ◌∙◌, ap}
use mathlib.Core.Bool.{Bool, true, false, cond, ◌||◌}
use Prim.Native.Nat.{ℕ, ◌<◌}
use lib.Dec.{T}
use Rattle.algebra.proofs.Ring as Ring
use Rattle.algebra.proofs.Ring.{CommRing}
use Rattle.algebra.proofs.Ordered.{OrderedRing}
use Rattle.algebra.proofs.Sum.{sum, sum-ext, sum-add, sum-only, sum_mono}
use Rattle.algebra.proofs.Vectors.{dot}
pub use Rattle.algebra.specs.Vectors.{restricted}

module _ {R : Type 0} (𝓡 : CommRing R) where
  infixl 65 ◌+◌
  infixl 70 ◌*◌
  open 𝓡 use {add as ◌+◌, mul as ◌*◌, 𝟘}

  cond-in : (b : Bool) (x : R) → T b → cond b x 𝟘 ≡ x
  cond-in true x t = refl
  cond-in false x t = absurd t

  cond-out : (b : Bool) (x : R) → ¬ T b → cond b x 𝟘 ≡ 𝟘
  cond-out true x f = absurd (f tt)
  cond-out false x f = refl

  module _ (n : ℕ) (B : ℕ → Bool) where
    -- summands that vanish outside the set
    pub sum-restricted : {f : ℕ → R} → ((a : ℕ) → a < n → ¬ T (B a) → f a ≡ 𝟘) → sum 𝓡 n (restricted 𝓡 B f) ≡ sum 𝓡 n f
    sum-restricted z = sum-ext 𝓡 n (λ a l. part (B a) (z a l))
      where
        part : {x : R} (b : Bool) → (¬ T b → x ≡ 𝟘) → cond b x 𝟘 ≡ x
        part true h = refl
        part false h = sym (h (λ t. t))

    pub dot-restricted : (u v : ℕ → R) → dot 𝓡 n (restricted 𝓡 B u) (restricted 𝓡 B v) ≡ sum 𝓡 n (restricted 𝓡 B (λ a. u a * v a))
    unfolding dot
    dot-restricted u v = sum-ext 𝓡 n (λ a l. part (B a) (u a) (v a))
      where
        part : (b : Bool) (x y : R) → cond b x 𝟘 * cond b y 𝟘 ≡ cond b (x * y) 𝟘
        part true x y = refl
        part false x y = Ring.mul-zero 𝓡 𝟘

    -- a set of one
    pub sum-single : {k : ℕ} (f : ℕ → R) → k < n → T (B k) → ((a : ℕ) → T (B a) → a ≡ k) → sum 𝓡 n (restricted 𝓡 B f) ≡ f k
    sum-single {k} f l t only = sum-only 𝓡 n l (λ a p d. cond-out (B a) (f a) (λ m. d (only a m))) ∙ cond-in (B k) (f k) t

    -- disjoint sets
    pub sum-disjoint : (C D : ℕ → Bool) (f : ℕ → R) → ((a : ℕ) → D a ≡ B a || C a) → ((a : ℕ) → T (B a) → ¬ T (C a))
        → sum 𝓡 n (restricted 𝓡 D f) ≡ sum 𝓡 n (restricted 𝓡 B f) + sum 𝓡 n (restricted 𝓡 C f)
    sum-disjoint C D f union apart =
        sum-ext 𝓡 n (λ a l. ap (λ d. cond d (f a) 𝟘) (union a) ∙ part (B a) (C a) (f a) (apart a))
        ∙ sum-add 𝓡 n (restricted 𝓡 B f) (restricted 𝓡 C f)
      where
        part : (b c : Bool) (x : R) → (T b → ¬ T c) → cond (b || c) x 𝟘 ≡ cond b x 𝟘 + cond c x 𝟘
        part true true x h = absurd (h tt tt)
        part true false x h = sym (𝓡.add-zero x)
        part false c x h = sym (Ring.zero-add 𝓡 (cond c x 𝟘))

module _ {R : Type 0} (𝓞 : OrderedRing R) where
  infix 50 ◌≤◌
  open 𝓞 use {comm_ring as 𝓡, le as ◌≤◌, le_refl}
  open 𝓞.comm_ring use {𝟘}

  -- a larger set
  pub sum-larger : (n : ℕ) (B C : ℕ → Bool) {f : ℕ → R} → ((a : ℕ) → 𝟘 ≤ f a) → ((a : ℕ) → T (B a) → T (C a))
      → sum 𝓡 n (restricted 𝓡 B f) ≤ sum 𝓡 n (restricted 𝓡 C f)
  sum-larger n B C h into = sum_mono 𝓞 n (λ a l. part (B a) (C a) (h a) (into a))
    where
      part : {x : R} (b c : Bool) → 𝟘 ≤ x → (T b → T c) → cond b x 𝟘 ≤ cond c x 𝟘
      part true true p i = le_refl _
      part true false p i = absurd (i tt)
      part false true p i = p
      part false false p i = le_refl 𝟘
