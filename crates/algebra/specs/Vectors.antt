-- Vectors as functions of the index, of which the coordinates 0 to n − 1 count: inner products and quadratic forms.
use Rattle.std.specs.Prelude.{Bool, cond, ℕ}
use Rattle.algebra.specs.Ring.{CommRing}
use Rattle.algebra.specs.Sum.{sum}

module _ {R : Type 0} (𝓡 : CommRing R) where
  infixl 70 ◌*ᴿ◌
  open 𝓡 use {mul as ◌*ᴿ◌, 𝟘}

  -- the inner product u·v
  unfoldable pub dot : ℕ → (ℕ → R) → (ℕ → R) → R
  dot n u v = sum 𝓡 n (λ a. u a *ᴿ v a)

  -- the quadratic form v'Hv: the sum of v_a·H_ab·v_b over all ordered pairs a, b
  unfoldable pub form : ℕ → (ℕ → ℕ → R) → (ℕ → R) → R
  form n H v = sum 𝓡 n (λ a. sum 𝓡 n (λ b. v a *ᴿ H a b *ᴿ v b))

  -- v within the set B, and 0 outside
  abbrev pub restricted : (ℕ → Bool) → (ℕ → R) → ℕ → R
  restricted B v a = cond (B a) (v a) 𝟘
