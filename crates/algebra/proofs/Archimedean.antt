-- What the mean value asks of an ordered ring: each number has a half, and no positive number stays below a bound however often it is doubled.
-- Assumes nothing.
use mathlib.Core.Path.{◌≡◌}
use Prim.Native.Nat.{ℕ}
use Rattle.algebra.proofs.Ring.{pow}
use Rattle.algebra.proofs.Ordered.{OrderedRing}

module _ {R : Type 0} (𝓞 : OrderedRing R) where
  infix 50 ◌≤◌
  infixl 65 ◌+◌
  infixl 70 ◌*◌
  open 𝓞 use {comm_ring as 𝓡, le as ◌≤◌}
  open 𝓞.comm_ring use {add as ◌+◌, mul as ◌*◌, 𝟘, num}

  pub record Archimedean : Type 0 where
    -- half of a number
    pub half : (d : R) → (s : R) × (s + s ≡ d)
    -- a number none of whose doublings passes K is not positive
    pub doublings : {x : R} (K : R) → ((k : ℕ) → x * pow 𝓡 (num 2) k ≤ K) → x ≤ 𝟘
