-- Ordered commutative rings: a total order with which sums and products of nonnegatives agree.
use Rattle.std.specs.Prelude.{◌≡◌, ◌⊎◌}
use Rattle.algebra.specs.Ring.{CommRing}

pub record OrderedRing (R : Type 0) : Type 1 where
  pub comm_ring : CommRing R
  pub le : R → R → Type 0
  pub le_prop : (a b : R) → IsProp (le a b)
  pub le_refl : (a : R) → le a a
  pub le_trans : {a b c : R} → le a b → le b c → le a c
  pub le_antisym : {a b : R} → le a b → le b a → a ≡ b
  pub le_total : (a b : R) → le a b ⊎ le b a
  pub add-le-right : {a b : R} (c : R) → le a b → le (comm_ring.add a c) (comm_ring.add b c)
  pub mul-nonneg : {a b : R} → le comm_ring.𝟘 a → le comm_ring.𝟘 b → le comm_ring.𝟘 (comm_ring.mul a b)
  -- the ring is a domain: a product vanishes only where a factor does
  pub zero-cases : (a b : R) → comm_ring.mul a b ≡ comm_ring.𝟘 → (a ≡ comm_ring.𝟘) ⊎ (b ≡ comm_ring.𝟘)
  pub nontrivial : comm_ring.𝟘 ≡ comm_ring.𝟙 → ⊥

-- the strict order: a < b where b ≤ a is refuted
abbrev pub lt : {R : Type 0} → OrderedRing R → R → R → Type 0
lt 𝓞 a b = 𝓞.le b a → ⊥
