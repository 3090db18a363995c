-- Commutative rings over an abstract carrier. Any identity that follows from the laws listed here is proved by the solver `ring`.
use Rattle.std.specs.Prelude.{◌≡◌, ℕ, zero, suc}

pub record CommRing (R : Type 0) : Type 0 where
  pub add : R → R → R
  pub mul : R → R → R
  pub neg : R → R
  pub 𝟘 : R
  pub 𝟙 : R
  pub is_set : IsSet R
  pub add_assoc : (a b c : R) → add (add a b) c ≡ add a (add b c)
  pub add_comm : (a b : R) → add a b ≡ add b a
  pub add-zero : (a : R) → add a 𝟘 ≡ a
  pub add-neg : (a : R) → add a (neg a) ≡ 𝟘
  pub mul_assoc : (a b c : R) → mul (mul a b) c ≡ mul a (mul b c)
  pub mul_comm : (a b : R) → mul a b ≡ mul b a
  pub mul-one : (a : R) → mul a 𝟙 ≡ a
  pub mul-add : (a b c : R) → mul a (add b c) ≡ add (mul a b) (mul a c)
  -- the natural numbers in the ring: a field, so that a ring may compute them at once (those of ℤ are `pos`)
  pub num : ℕ → R
  pub num-zero : num zero ≡ 𝟘
  pub num-suc : (n : ℕ) → num (suc n) ≡ add (num n) 𝟙

-- x · x · .. · x, n times, from a one and a product; and in a ring
unfoldable pub power : {R : Type 0} → R → (R → R → R) → R → ℕ → R
power 𝟙 mul x zero = 𝟙
power 𝟙 mul x (suc n) = mul x (power 𝟙 mul x n)

abbrev pub pow : {R : Type 0} → CommRing R → R → ℕ → R
pow 𝓡 x n = power 𝓡.𝟙 𝓡.mul x n
