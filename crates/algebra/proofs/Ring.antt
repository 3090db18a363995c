-- The laws of commutative rings that the solver of `Solver.antt` is proved from. Prove any other identity by that solver.
use mathlib.Core.Path.{◌≡◌, sym, ◌∙◌, ap, ap₂}
use Prim.Native.Nat.{ℕ, zero, suc, ◌+◌ as ◌+ᴺ◌, ◌*◌ as ◌*ᴺ◌}
use native.Mathlib.Nat as NatL
pub use Rattle.algebra.specs.Ring.{CommRing, pow}
unfoldable pub use Rattle.algebra.specs.Ring.{power}

module _ {R : Type 0} (𝓡 : CommRing R) where
  infixl 65 ◌+◌
  infixl 70 ◌*◌
  open 𝓡 use {add as ◌+◌, mul as ◌*◌, neg, 𝟘, 𝟙, num, num-zero, num-suc}
  open 𝓡 use {add_assoc, add_comm, add-zero, add-neg, mul_comm, mul-one, mul-add}

  -- a difference is a sum with a negation, by computation
  abbrev pub sub : R → R → R
  sub a b = a + neg b

  pub zero-add : (a : R) → 𝟘 + a ≡ a
  zero-add a = add_comm 𝟘 a ∙ add-zero a

  pub one-mul : (a : R) → 𝟙 * a ≡ a
  one-mul a = mul_comm 𝟙 a ∙ mul-one a

  pub add-mul : (a b c : R) → (a + b) * c ≡ a * c + b * c
  add-mul a b c = mul_comm (a + b) c ∙ mul-add c a b ∙ ap₂ ◌+◌ (mul_comm c a) (mul_comm c b)

  -- two sums of two, added crosswise
  pub interchange : (a b c d : R) → (a + b) + (c + d) ≡ (a + c) + (b + d)
  interchange a b c d =
      add_assoc a b (c + d)
      ∙ ap (a +◌) (sym (add_assoc b c d) ∙ ap (◌+ d) (add_comm b c) ∙ add_assoc c b d)
      ∙ sym (add_assoc a c (b + d))

  pub add-cancel : (a b c : R) → a + b ≡ a + c → b ≡ c
  add-cancel a b c e = sym (back b) ∙ ap (neg a +◌) e ∙ back c
    where
      back : (x : R) → neg a + (a + x) ≡ x
      back x = sym (add_assoc (neg a) a x) ∙ ap (◌+ x) (add_comm (neg a) a ∙ add-neg a) ∙ zero-add x

  pub mul-zero : (a : R) → a * 𝟘 ≡ 𝟘
  mul-zero a = add-cancel (a * 𝟘) (a * 𝟘) 𝟘 (sym (mul-add a 𝟘 𝟘) ∙ ap (a *◌) (add-zero 𝟘) ∙ sym (add-zero (a * 𝟘)))

  pub zero-mul : (a : R) → 𝟘 * a ≡ 𝟘
  zero-mul a = mul_comm 𝟘 a ∙ mul-zero a

  -- what adds up to zero is the negation
  pub neg_unique : (a b : R) → a + b ≡ 𝟘 → b ≡ neg a
  neg_unique a b e = add-cancel a b (neg a) (e ∙ sym (add-neg a))

  pub neg-add : (a b : R) → neg (a + b) ≡ neg a + neg b
  neg-add a b =
      sym (neg_unique (a + b) (neg a + neg b) (interchange a b (neg a) (neg b) ∙ ap₂ ◌+◌ (add-neg a) (add-neg b) ∙ add-zero 𝟘))

  pub mul-neg : (a b : R) → a * neg b ≡ neg (a * b)
  mul-neg a b = neg_unique (a * b) (a * neg b) (sym (mul-add a b (neg b)) ∙ ap (a *◌) (add-neg b) ∙ mul-zero a)

  pub neg-mul : (a b : R) → neg a * b ≡ neg (a * b)
  neg-mul a b = mul_comm (neg a) b ∙ mul-neg b a ∙ ap neg (mul_comm b a)

  pub neg-neg : (a : R) → neg (neg a) ≡ a
  neg-neg a = sym (neg_unique (neg a) a (add_comm (neg a) a ∙ add-neg a))

  pub neg-zero : neg 𝟘 ≡ 𝟘
  neg-zero = sym (neg_unique 𝟘 𝟘 (add-zero 𝟘))

  -- a vanishing difference is an equality
  pub eq-of-sub : (a b : R) → sub a b ≡ 𝟘 → a ≡ b
  eq-of-sub a b e = sym (neg-neg a) ∙ ap neg (sym (neg_unique a (neg b) e)) ∙ neg-neg b

  -- an equation that is a multiple of another: x − y is k·(s − t), which the solver checks
  pub eq-by : {x y s t : R} (k : R) → s ≡ t → sub x y ≡ k * sub s t → x ≡ y
  eq-by {x} {y} {s} {t} k h e =
      eq-of-sub x y (e ∙ ap (k *◌) (ap (λ z. z + neg t) h ∙ add-neg t) ∙ mul-zero k)

  pub num-add : (m n : ℕ) → num (m +ᴺ n) ≡ num m + num n
  num-add m zero = ap num (NatL.add-zero m) ∙ sym (add-zero (num m)) ∙ ap (num m +◌) (sym num-zero)
  num-add m (suc n) =
      ap num (NatL.add-suc m n)
      ∙ num-suc (m +ᴺ n)
      ∙ ap (◌+ 𝟙) (num-add m n)
      ∙ add_assoc (num m) (num n) 𝟙
      ∙ ap (num m +◌) (sym (num-suc n))

  pub num-mul : (m n : ℕ) → num (m *ᴺ n) ≡ num m * num n
  num-mul m zero = ap num (NatL.mul-zero m) ∙ num-zero ∙ sym (mul-zero (num m)) ∙ ap (num m *◌) (sym num-zero)
  num-mul m (suc n) =
      ap num (NatL.mul-suc m n)
      ∙ num-add (m *ᴺ n) m
      ∙ ap₂ ◌+◌ (num-mul m n) (sym (mul-one (num m)))
      ∙ sym (mul-add (num m) (num n) 𝟙)
      ∙ ap (num m *◌) (sym (num-suc n))

  pub num-one : num 1 ≡ 𝟙
  num-one = num-suc 0 ∙ ap (◌+ 𝟙) num-zero ∙ zero-add 𝟙
