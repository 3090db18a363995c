-- Polynomials with integer coefficients, in recursive Horner form, and their arithmetic: the normal form of the solver.
-- `hor a b` is a + x·b, where x is the first variable, b is over all variables and a over those after x; so no monomials are compared,
-- and sum and product go by structure. `mk` drops a tail that is zero, without which products would grow with the number of variables.
-- A constant `con p n` is the integer p − n, with native p and n. What computes here is closed and over native numbers, so it is fast.
use mathlib.Core.Path.{◌≡◌, refl, sym, ◌∙◌, ap, ap₂}
use mathlib.Core.Bool.{Bool, true, false}
use mathlib.Core.List.{List, [], ◌∷◌}
use Prim.Native.Nat.{ℕ, zero, suc, ◌+◌ as ◌+ᴺ◌, ◌*◌ as ◌*ᴺ◌}
use lib.Dec.{T, eqb, eqb→eq}
use Rattle.algebra.proofs.Ring as Ring
use Rattle.algebra.proofs.Ring.{CommRing}

pub data Poly : Type 0 where
  con : ℕ → ℕ → Poly
  hor : Poly → Poly → Poly

abbrev pub zero_p : Poly
zero_p = con 0 0

-- a constant whose tail is the constant p − n
abbrev mk_con : ℕ → ℕ → ℕ → ℕ → Bool → Poly
mk_con c d p n true = con c d
mk_con c d p n false = hor (con c d) (con p n)

abbrev pub mk : Poly → Poly → Poly
mk (con c d) (con p n) = mk_con c d p n (eqb p n)
mk (con c d) (hor a b) = hor (con c d) (hor a b)
mk (hor a b) q = hor (hor a b) q

abbrev pub var_p : ℕ → Poly
var_p zero = hor zero_p (con 1 0)
var_p (suc i) = hor (var_p i) zero_p

abbrev pub add_c : ℕ → ℕ → Poly → Poly
add_c p n (con c d) = con (p +ᴺ c) (n +ᴺ d)
add_c p n (hor a b) = hor (add_c p n a) b

abbrev pub add_p : Poly → Poly → Poly
add_p (con p n) q = add_c p n q
add_p (hor a b) (con p n) = hor (add_c p n a) b
add_p (hor a b) (hor c d) = mk (add_p a c) (add_p b d)

abbrev pub neg_p : Poly → Poly
neg_p (con p n) = con n p
neg_p (hor a b) = hor (neg_p a) (neg_p b)

abbrev pub scale : ℕ → ℕ → Poly → Poly
scale p n (con c d) = con (p *ᴺ c +ᴺ n *ᴺ d) (p *ᴺ d +ᴺ n *ᴺ c)
scale p n (hor a b) = hor (scale p n a) (scale p n b)

abbrev scale_if : ℕ → ℕ → Poly → Bool → Poly
scale_if p n q true = zero_p
scale_if p n q false = scale p n q

-- the product with a polynomial over the later variables, which is multiplied by f
abbrev pub up : (Poly → Poly) → Poly → Poly
up f (con c d) = mk (f (con c d)) zero_p
up f (hor a b) = mk (f a) (up f b)

abbrev pub mul_p : Poly → Poly → Poly
mul_p (con p n) q = scale_if p n q (eqb p n)
mul_p (hor a b) q = add_p (up (mul_p a) q) (mk zero_p (mul_p b q))

abbrev pub pow_p : Poly → ℕ → Poly
pow_p p zero = con 1 0
pow_p p (suc n) = mul_p p (pow_p p n)

-- A term whose coefficient is not zero, p − n, with its exponents as decimal digits in the order of the variables' naming; or that there
-- is none.
pub data Term : Type 0 where
  none : Term
  term : ℕ → ℕ → ℕ → Term

abbrev term_if : ℕ → ℕ → ℕ → Bool → Term
term_if p n e true = none
term_if p n e false = term p n e

abbrev or_else : Term → Term → Term
or_else none t = t
or_else (term p n e) t = term p n e

-- the first term, where the first variable has the digit at w and e is the exponents so far
abbrev pub lead : Poly → ℕ → ℕ → Term
lead (con p n) w e = term_if p n e (eqb p n)
lead (hor a b) w e = or_else (lead a (10 *ᴺ w) e) (lead b w (e +ᴺ w))

-- what is left of an identity that fails: a type with no element, for a refusal to show
pub data Remains (plus minus exponents : ℕ) : Type 0 where

abbrev pub Vanishes : Term → Type 0
Vanishes none = Unit {0}
Vanishes (term p n e) = Remains p n e

vanish-if : (p n e : ℕ) (b : Bool) → Vanishes (term_if p n e b) → T b
vanish-if p n e true t = tt
vanish-if p n e false t = elim t [ ]

vanish-both : (s t : Term) → Vanishes (or_else s t) → Vanishes s × Vanishes t
vanish-both none t v = (tt, v)
vanish-both (term _ _ _) t v = elim v [ ]

-- ── the value of a polynomial at a list of values, of which those past the end are zero
module _ {R : Type 0} (𝓡 : CommRing R) where
  infixl 65 ◌+◌
  infixl 70 ◌*◌
  open 𝓡 use {add as ◌+◌, mul as ◌*◌, neg, 𝟘, 𝟙, num, num-zero}
  open 𝓡 use {add_assoc, add_comm, add-zero, add-neg, mul_assoc, mul_comm, mul-one, mul-add}

  abbrev hd : List R → R
  hd [] = 𝟘
  hd (x ∷ ρ) = x

  abbrev tl : List R → List R
  tl [] = []
  tl (x ∷ ρ) = ρ

  abbrev pub nth : List R → ℕ → R
  nth [] i = 𝟘
  nth (x ∷ ρ) zero = x
  nth (x ∷ ρ) (suc i) = nth ρ i

  -- the integer p − n
  int : ℕ → ℕ → R
  int p n = num p + neg (num n)

  pub val : Poly → List R → R
  val (con p n) ρ = int p n
  val (hor a b) ρ = val a (tl ρ) + hd ρ * val b ρ

  num-self : (p n : ℕ) → T (eqb p n) → int p n ≡ 𝟘
  unfolding int
  num-self p n t = ap (λ k. num k + neg (num n)) (eqb→eq p n t) ∙ add-neg (num n)

  int-add : (p n c d : ℕ) → int (p +ᴺ c) (n +ᴺ d) ≡ int p n + int c d
  unfolding int
  int-add p n c d =
      ap₂ (λ s t. s + neg t) (Ring.num-add 𝓡 p c) (Ring.num-add 𝓡 n d)
      ∙ ap (num p + num c +◌) (Ring.neg-add 𝓡 (num n) (num d))
      ∙ Ring.interchange 𝓡 (num p) (num c) (neg (num n)) (neg (num d))

  int-neg : (p n : ℕ) → int n p ≡ neg (int p n)
  unfolding int
  int-neg p n =
      add_comm (num n) (neg (num p))
      ∙ ap (neg (num p) +◌) (sym (Ring.neg-neg 𝓡 (num n)))
      ∙ sym (Ring.neg-add 𝓡 (num p) (neg (num n)))

  -- (P − N)·(C − D), multiplied out
  diff-mul : (P N C D : R) → (P * C + N * D) + neg (P * D + N * C) ≡ (P + neg N) * (C + neg D)
  diff-mul P N C D =
      ap (P * C + N * D +◌) (Ring.neg-add 𝓡 (P * D) (N * C))
      ∙ Ring.interchange 𝓡 (P * C) (N * D) (neg (P * D)) (neg (N * C))
      ∙ ap₂ ◌+◌ left right
      ∙ sym (Ring.add-mul 𝓡 P (neg N) (C + neg D))
    where
      left : P * C + neg (P * D) ≡ P * (C + neg D)
      left = ap (P * C +◌) (sym (Ring.mul-neg 𝓡 P D)) ∙ sym (mul-add P C (neg D))

      right : N * D + neg (N * C) ≡ neg N * (C + neg D)
      right =
          add_comm (N * D) (neg (N * C))
          ∙ ap₂ ◌+◌ (sym (Ring.neg-mul 𝓡 N C))
          (sym (Ring.neg-neg 𝓡 (N * D)) ∙ ap neg (sym (Ring.mul-neg 𝓡 N D)) ∙ sym (Ring.neg-mul 𝓡 N (neg D)))
          ∙ sym (mul-add (neg N) C (neg D))

  int-mul : (p n c d : ℕ) → int (p *ᴺ c +ᴺ n *ᴺ d) (p *ᴺ d +ᴺ n *ᴺ c) ≡ int p n * int c d
  unfolding int
  int-mul p n c d =
      ap₂
      (λ s t. s + neg t)
      (Ring.num-add 𝓡 (p *ᴺ c) (n *ᴺ d) ∙ ap₂ ◌+◌ (Ring.num-mul 𝓡 p c) (Ring.num-mul 𝓡 n d))
      (Ring.num-add 𝓡 (p *ᴺ d) (n *ᴺ c) ∙ ap₂ ◌+◌ (Ring.num-mul 𝓡 p d) (Ring.num-mul 𝓡 n c))
      ∙ diff-mul (num p) (num n) (num c) (num d)

  val-mk : (a b : Poly) (ρ : List R) → val (mk a b) ρ ≡ val a (tl ρ) + hd ρ * val b ρ
  unfolding val
  val-mk (con c d) (con p n) ρ = go (eqb p n) (λ t. t)
    where
      go : (e : Bool) → (T e → T (eqb p n)) → val (mk_con c d p n e) ρ ≡ int c d + hd ρ * int p n
      go true f =
          sym (add-zero (int c d)) ∙ ap (int c d +◌) (sym (Ring.mul-zero 𝓡 (hd ρ)) ∙ ap (hd ρ *◌) (sym (num-self p n (f tt))))
      go false f = refl
  val-mk (con c d) (hor a b) ρ = refl
  val-mk (hor a b) q ρ = refl

  val-add_c : (p n : ℕ) (q : Poly) (ρ : List R) → val (add_c p n q) ρ ≡ int p n + val q ρ
  unfolding val
  val-add_c p n (con c d) ρ = int-add p n c d
  val-add_c p n (hor a b) ρ = ap (◌+ hd ρ * val b ρ) (val-add_c p n a (tl ρ)) ∙ add_assoc (int p n) (val a (tl ρ)) (hd ρ * val b ρ)

  pub val-add : (p q : Poly) (ρ : List R) → val (add_p p q) ρ ≡ val p ρ + val q ρ
  unfolding val
  val-add (con p n) q ρ = val-add_c p n q ρ
  val-add (hor a b) (con p n) ρ = val-add_c p n (hor a b) ρ ∙ add_comm (int p n) (val (hor a b) ρ)
  val-add (hor a b) (hor c d) ρ =
      val-mk (add_p a c) (add_p b d) ρ
      ∙ ap₂ (λ s t. s + hd ρ * t) (val-add a c (tl ρ)) (val-add b d ρ)
      ∙ ap (val a (tl ρ) + val c (tl ρ) +◌) (mul-add (hd ρ) (val b ρ) (val d ρ))
      ∙ Ring.interchange 𝓡 (val a (tl ρ)) (val c (tl ρ)) (hd ρ * val b ρ) (hd ρ * val d ρ)

  pub val-neg : (p : Poly) (ρ : List R) → val (neg_p p) ρ ≡ neg (val p ρ)
  unfolding val
  val-neg (con p n) ρ = int-neg p n
  val-neg (hor a b) ρ =
      ap₂ (λ s t. s + hd ρ * t) (val-neg a (tl ρ)) (val-neg b ρ)
      ∙ ap (neg (val a (tl ρ)) +◌) (Ring.mul-neg 𝓡 (hd ρ) (val b ρ))
      ∙ sym (Ring.neg-add 𝓡 (val a (tl ρ)) (hd ρ * val b ρ))

  -- x·(y·z) is y·(x·z)
  swap : (x y z : R) → x * (y * z) ≡ y * (x * z)
  swap x y z = sym (mul_assoc x y z) ∙ ap (◌* z) (mul_comm x y) ∙ mul_assoc y x z

  val-scale : (p n : ℕ) (q : Poly) (ρ : List R) → val (scale p n q) ρ ≡ int p n * val q ρ
  unfolding val
  val-scale p n (con c d) ρ = int-mul p n c d
  val-scale p n (hor a b) ρ =
      ap₂ (λ s t. s + hd ρ * t) (val-scale p n a (tl ρ)) (val-scale p n b ρ)
      ∙ ap (int p n * val a (tl ρ) +◌) (swap (hd ρ) (int p n) (val b ρ))
      ∙ sym (mul-add (int p n) (val a (tl ρ)) (hd ρ * val b ρ))

  val-scale_if : (p n : ℕ) (q : Poly) (ρ : List R) (e : Bool) → (T e → T (eqb p n)) → val (scale_if p n q e) ρ ≡ int p n * val q ρ
  unfolding val
  val-scale_if p n q ρ true f = num-self 0 0 tt ∙ sym (Ring.zero-mul 𝓡 (val q ρ)) ∙ ap (◌* val q ρ) (sym (num-self p n (f tt)))
  val-scale_if p n q ρ false f = val-scale p n q ρ

  -- a sum with x·0
  tail-zero : (s x : R) → s + x * int 0 0 ≡ s
  tail-zero s x = ap (s +◌) (ap (x *◌) (num-self 0 0 tt) ∙ Ring.mul-zero 𝓡 x) ∙ add-zero s

  val-up : (f : Poly → Poly) (a : Poly) → ((q : Poly) (ρ : List R) → val (f q) ρ ≡ val a ρ * val q ρ)
      → (q : Poly) (ρ : List R) → val (up f q) ρ ≡ val a (tl ρ) * val q ρ
  unfolding val
  val-up f a h (con c d) ρ =
      val-mk (f (con c d)) zero_p ρ ∙ tail-zero (val (f (con c d)) (tl ρ)) (hd ρ) ∙ h (con c d) (tl ρ)
  val-up f a h (hor c d) ρ =
      val-mk (f c) (up f d) ρ
      ∙ ap₂ (λ s t. s + hd ρ * t) (h c (tl ρ)) (val-up f a h d ρ)
      ∙ ap (val a (tl ρ) * val c (tl ρ) +◌) (swap (hd ρ) (val a (tl ρ)) (val d ρ))
      ∙ sym (mul-add (val a (tl ρ)) (val c (tl ρ)) (hd ρ * val d ρ))

  pub val-mul : (p q : Poly) (ρ : List R) → val (mul_p p q) ρ ≡ val p ρ * val q ρ
  unfolding val
  val-mul (con p n) q ρ = val-scale_if p n q ρ (eqb p n) (λ t. t)
  val-mul (hor a b) q ρ =
      val-add (up (mul_p a) q) (mk zero_p (mul_p b q)) ρ
      ∙ ap₂ ◌+◌ (val-up (mul_p a) a (λ r σ. val-mul a r σ) q ρ)
      (val-mk zero_p (mul_p b q) ρ
      ∙ ap₂ (λ s t. s + hd ρ * t) (num-self 0 0 tt) (val-mul b q ρ)
      ∙ Ring.zero-add 𝓡 (hd ρ * (val b ρ * val q ρ))
      ∙ sym (mul_assoc (hd ρ) (val b ρ) (val q ρ)))
      ∙ sym (Ring.add-mul 𝓡 (val a (tl ρ)) (hd ρ * val b ρ) (val q ρ))

  pub val-num : (n : ℕ) (ρ : List R) → val (con n 0) ρ ≡ num n
  unfolding val int
  val-num n ρ = ap (num n +◌) (ap neg num-zero ∙ Ring.neg-zero 𝓡) ∙ add-zero (num n)

  pub val-pow : (p : Poly) (n : ℕ) (ρ : List R) → val (pow_p p n) ρ ≡ Ring.pow 𝓡 (val p ρ) n
  unfolding Ring.power
  val-pow p zero ρ = val-num 1 ρ ∙ Ring.num-one 𝓡
  val-pow p (suc n) ρ = val-mul p (pow_p p n) ρ ∙ ap (val p ρ *◌) (val-pow p n ρ)

  -- 0 + x·1
  first : (x : R) → int 0 0 + x * int 1 0 ≡ x
  unfolding int
  first x =
      ap₂ (λ s t. s + x * t) (num-self 0 0 tt) (ap₂ (λ s t. s + neg t) (Ring.num-one 𝓡) num-zero ∙ ap (𝟙 +◌) (Ring.neg-zero 𝓡) ∙ add-zero 𝟙)
      ∙ Ring.zero-add 𝓡 (x * 𝟙)
      ∙ mul-one x

  pub val-var : (i : ℕ) (ρ : List R) → val (var_p i) ρ ≡ nth ρ i
  unfolding val
  val-var zero [] = first 𝟘
  val-var zero (x ∷ ρ) = first x
  val-var (suc i) [] = tail-zero (val (var_p i) []) 𝟘 ∙ val-var i []
  val-var (suc i) (x ∷ ρ) = tail-zero (val (var_p i) ρ) x ∙ val-var i ρ

  -- a polynomial with no term is zero everywhere
  pub val-zero : (p : Poly) (w e : ℕ) → Vanishes (lead p w e) → (ρ : List R) → val p ρ ≡ 𝟘
  unfolding val
  val-zero (con p n) w e t ρ = num-self p n (vanish-if p n e (eqb p n) t)
  val-zero (hor a b) w e t ρ =
      let v : Vanishes (lead a (10 *ᴺ w) e) × Vanishes (lead b w (e +ᴺ w)) = vanish-both (lead a (10 *ᴺ w) e) (lead b w (e +ᴺ w)) t in
      ap₂ (λ s r. s + hd ρ * r) (val-zero a (10 *ᴺ w) e v.0 (tl ρ)) (val-zero b w (e +ᴺ w) v.1 ρ)
      ∙ Ring.zero-add 𝓡 (hd ρ * 𝟘)
      ∙ Ring.mul-zero 𝓡 (hd ρ)
