-- A solver of ring identities, by reflection: an identity is written once, as an equation between two expressions in named variables,
-- and is proved by `tt`.
--     square : (a b : R) → (a + b) * (a + b) ≡ a * a + num 2 * (a * b) + b * b
--     square = ring 𝓡 2 (λ a b. (a :+ b) :* (a :+ b) := a :* a :+ lit 2 :* (a :* b) :+ b :* b) tt
-- `ring 𝓡 n f tt` has the type of the identity with n variables, so it stands for the whole lemma, or is applied to n values:
-- `ring 𝓡 n f tt a b`. The goal may hold the carrier's operations in any form that computes to the record's.
use mathlib.Core.Path.{◌≡◌, sym, ◌∙◌, ap, ap₂}
use mathlib.Core.List.{List, [], ◌∷◌}
use Prim.Native.Nat.{ℕ, zero, suc}
use Rattle.algebra.proofs.Ring as Ring
use Rattle.algebra.proofs.Ring.{CommRing}
use Rattle.algebra.proofs.Poly.{Poly, con, var_p, add_p, neg_p, mul_p, pow_p, lead, Vanishes}
use Rattle.algebra.proofs.Poly.{nth, val, val-add, val-neg, val-mul, val-pow, val-num, val-var, val-zero}

infixl 65 ◌:+◌
infixl 65 ◌:-◌
infixl 70 ◌:*◌
infix 75 :-◌
infixl 80 ◌:^◌
infix 60 ◌:=◌
pub data Expr : Type 0 where
  var : ℕ → Expr
  lit : ℕ → Expr
  :0 : Expr
  :1 : Expr
  ◌:+◌ : Expr → Expr → Expr
  ◌:*◌ : Expr → Expr → Expr
  ◌:-◌ : Expr → Expr → Expr
  :-◌ : Expr → Expr
  ◌:^◌ : Expr → ℕ → Expr

pub data Eqn : Type 0 where
  ◌:=◌ : Expr → Expr → Eqn

-- the polynomial of an expression
abbrev pub poly : Expr → Poly
poly (var i) = var_p i
poly (lit n) = con n 0
poly :0 = con 0 0
poly :1 = con 1 0
poly (e :+ f) = add_p (poly e) (poly f)
poly (e :* f) = mul_p (poly e) (poly f)
poly (e :- f) = add_p (poly e) (neg_p (poly f))
poly (:- e) = neg_p (poly e)
poly (e :^ n) = pow_p (poly e) n

-- that an equation holds in every ring, proved by `tt`: its sides' difference has no coefficient but zero
abbrev pub Valid : Eqn → Type 0
Valid (e := f) = Vanishes (lead (poly (e :- f)) 1 0)

-- what is said of n variables, which are numbered n − 1, .. , 0
abbrev pub Over : Type 0 → ℕ → Type 0
Over A zero = A
Over A (suc n) = Expr → Over A n

abbrev pub named : (A : Type 0) (n : ℕ) → Over A n → A
named A zero q = q
named A (suc n) f = named A n (f (var n))

-- what holds at n more values
module _ {R : Type 0} (P : List R → Type 0) where
  abbrev pub All : ℕ → List R → Type 0
  All zero ρ = P ρ
  All (suc n) ρ = (x : R) → All n (x ∷ ρ)

  pub everywhere : ((ρ : List R) → P ρ) → (n : ℕ) (ρ : List R) → All n ρ
  everywhere h zero ρ = h ρ
  everywhere h (suc n) ρ = λ x. everywhere h n (x ∷ ρ)

module _ {R : Type 0} (𝓡 : CommRing R) where
  infixl 65 ◌+◌
  infixl 70 ◌*◌
  open 𝓡 use {add as ◌+◌, mul as ◌*◌, neg, 𝟘, 𝟙, num}

  -- the value of an expression, which is the ring's own text
  abbrev pub eval : List R → Expr → R
  eval ρ (var i) = nth 𝓡 ρ i
  eval ρ (lit n) = num n
  eval ρ :0 = 𝟘
  eval ρ :1 = 𝟙
  eval ρ (e :+ f) = eval ρ e + eval ρ f
  eval ρ (e :* f) = eval ρ e * eval ρ f
  eval ρ (e :- f) = eval ρ e + neg (eval ρ f)
  eval ρ (:- e) = neg (eval ρ e)
  eval ρ (e :^ n) = Ring.pow 𝓡 (eval ρ e) n

  abbrev pub Holds : List R → Eqn → Type 0
  Holds ρ (e := f) = eval ρ e ≡ eval ρ f

  pub val-poly : (e : Expr) (ρ : List R) → val 𝓡 (poly e) ρ ≡ eval ρ e
  val-poly (var i) ρ = val-var 𝓡 i ρ
  val-poly (lit n) ρ = val-num 𝓡 n ρ
  val-poly :0 ρ = val-zero 𝓡 (con 0 0) 1 0 tt ρ
  val-poly :1 ρ = val-num 𝓡 1 ρ ∙ Ring.num-one 𝓡
  val-poly (e :+ f) ρ = val-add 𝓡 (poly e) (poly f) ρ ∙ ap₂ ◌+◌ (val-poly e ρ) (val-poly f ρ)
  val-poly (e :* f) ρ = val-mul 𝓡 (poly e) (poly f) ρ ∙ ap₂ ◌*◌ (val-poly e ρ) (val-poly f ρ)
  val-poly (e :- f) ρ =
      val-add 𝓡 (poly e) (neg_p (poly f)) ρ
      ∙ ap₂ ◌+◌ (val-poly e ρ) (val-neg 𝓡 (poly f) ρ ∙ ap neg (val-poly f ρ))
  val-poly (:- e) ρ = val-neg 𝓡 (poly e) ρ ∙ ap neg (val-poly e ρ)
  val-poly (e :^ n) ρ = val-pow 𝓡 (poly e) n ρ ∙ ap (λ x. Ring.pow 𝓡 x n) (val-poly e ρ)

  -- an equation that is valid holds at every list of values
  pub solve : (ρ : List R) (q : Eqn) → Valid q → Holds ρ q
  solve ρ (e := f) t =
      Ring.eq-of-sub 𝓡 (eval ρ e) (eval ρ f) (sym (val-poly (e :- f) ρ) ∙ val-zero 𝓡 (poly (e :- f)) 1 0 t ρ)

  pub ring : (n : ℕ) (f : Over Eqn n) → Valid (named Eqn n f) → All (λ ρ. Holds ρ (named Eqn n f)) n []
  ring n f t = everywhere (λ ρ. Holds ρ (named Eqn n f)) (λ ρ. solve ρ (named Eqn n f) t) n []
