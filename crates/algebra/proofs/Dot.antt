-- The inner product is linear in its second vector, and with a unit vector it is a coordinate of the first. Assumes nothing.
use mathlib.Core.Path.{◌≡◌, ◌∙◌, ap₂}
use mathlib.Core.Bool.{Bool, true, false, cond}
use Prim.Native.Nat.{ℕ, ◌<◌}
use lib.Dec.{T, eqb, eqb_refl, eqb→eq}
use Rattle.algebra.proofs.Ring as Ring
use Rattle.algebra.proofs.Ring.{CommRing}
use Rattle.algebra.proofs.Solver.{:1, ◌:*◌, :-◌, ◌:=◌, ring}
use Rattle.algebra.proofs.Sum as Sum
unfoldable pub use Rattle.algebra.specs.Vectors.{dot}

module _ {R : Type 0} (𝓡 : CommRing R) (n : ℕ) (w : ℕ → R) where
  infixl 65 ◌+◌
  infixl 70 ◌*◌
  open 𝓡 use {add as ◌+◌, mul as ◌*◌, neg, 𝟘, 𝟙}

  pub dot-add : (u v : ℕ → R) → dot 𝓡 n w (λ i. u i + v i) ≡ dot 𝓡 n w u + dot 𝓡 n w v
  unfolding dot
  dot-add u v = Sum.sum-ext 𝓡 n (λ i l. 𝓡.mul-add (w i) (u i) (v i)) ∙ Sum.sum-add 𝓡 n (λ i. w i * u i) (λ i. w i * v i)

  -- a constant on the left, and on the right
  pub dot-scale : (a : R) (u : ℕ → R) → dot 𝓡 n w (λ i. a * u i) ≡ a * dot 𝓡 n w u
  unfolding dot
  dot-scale a u =
      Sum.sum-ext 𝓡 n (λ i l. ring 𝓡 3 (λ w a u. w :* (a :* u) := a :* (w :* u)) tt (w i) a (u i))
      ∙ Sum.sum-scale 𝓡 n a (λ i. w i * u i)

  pub dot-by : (u : ℕ → R) (a : R) → dot 𝓡 n w (λ i. u i * a) ≡ dot 𝓡 n w u * a
  unfolding dot
  dot-by u a =
      Sum.sum-ext 𝓡 n (λ i l. ring 𝓡 3 (λ w u a. w :* (u :* a) := a :* (w :* u)) tt (w i) (u i) a)
      ∙ Sum.sum-scale 𝓡 n a (λ i. w i * u i)
      ∙ 𝓡.mul_comm a (dot 𝓡 n w u)

  -- a·u + b·v
  pub dot-lin : (u v : ℕ → R) (a b : R) → dot 𝓡 n w (λ i. a * u i + b * v i) ≡ a * dot 𝓡 n w u + b * dot 𝓡 n w v
  dot-lin u v a b = dot-add (λ i. a * u i) (λ i. b * v i) ∙ ap₂ ◌+◌ (dot-scale a u) (dot-scale b v)

  pub dot-neg : (u : ℕ → R) → dot 𝓡 n w (λ i. neg (u i)) ≡ neg (dot 𝓡 n w u)
  unfolding dot
  dot-neg u =
      Sum.sum-ext 𝓡 n (λ i l. ring 𝓡 2 (λ w u. w :* :- u := :- :1 :* (w :* u)) tt (w i) (u i))
      ∙ Sum.sum-scale 𝓡 n (neg 𝟙) (λ i. w i * u i)
      ∙ ring 𝓡 1 (λ r. :- :1 :* r := :- r) tt (dot 𝓡 n w u)

  -- the unit vector of k
  pub dot-unit : {k : ℕ} → k < n → dot 𝓡 n w (λ i. cond (eqb i k) 𝟙 𝟘) ≡ w k
  unfolding dot
  dot-unit {k} l = Sum.sum-only 𝓡 n l (λ i m o. other i (eqb i k) (λ e. o (eqb→eq i k e))) ∙ here (eqb k k) (eqb_refl k)
    where
      other : (i : ℕ) (b : Bool) → ¬ T b → w i * cond b 𝟙 𝟘 ≡ 𝟘
      other i true o = absurd (o tt)
      other i false o = Ring.mul-zero 𝓡 (w i)

      here : (b : Bool) → T b → w k * cond b 𝟙 𝟘 ≡ w k
      here true t = 𝓡.mul-one (w k)
      here false t = absurd t
