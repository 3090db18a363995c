-- Quadratic forms v'Hv: they are linear in H, and of an outer product gh' they are (v·g)(v·h).
use mathlib.Core.Path.{◌≡◌, ◌∙◌, ap}
use Prim.Native.Nat.{ℕ, ◌≤◌}
use Rattle.algebra.proofs.Ring.{CommRing}
use Rattle.algebra.proofs.Solver.{:0, ◌:+◌, ◌:*◌, ◌:=◌, ring}
use Rattle.algebra.proofs.Sum.{sum, sum-ext, sum-zero, sum-add, sum-scale, sum-longer}
unfoldable pub use Rattle.algebra.specs.Vectors.{dot, form}

module _ {R : Type 0} (𝓡 : CommRing R) where
  infixl 65 ◌+◌
  infixl 70 ◌*◌
  open 𝓡 use {add as ◌+◌, mul as ◌*◌, 𝟘}

  abbrev Matrix : Type 0
  Matrix = ℕ → ℕ → R

  middle-zero : (x y : R) {h : R} → h ≡ 𝟘 → x * h * y ≡ 𝟘
  middle-zero x y e = ap (λ h. x * h * y) e ∙ ring 𝓡 2 (λ x y. x :* :0 :* y := :0) tt x y

  module _ (n : ℕ) where
    pub form-ext : {H K : Matrix} (v : ℕ → R) → ((a b : ℕ) → H a b ≡ K a b) → form 𝓡 n H v ≡ form 𝓡 n K v
    unfolding form
    form-ext v e = sum-ext 𝓡 n (λ a p. sum-ext 𝓡 n (λ b q. ap (λ h. v a * h * v b) (e a b)))

    pub form-zero : {H : Matrix} (v : ℕ → R) → ((a b : ℕ) → H a b ≡ 𝟘) → form 𝓡 n H v ≡ 𝟘
    unfolding form
    form-zero v e = sum-zero 𝓡 n (λ a p. sum-zero 𝓡 n (λ b q. middle-zero (v a) (v b) (e a b)))

    pub form-add : (H K : Matrix) (v : ℕ → R) → form 𝓡 n (λ a b. H a b + K a b) v ≡ form 𝓡 n H v + form 𝓡 n K v
    unfolding form
    form-add H K v =
        sum-ext 𝓡 n (λ a p.
        sum-ext 𝓡 n (λ b q. ring 𝓡 4 (λ x h k y. x :* (h :+ k) :* y := x :* h :* y :+ x :* k :* y) tt (v a) (H a b) (K a b) (v b))
        ∙ sum-add 𝓡 n (λ b. v a * H a b * v b) (λ b. v a * K a b * v b))
        ∙ sum-add 𝓡 n (λ a. sum 𝓡 n (λ b. v a * H a b * v b)) (λ a. sum 𝓡 n (λ b. v a * K a b * v b))

    pub form-scale : (k : R) (H : Matrix) (v : ℕ → R) → form 𝓡 n (λ a b. k * H a b) v ≡ k * form 𝓡 n H v
    unfolding form
    form-scale k H v =
        sum-ext 𝓡 n (λ a p.
        sum-ext 𝓡 n (λ b q. ring 𝓡 4 (λ x k h y. x :* (k :* h) :* y := k :* (x :* h :* y)) tt (v a) k (H a b) (v b))
        ∙ sum-scale 𝓡 n k (λ b. v a * H a b * v b))
        ∙ sum-scale 𝓡 n k (λ a. sum 𝓡 n (λ b. v a * H a b * v b))

    pub form-outer : (g h v : ℕ → R) → form 𝓡 n (λ a b. g a * h b) v ≡ dot 𝓡 n v g * dot 𝓡 n v h
    unfolding form dot
    form-outer g h v =
        sum-ext 𝓡 n (λ a p.
        sum-ext 𝓡 n (λ b q. ring 𝓡 4 (λ x g h y. x :* (g :* h) :* y := x :* g :* (y :* h)) tt (v a) (g a) (h b) (v b))
        ∙ sum-scale 𝓡 n (v a * g a) (λ b. v b * h b)
        ∙ 𝓡.mul_comm (v a * g a) (sum 𝓡 n (λ b. v b * h b)))
        ∙ sum-scale 𝓡 n (sum 𝓡 n (λ b. v b * h b)) (λ a. v a * g a)
        ∙ 𝓡.mul_comm (sum 𝓡 n (λ b. v b * h b)) (sum 𝓡 n (λ a. v a * g a))

  -- rows and columns that are 0 from n on
  pub form-longer : (n m : ℕ) {H : Matrix} (v : ℕ → R) → n ≤ m → ((a b : ℕ) → n ≤ a → (H a b ≡ 𝟘) × (H b a ≡ 𝟘))
      → form 𝓡 m H v ≡ form 𝓡 n H v
  unfolding form
  form-longer n m v h e =
      sum-longer 𝓡 n m h (λ a l. sum-zero 𝓡 m (λ b k. middle-zero (v a) (v b) (e a b l).0))
      ∙ sum-ext 𝓡 n (λ a k. sum-longer 𝓡 n m h (λ b l. middle-zero (v a) (v b) (e b a l).1))
