-- ℚ has halves, and a number none of whose doublings passes some K is not positive: `ℚ-archimedean`. Assumes nothing.
use mathlib.Core.Path.{◌≡◌, sym, ◌∙◌, ap}
use mathlib.Core.Logic.{⊎_elim}
use mathlib.Core.Option.{Option, none, some}
use Prim.Native.Nat.{ℕ, zero, suc}
use lib.IntN.{ℤ, pos, negsuc}
use lib.Signed.{◌≤ℤ◌}
use Rattle.algebra.proofs.Archimedean.{Archimedean}
use Rattle.algebra.proofs.Int.{ints}
use Rattle.algebra.proofs.Linear.{◌:≤◌, ◌⇒◌, ⊢◌, linarith}
use Rattle.algebra.proofs.Ordered as Ord
use Rattle.algebra.proofs.Ring as Ring
use Rattle.algebra.proofs.Solver.{lit, :1, ◌:+◌, ◌:*◌, ◌:=◌, ring}
use Rattle.exact.proofs.Rat as Q
use Rattle.exact.proofs.Rat.{ℚ, from_ℤ, ◌+ℚ◌, ◌*ℚ◌, ◌^ℚ◌, ◌≤ℚ◌, ◌<ℚ◌, 0ℚ, 1ℚ, recip, Recip, ℚ-ring, ℚ-ordered}
use Rattle.exact.proofs.Units.{floor_ℚ, floor_ℚ-iff}

abbrev num : ℕ → ℚ
num k = from_ℤ (pos k)

-- a number that is not 0 has an inverse
inverse : (x : ℚ) → ¬ (x ≡ 0ℚ) → (u : ℚ) × (x *ℚ u ≡ 1ℚ)
inverse x n = go (recip x) (Q.recip-law x)
  where
    go : (r : Option ℚ) → Recip x r → (u : ℚ) × (x *ℚ u ≡ 1ℚ)
    go none e = absurd (n e)
    go (some u) e = (u, e)

-- half of d
half : (d : ℚ) → (s : ℚ) × (s +ℚ s ≡ d)
half d =
    let (h, one) = inverse (num 2) (λ z. Ord.num_pos ℚ-ordered 1 (Ord.le_of_eq ℚ-ordered z)) in
    (h *ℚ d, ring ℚ-ring 2 (λ h d. h :* d :+ h :* d := lit 2 :* h :* d) tt h d ∙ ap (λ t. t *ℚ d) one ∙ Q.one-*ℚ d)

no-largest : (z : ℤ) → ((k : ℕ) → pos k ≤ℤ z) → ⊥
no-largest (pos n) h = omega (ints, h (suc n))
no-largest (negsuc n) h = omega (ints, h 0)

-- u is 1/x, and not negative, as u = x·u·u: no k passes K·u
multiples : {x : ℚ} (K : ℚ) → ((k : ℕ) → x *ℚ num k ≤ℚ K) → x ≤ℚ 0ℚ
multiples {x} K h = ⊎_elim (λ p. p) (λ p. absurd (positive p)) (Q.≤ℚ-or-<ℚ x 0ℚ)
  where
    positive : 0ℚ <ℚ x → ⊥
    positive p =
        let (u, one) = inverse x (λ e. Q.≤ℚ-not-< (Q.≤ℚ-of-≡ e) p) in
        let nonneg : 0ℚ ≤ℚ u =
        Ord.le-eq ℚ-ordered
        (Q.*ℚ-nonneg (Q.<ℚ→≤ℚ p) (Ord.square-nonneg ℚ-ordered u))
        (sym (Q.*ℚ-assoc x u u) ∙ ap (λ t. t *ℚ u) one ∙ Q.one-*ℚ u) in
        no-largest (floor_ℚ (K *ℚ u)) (λ k.
        (floor_ℚ-iff (pos k) (K *ℚ u)).1
        (Ord.eq-le ℚ-ordered
        (sym (ring ℚ-ring 3 (λ x n u. x :* n :* u := x :* u :* n) tt x (num k) u ∙ ap (λ t. t *ℚ num k) one ∙ Q.one-*ℚ (num k)))
        (Ord.mul-le-right ℚ-ordered nonneg (h k))))

one-le-doubled : (k : ℕ) → 1ℚ ≤ℚ num 2 ^ℚ k
unfolding Ring.power
one-le-doubled zero = Q.≤ℚ-refl 1ℚ
one-le-doubled (suc k) = linarith ℚ-ordered 1 (λ p. :1 :≤ p ⇒ ⊢ :1 :≤ lit 2 :* p) tt (num 2 ^ℚ k) (one-le-doubled k)

num-le-doubled : (k : ℕ) → num k ≤ℚ num 2 ^ℚ k
unfolding Ring.power
num-le-doubled zero = Ord.zero-le-one ℚ-ordered
num-le-doubled (suc k) =
    rw (ℚ-ring.num-suc k)
    (linarith ℚ-ordered 2 (λ n p. n :≤ p ⇒ :1 :≤ p ⇒ ⊢ n :+ :1 :≤ lit 2 :* p) tt (num k) (num 2 ^ℚ k) (num-le-doubled k) (one-le-doubled k))

doublings : {x : ℚ} (K : ℚ) → ((k : ℕ) → x *ℚ num 2 ^ℚ k ≤ℚ K) → x ≤ℚ 0ℚ
doublings {x} K h =
    ⊎_elim
    (λ p. multiples K (λ k. Q.≤ℚ-trans (Ord.mul-le-left ℚ-ordered p (num-le-doubled k)) (h k)))
    (λ p. p)
    (Q.≤ℚ-total 0ℚ x)

pub ℚ-archimedean : Archimedean ℚ-ordered
ℚ-archimedean = record { half = half; doublings = doublings }
