-- What bounds a derivative bounds how far the function rises from 0 to 1: the parts of a halved time have less and less of the rest, which goes
-- with the square of the time. Assumes nothing.
use mathlib.Core.Path.{◌≡◌, subst}
use mathlib.Core.Logic.{⊎_elim}
use Prim.Native.Nat.{ℕ, zero, suc}
use Rattle.algebra.proofs.Ring as Ring
use Rattle.algebra.proofs.Ordered as Ord
use Rattle.algebra.proofs.Ordered.{OrderedRing}
use Rattle.algebra.proofs.Solver.{lit, :0, :1, ◌:+◌, ◌:*◌, ◌:-◌, :-◌}
use Rattle.algebra.proofs.Linear.{◌:≤◌, ◌:≡◌, ◌⇒◌, ⊢◌, linarith}
use Rattle.algebra.proofs.Archimedean.{Archimedean}
use Rattle.algebra.proofs.Moments.{Moment}
use Rattle.algebra.proofs.Derivatives.{Derivative, derivative-neg}

module _ {R : Type 0} (𝓞 : OrderedRing R) (𝓐 : Archimedean 𝓞) where
  infix 50 ◌≤◌
  infixl 65 ◌+◌
  infixl 65 ◌-◌
  infixl 70 ◌*◌
  open 𝓞 use {comm_ring as 𝓡, le as ◌≤◌, le_refl, le_trans, le_total}
  open 𝓞.comm_ring use {add as ◌+◌, mul as ◌*◌, neg, 𝟘, 𝟙, num}

  abbrev ◌-◌ : R → R → R
  a - b = a + neg b

  half-nonneg : {s : R} → 𝟘 ≤ s + s → 𝟘 ≤ s
  half-nonneg {s} h = ⊎_elim (λ p. p) (λ p. linarith 𝓞 1 (λ s. :0 :≤ s :+ s ⇒ s :≤ :0 ⇒ ⊢ :0 :≤ s) tt s h p) (le_total 𝟘 s)

  module _ {f g : R → R} (D : Derivative 𝓞 f g) {U : R} (below : (τ : R) → Moment 𝓞 τ → g τ ≤ U) where
    abbrev C : R
    C = D.small.bound

    -- from any moment on, for the time d, f rises by at most d·U and a 2^k-th of C·d²
    abbrev Rises : ℕ → Type 0
    Rises k = (τ d : R) → 𝟘 ≤ τ → 𝟘 ≤ d → τ + d ≤ 𝟙 → (f (τ + d) - f τ - d * U) * Ring.pow 𝓡 (num 2) k ≤ C * (d * d)

    at_once : Rises 0
    unfolding Ring.power
    at_once τ d p q r =
        linarith 𝓞 8
        (λ h f g U t d R C.
        h :≡ f :+ (t :+ d :- t) :* g :+ (t :+ d :- t) :* (t :+ d :- t) :* R ⇒ d :* g :≤ d :* U ⇒ d :* d :* R :≤ d :* d :* C
        ⇒ ⊢ (h :- f :- d :* U) :* :1 :≤ C :* (d :* d))
        tt (f (τ + d)) (f τ) (g τ) U τ d (D.rest τ (τ + d)) C
        (D.expands τ (τ + d) now later)
        (Ord.mul-le-left 𝓞 q (below τ now))
        (Ord.mul-le-left 𝓞 (Ord.square-nonneg 𝓞 d) (D.small.high τ (τ + d) now later))
      where
        onward : τ ≤ τ + d
        onward = linarith 𝓞 2 (λ t d. :0 :≤ d ⇒ ⊢ t :≤ t :+ d) tt τ d q

        now : Moment 𝓞 τ
        now = record { low = p; high = le_trans onward r }

        later : Moment 𝓞 (τ + d)
        later = record { low = le_trans p onward; high = r }

    in-two-parts : (k : ℕ) → Rises k → Rises (suc k)
    unfolding Ring.power
    in-two-parts k part τ d p q r =
        let (s, e) = 𝓐.half d in
        subst (λ d. 𝟘 ≤ d → τ + d ≤ 𝟙 → (f (τ + d) - f τ - d * U) * (num 2 * Ring.pow 𝓡 (num 2) k) ≤ C * (d * d)) e (twice s) q r
      where
        twice : (s : R) → 𝟘 ≤ s + s → τ + (s + s) ≤ 𝟙
            → (f (τ + (s + s)) - f τ - (s + s) * U) * (num 2 * Ring.pow 𝓡 (num 2) k) ≤ C * ((s + s) * (s + s))
        twice s q r =
            let h = half-nonneg q in
            linarith 𝓞 7
            (λ x y z s U C p.
            (y :- x :- s :* U) :* p :≤ C :* (s :* s) ⇒ (z :- y :- s :* U) :* p :≤ C :* (s :* s)
            ⇒ ⊢ (z :- x :- (s :+ s) :* U) :* (lit 2 :* p) :≤ C :* ((s :+ s) :* (s :+ s)))
            tt (f τ) (f (τ + s)) (f (τ + (s + s))) s U C (Ring.pow 𝓡 (num 2) k)
            (part τ s p h (linarith 𝓞 2 (λ t s. :0 :≤ s ⇒ t :+ (s :+ s) :≤ :1 ⇒ ⊢ t :+ s :≤ :1) tt τ s h r))
            (rw (𝓡.add_assoc τ s s) at (part (τ + s) s (Ord.add-nonneg 𝓞 p h) h (rw (𝓡.add_assoc τ s s) r)))

    halved : (k : ℕ) → Rises k
    halved zero = at_once
    halved (suc k) = in-two-parts k (halved k)

    pub rises-at-most : f 𝟙 - f 𝟘 ≤ U
    rises-at-most =
        linarith 𝓞 3 (λ x y U. y :- x :- :1 :* U :≤ :0 ⇒ ⊢ y :- x :≤ U) tt (f 𝟘) (f 𝟙) U
        (rw whole at
        (𝓐.doublings (C * (𝟙 * 𝟙)) (λ k. halved k 𝟘 𝟙 (le_refl 𝟘) (Ord.zero-le-one 𝓞) (Ord.le_of_eq 𝓞 whole))))
      where
        whole : 𝟘 + 𝟙 ≡ 𝟙
        whole = Ring.zero-add 𝓡 𝟙

  pub rises-at-least : {f g : R → R} → Derivative 𝓞 f g → {L : R} → ((τ : R) → Moment 𝓞 τ → L ≤ g τ) → L ≤ f 𝟙 - f 𝟘
  rises-at-least {f} {g} D {L} above =
      linarith 𝓞 3 (λ x y l. :- y :- :- x :≤ :- l ⇒ ⊢ l :≤ y :- x) tt (f 𝟘) (f 𝟙) L
      (rises-at-most (derivative-neg 𝓞 D) (λ τ m. Ord.neg-anti 𝓞 (above τ m)))
