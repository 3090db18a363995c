-- Cauchy–Schwarz, and the bound on 2(v·g)(v·h) by which the eigenvalues of gh' + hg' are bounded.
use mathlib.Core.Path.{◌≡◌, sym, ◌∙◌, ap, ap₂}
use Prim.Native.Nat.{ℕ, zero, suc}
use Rattle.algebra.proofs.Ring.{CommRing}
use Rattle.algebra.proofs.Solver.{lit, ◌:+◌, ◌:*◌, ◌:-◌, :-◌, ◌:=◌, ring}
use Rattle.algebra.proofs.Ordered as Ord
use Rattle.algebra.proofs.Ordered.{OrderedRing}
use Rattle.algebra.proofs.Sum as Sum
use Rattle.algebra.proofs.Sum.{sum_below}
use Rattle.algebra.proofs.Dot.{dot-lin}
unfoldable pub use Rattle.algebra.specs.Vectors.{dot}

module _ {R : Type 0} (𝓡 : CommRing R) where
  infixl 65 ◌+◌
  infixl 70 ◌*◌
  open 𝓡 use {add as ◌+◌, mul as ◌*◌, num}

  -- a·u + b·v
  abbrev lin : R → (ℕ → R) → R → (ℕ → R) → ℕ → R
  lin a u b v i = a * u i + b * v i

  module _ (n : ℕ) where
    dot-comm : (u v : ℕ → R) → dot 𝓡 n u v ≡ dot 𝓡 n v u
    unfolding dot
    dot-comm u v = Sum.sum-ext 𝓡 n (λ i l. 𝓡.mul_comm (u i) (v i))

    -- the square of a combination
    norm-lin : (u v : ℕ → R) (a b : R) → dot 𝓡 n (lin a u b v) (lin a u b v)
        ≡ a * a * dot 𝓡 n u u + num 2 * (a * b) * dot 𝓡 n u v + b * b * dot 𝓡 n v v
    norm-lin u v a b =
        dot-lin 𝓡 n (lin a u b v) u v a b
        ∙ ap₂ (λ s t. a * s + b * t) (dot-comm (lin a u b v) u ∙ dot-lin 𝓡 n u u v a b)
        (dot-comm (lin a u b v) v ∙ dot-lin 𝓡 n v u v a b ∙ ap (λ t. a * t + b * dot 𝓡 n v v) (dot-comm v u))
        ∙ ring 𝓡 5
        (λ a b uu uv vv. a :* (a :* uu :+ b :* uv) :+ b :* (a :* uv :+ b :* vv) := a :* a :* uu :+ lit 2 :* (a :* b) :* uv :+ b :* b :* vv)
        tt a b (dot 𝓡 n u u) (dot 𝓡 n u v) (dot 𝓡 n v v)

module _ {R : Type 0} (𝓞 : OrderedRing R) where
  infix 50 ◌≤◌
  infixl 65 ◌+◌
  infixl 65 ◌-◌
  infixl 70 ◌*◌
  open 𝓞 use {comm_ring as 𝓡, le as ◌≤◌, le_refl, le_trans, mul-nonneg}
  open 𝓞.comm_ring use {add as ◌+◌, mul as ◌*◌, neg, 𝟘, num}

  abbrev ◌-◌ : R → R → R
  a - b = a + neg b

  norm-nonneg : (n : ℕ) (u : ℕ → R) → 𝟘 ≤ dot 𝓡 n u u
  unfolding dot
  norm-nonneg n u = Sum.sum_nonneg 𝓞 n (λ a l. Ord.square-nonneg 𝓞 (u a))

  -- Cauchy–Schwarz. With a coordinate more, the difference of the sides grows by the square of x·v − y·u
  pub cauchy-schwarz : (n : ℕ) (u v : ℕ → R) → dot 𝓡 n u v * dot 𝓡 n u v ≤ dot 𝓡 n u u * dot 𝓡 n v v
  unfolding dot sum_below
  cauchy-schwarz zero u v = le_refl (𝟘 * 𝟘)
  cauchy-schwarz (suc n) u v =
      let x = u n in
      let y = v n in
      let uu = dot 𝓡 n u u in
      let uv = dot 𝓡 n u v in
      let vv = dot 𝓡 n v v in
      Ord.le-by 𝓞
      (Ord.add-nonneg 𝓞 (Ord.sub-nonneg 𝓞 (cauchy-schwarz n u v)) (norm-nonneg n (lin 𝓡 x v (neg y) u)))
      (ring 𝓡 5
      (λ x y uu uv vv.
      (x :* x :+ uu) :* (y :* y :+ vv) :- (x :* y :+ uv) :* (x :* y :+ uv)
      := uu :* vv :- uv :* uv :+ (x :* x :* vv :+ lit 2 :* (x :* :- y) :* uv :+ :- y :* :- y :* uu))
      tt x y uu uv vv
      ∙ ap (uu * vv - uv * uv +◌)
      (ap (λ s. x * x * vv + num 2 * (x * neg y) * s + neg y * neg y * uu) (dot-comm 𝓡 n u v) ∙ sym (norm-lin 𝓡 n v u x (neg y))))

  -- ── the bound on 2(v·g)(v·h), by the reflected vector 2(v·h)v − (v·v)h
  module _ (n : ℕ) (g h v : ℕ → R) where
    infixl 70 ◌·◌
    abbrev ◌·◌ : (ℕ → R) → (ℕ → R) → R
    u · v = dot 𝓡 n u v

    abbrev twice : R
    twice = num 2 * (v · g) * (v · h)

    reflected : ℕ → R
    reflected = lin 𝓡 (num 2 * (v · h)) v (neg (v · v)) h

    reflected-dot : g · reflected ≡ twice - (g · h) * (v · v)
    unfolding reflected
    reflected-dot =
        dot-lin 𝓡 n g v h (num 2 * (v · h)) (neg (v · v))
        ∙ ap (λ s. num 2 * (v · h) * s + neg (v · v) * (g · h)) (dot-comm 𝓡 n g v)
        ∙ ring 𝓡 4 (λ vg vh vv gh. lit 2 :* vh :* vg :+ :- vv :* gh := lit 2 :* vg :* vh :- gh :* vv) tt (v · g) (v · h) (v · v) (g · h)

    reflected-norm : reflected · reflected ≡ (v · v) * (v · v) * (h · h)
    unfolding reflected
    reflected-norm =
        norm-lin 𝓡 n v h (num 2 * (v · h)) (neg (v · v))
        ∙ ring 𝓡 3
        (λ vh vv hh.
        let a = lit 2 :* vh in
        a :* a :* vv :+ lit 2 :* (a :* :- vv) :* vh :+ :- vv :* :- vv :* hh := vv :* vv :* hh)
        tt (v · h) (v · v) (h · h)

    module _ (β : R) (β-nonneg : 𝟘 ≤ β) (β-large : (g · g) * (h · h) ≤ β * β) where
      -- (2(v·g)(v·h) − (g·h)(v·v))² ≤ (β(v·v))²
      squared : (twice - (g · h) * (v · v)) * (twice - (g · h) * (v · v)) ≤ (β * (v · v)) * (β * (v · v))
      squared =
          Ord.eq-le 𝓞
          (ap₂ ◌*◌ (sym reflected-dot) (sym reflected-dot))
          (le_trans
          (Ord.le-eq 𝓞
          (cauchy-schwarz n g reflected)
          (ap ((g · g) *◌) reflected-norm
          ∙ ring 𝓡 3 (λ gg vv hh. gg :* (vv :* vv :* hh) := vv :* vv :* (gg :* hh)) tt (g · g) (v · v) (h · h)))
          (Ord.le-eq 𝓞
          (Ord.mul-le-left 𝓞 (Ord.square-nonneg 𝓞 (v · v)) β-large)
          (ring 𝓡 2 (λ vv b. vv :* vv :* (b :* b) := b :* vv :* (b :* vv)) tt (v · v) β)))

      pub double-upper : num 2 * (v · g) * (v · h) ≤ (g · h + β) * (v · v)
      double-upper =
          Ord.le-by 𝓞
          (Ord.sub-nonneg 𝓞 (Ord.le-of-squares 𝓞 (mul-nonneg β-nonneg (norm-nonneg n v)) squared))
          (ring 𝓡 4 (λ t gh b vv. (gh :+ b) :* vv :- t := b :* vv :- (t :- gh :* vv)) tt twice (g · h) β (v · v))

      pub double-lower : (g · h - β) * (v · v) ≤ num 2 * (v · g) * (v · h)
      double-lower =
          Ord.le-by 𝓞
          (Ord.sub-nonneg 𝓞 (Ord.neg-le-of-squares 𝓞 (mul-nonneg β-nonneg (norm-nonneg n v)) squared))
          (ring 𝓡 4 (λ t gh b vv. t :- (gh :- b) :* vv := t :- gh :* vv :- :- (b :* vv)) tt twice (g · h) β (v · v))
