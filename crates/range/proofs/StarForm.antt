-- A quadratic form in two variables, p·x² + q·y² + 2·c·x·y, between half of a + b ∓ ρ times x² + y², where ρ² ≥ (a − b)² + 4·c² (Lemma A.1 of
-- 000, which has ρ² equal to that). Over any ordered ring, so without a root. Assumes nothing.
use Rattle.algebra.proofs.Ordered as Ord
use Rattle.algebra.proofs.Ordered.{OrderedRing}
use Rattle.algebra.proofs.Solver.{lit, :0, ◌:+◌, ◌:*◌, ◌:-◌, :-◌, ◌:=◌, ring}
use Rattle.algebra.proofs.Linear.{◌:≤◌, ◌⇒◌, ⊢◌, linarith}
use Rattle.range.proofs.Scaled.{Scaled}

module _ {R : Type 0} (𝓞 : OrderedRing R) where
  infix 50 ◌≤◌
  infixl 65 ◌+◌
  infixl 65 ◌-◌
  infixl 70 ◌*◌
  open 𝓞 use {comm_ring as 𝓡, le as ◌≤◌, mul-nonneg}
  open 𝓞.comm_ring use {add as ◌+◌, mul as ◌*◌, neg, 𝟘, num}

  abbrev ◌-◌ : R → R → R
  a - b = a + neg b

  -- ρ at least as large as the root, for the difference d
  pub record Root (d c ρ : R) : Type 0 where
    pub nonneg : 𝟘 ≤ ρ
    pub large : d * d + num 4 * (c * c) ≤ ρ * ρ

  -- The matrix with ρ + d, ρ − d on the diagonal and 2c beside it has no negative eigenvalue: with s for its diagonal part and t for the rest,
  -- s² − t² is a square and 4·(ρ² − d² − 4·c²)·x²·y².
  form-nonneg : {d c ρ : R} (x y : R) → Root d c ρ → 𝟘 ≤ (ρ + d) * (x * x) + (ρ - d) * (y * y) + num 4 * (c * (x * y))
  form-nonneg {d} {c} {ρ} x y r = linarith 𝓞 2 (λ s t. :- s :≤ t ⇒ ⊢ :0 :≤ s :+ t) tt s t (Ord.neg-le-of-squares 𝓞 s-nonneg squared)
    where
      s : R
      s = (ρ + d) * (x * x) + (ρ - d) * (y * y)

      t : R
      t = num 4 * (c * (x * y))

      gap : d * d ≤ ρ * ρ
      gap =
          linarith 𝓞 3 (λ d c r. d :+ lit 4 :* c :≤ r ⇒ :0 :≤ c ⇒ ⊢ d :≤ r) tt (d * d) (c * c) (ρ * ρ) r.large (Ord.square-nonneg 𝓞 c)

      s-nonneg : 𝟘 ≤ s
      s-nonneg =
          let low = Ord.neg-le-of-squares 𝓞 r.nonneg gap in
          let high = Ord.le-of-squares 𝓞 r.nonneg gap in
          Ord.add-nonneg 𝓞
          (mul-nonneg (linarith 𝓞 2 (λ r d. :- r :≤ d ⇒ ⊢ :0 :≤ r :+ d) tt ρ d low) (Ord.square-nonneg 𝓞 x))
          (mul-nonneg (Ord.sub-nonneg 𝓞 high) (Ord.square-nonneg 𝓞 y))

      squared : t * t ≤ s * s
      squared =
          Ord.le-by 𝓞
          (Ord.add-nonneg 𝓞
          (Ord.square-nonneg 𝓞 ((ρ + d) * (x * x) - (ρ - d) * (y * y)))
          (mul-nonneg (Ord.num-nonneg 𝓞 4)
          (mul-nonneg (Ord.sub-nonneg 𝓞 r.large) (mul-nonneg (Ord.square-nonneg 𝓞 x) (Ord.square-nonneg 𝓞 y)))))
          (ring 𝓡 5
          (λ d c r x y.
          let p = (r :+ d) :* (x :* x) in
          let q = (r :- d) :* (y :* y) in
          let t = lit 4 :* (c :* (x :* y)) in
          (p :+ q) :* (p :+ q) :- t :* t
          := (p :- q) :* (p :- q) :+ lit 4 :* ((r :* r :- (d :* d :+ lit 4 :* (c :* c))) :* (x :* x :* (y :* y))))
          tt d c ρ x y)

  root-neg : {d c ρ : R} → Root d c ρ → Root (neg d) (neg c) ρ
  root-neg {d} {c} r = record {
    nonneg = r.nonneg;
    large = Ord.eq-le 𝓞 (ring 𝓡 2 (λ d c. :- d :* :- d :+ lit 4 :* (:- c :* :- c) := d :* d :+ lit 4 :* (c :* c)) tt d c) r.large;
  }

  -- the low end from the low ends a, b, and the high end from the high ends A, B: P is p·x², Q is q·y²
  pub star-scaled : {a A b B c l h P Q ρ σ : R} (x y : R) → Scaled 𝓞 (x * x) a A P → Scaled 𝓞 (y * y) b B Q
      → Root (a - b) c ρ → num 2 * l ≤ a + b - ρ → Root (A - B) c σ → A + B + σ ≤ num 2 * h
      → Scaled 𝓞 (x * x + y * y) l h (P + Q + num 2 * (c * (x * y)))
  star-scaled {a} {A} {b} {B} {c} {l} {h} {P} {Q} {ρ} {σ} x y p q r down s up = record {
    low =
        linarith 𝓞 9
        (λ a b c l P Q r x y.
        a :* (x :* x) :≤ P ⇒ b :* (y :* y) :≤ Q
        ⇒ :0 :≤ (r :+ (a :- b)) :* (x :* x) :+ (r :- (a :- b)) :* (y :* y) :+ lit 4 :* (c :* (x :* y))
        ⇒ :0 :≤ (a :+ b :- r :- lit 2 :* l) :* (x :* x :+ y :* y)
        ⇒ ⊢ l :* (x :* x :+ y :* y) :≤ P :+ Q :+ lit 2 :* (c :* (x :* y)))
        tt a b c l P Q ρ x y p.low q.low (form-nonneg x y r) (mul-nonneg (Ord.sub-nonneg 𝓞 down) weight);
    high =
        linarith 𝓞 9
        (λ a b c h P Q r x y.
        P :≤ a :* (x :* x) ⇒ Q :≤ b :* (y :* y)
        ⇒ :0 :≤ (r :+ :- (a :- b)) :* (x :* x) :+ (r :- :- (a :- b)) :* (y :* y) :+ lit 4 :* (:- c :* (x :* y))
        ⇒ :0 :≤ (lit 2 :* h :- (a :+ b :+ r)) :* (x :* x :+ y :* y)
        ⇒ ⊢ P :+ Q :+ lit 2 :* (c :* (x :* y)) :≤ h :* (x :* x :+ y :* y))
        tt A B c h P Q σ x y p.high q.high (form-nonneg x y (root-neg s)) (mul-nonneg (Ord.sub-nonneg 𝓞 up) weight);
  }
    where
      weight : 𝟘 ≤ x * x + y * y
      weight = Ord.add-nonneg 𝓞 (Ord.square-nonneg 𝓞 x) (Ord.square-nonneg 𝓞 y)
