-- Derivatives on the moments from 0 to 1 of an ordered ring: g is the derivative of f where f σ = f τ + (σ − τ)·g τ + (σ − τ)²·r τ σ with one
-- bound on all r τ σ. Sums, products, powers and inverses have the derivatives that are known of them. Assumes nothing.
use mathlib.Core.Path.{◌≡◌, refl, sym, ◌∙◌, ap, ap₂}
use Prim.Native.Nat.{ℕ, zero, suc}
use Rattle.algebra.proofs.Ring as Ring
use Rattle.algebra.proofs.Ordered.{OrderedRing}
use Rattle.algebra.proofs.Solver.{:0, :1, ◌:+◌, ◌:*◌, ◌:-◌, :-◌, ◌:=◌, ring}
use Rattle.algebra.proofs.Moments.{Moment, Bound, bound-between, bound-const, bound-add, bound-mul, bound-neg, bound-eq, bound-swap}
use Rattle.algebra.proofs.Moments.{bound-apart}

module _ {R : Type 0} (𝓞 : OrderedRing R) where
  infixl 65 ◌+◌
  infixl 65 ◌-◌
  infixl 70 ◌*◌
  infixr 80 ◌^◌
  open 𝓞 use {comm_ring as 𝓡}
  open 𝓞.comm_ring use {add as ◌+◌, mul as ◌*◌, neg, 𝟘, 𝟙, num}

  abbrev ◌-◌ : R → R → R
  a - b = a + neg b

  abbrev ◌^◌ : R → ℕ → R
  x ^ e = Ring.pow 𝓡 x e

  pub record Derivative (f g : R → R) : Type 0 where
    pub value : Bound 𝓞 (λ τ σ. f τ)
    pub rate : Bound 𝓞 (λ τ σ. g τ)
    pub rest : R → R → R
    pub small : Bound 𝓞 rest
    pub expands : (τ σ : R) → Moment 𝓞 τ → Moment 𝓞 σ → f σ ≡ f τ + (σ - τ) * g τ + (σ - τ) * (σ - τ) * rest τ σ

  pub derivative-eq : {f g u v : R → R} → Derivative f g → ((τ : R) → Moment 𝓞 τ → f τ ≡ u τ) → ((τ : R) → Moment 𝓞 τ → g τ ≡ v τ)
      → Derivative u v
  derivative-eq {f} {g} {u} {v} D e k = record {
    value = bound-eq 𝓞 D.value (λ τ σ m n. e τ m);
    rate = bound-eq 𝓞 D.rate (λ τ σ m n. k τ m);
    rest = D.rest;
    small = D.small;
    expands = λ τ σ m n.
        sym (e σ n) ∙ D.expands τ σ m n
        ∙ ap₂ (λ x y. x + (σ - τ) * y + (σ - τ) * (σ - τ) * D.rest τ σ) (e τ m) (k τ m);
  }

  -- a straight line
  pub derivative-line : (a b : R) → Derivative (λ τ. a + τ * b) (λ τ. b)
  derivative-line a b = record {
    value = bound-add 𝓞 (bound-const 𝓞 a) (bound-mul 𝓞 at-moment (bound-const 𝓞 b));
    rate = bound-const 𝓞 b;
    rest = λ τ σ. 𝟘;
    small = bound-const 𝓞 𝟘;
    expands = λ τ σ m n.
        ring 𝓡 4 (λ a b t s. a :+ s :* b := a :+ t :* b :+ (s :- t) :* b :+ (s :- t) :* (s :- t) :* :0) tt a b τ σ;
  }
    where
      at-moment : Bound 𝓞 (λ τ σ. τ)
      at-moment = bound-between 𝓞 𝟘 𝟙 (λ τ σ m n. (m.low, m.high))

  pub derivative-const : (c : R) → Derivative (λ τ. c) (λ τ. 𝟘)
  derivative-const c = derivative-eq (derivative-line c 𝟘) (λ τ m. ring 𝓡 2 (λ c t. c :+ t :* :0 := c) tt c τ) (λ τ m. refl)

  module _ {f g u v : R → R} (D : Derivative f g) (E : Derivative u v) where
    pub derivative-add : Derivative (λ τ. f τ + u τ) (λ τ. g τ + v τ)
    derivative-add = record {
      value = bound-add 𝓞 D.value E.value;
      rate = bound-add 𝓞 D.rate E.rate;
      rest = λ τ σ. D.rest τ σ + E.rest τ σ;
      small = bound-add 𝓞 D.small E.small;
      expands = λ τ σ m n.
          ap₂ ◌+◌ (D.expands τ σ m n) (E.expands τ σ m n)
          ∙ ring 𝓡 7
          (λ f g u v d r s. f :+ d :* g :+ d :* d :* r :+ (u :+ d :* v :+ d :* d :* s) := f :+ u :+ d :* (g :+ v) :+ d :* d :* (r :+ s))
          tt (f τ) (g τ) (u τ) (v τ) (σ - τ) (D.rest τ σ) (E.rest τ σ);
    }

    -- f σ·u σ − f τ·u τ = f σ·(u σ − u τ) + (f σ − f τ)·u τ
    pub derivative-mul : Derivative (λ τ. f τ * u τ) (λ τ. f τ * v τ + u τ * g τ)
    derivative-mul = record {
      value = bound-mul 𝓞 D.value E.value;
      rate = bound-add 𝓞 (bound-mul 𝓞 D.value E.rate) (bound-mul 𝓞 E.value D.rate);
      rest = λ τ σ. f σ * E.rest τ σ + D.rest τ σ * u τ + (g τ + (σ - τ) * D.rest τ σ) * v τ;
      small =
          bound-add 𝓞
          (bound-add 𝓞 (bound-mul 𝓞 (bound-swap 𝓞 D.value) E.small) (bound-mul 𝓞 D.small E.value))
          (bound-mul 𝓞 (bound-add 𝓞 D.rate (bound-mul 𝓞 (bound-apart 𝓞) D.small)) E.rate);
      expands = λ τ σ m n.
          ap (λ t. f σ * t) (E.expands τ σ m n)
          ∙ Ring.eq-by 𝓡 (u τ + (σ - τ) * v τ) (D.expands τ σ m n)
          (ring 𝓡 8
          (λ h f g u v d r s.
          h :* (u :+ d :* v :+ d :* d :* s) :- (f :* u :+ d :* (f :* v :+ u :* g) :+ d :* d :* (h :* s :+ r :* u :+ (g :+ d :* r) :* v))
          := (u :+ d :* v) :* (h :- (f :+ d :* g :+ d :* d :* r)))
          tt (f σ) (f τ) (g τ) (u τ) (v τ) (σ - τ) (D.rest τ σ) (E.rest τ σ));
    }

  -- the difference of two inverses, u = 1/x and v = 1/y
  inverse-difference : (x y u v : R) → x * u ≡ 𝟙 → y * v ≡ 𝟙 → v - u ≡ neg (u * v * (y - x))
  inverse-difference x y u v e f =
      sym (ap₂ ◌-◌ (𝓡.mul-one v) (𝓡.mul-one u))
      ∙ ap₂ (λ s t. v * s - u * t) (sym e) (sym f)
      ∙ ring 𝓡 4 (λ x y u v. v :* (x :* u) :- u :* (y :* v) := :- (u :* v :* (y :- x))) tt x y u v

  module _ {f g : R → R} (D : Derivative f g) where
    pub derivative-times : (c : R) → Derivative (λ τ. c * f τ) (λ τ. c * g τ)
    derivative-times c =
        derivative-eq (derivative-mul (derivative-const c) D) (λ τ m. refl)
        (λ τ m. ring 𝓡 3 (λ c f g. c :* g :+ f :* :0 := c :* g) tt c (f τ) (g τ))

    pub derivative-neg : Derivative (λ τ. neg (f τ)) (λ τ. neg (g τ))
    derivative-neg = derivative-eq (derivative-times (neg 𝟙)) (λ τ m. turned (f τ)) (λ τ m. turned (g τ))
      where
        turned : (x : R) → neg 𝟙 * x ≡ neg x
        turned = ring 𝓡 1 (λ x. :- :1 :* x := :- x) tt

    pub derivative-pow : (e : ℕ) → Derivative (λ τ. f τ ^ suc e) (λ τ. num (suc e) * f τ ^ e * g τ)
    unfolding Ring.power
    derivative-pow zero =
        derivative-eq D (λ τ m. sym (𝓡.mul-one (f τ)))
        (λ τ m. sym (ap (λ t. t * 𝟙 * g τ) (Ring.num-one 𝓡) ∙ ring 𝓡 1 (λ g. :1 :* :1 :* g := g) tt (g τ)))
    derivative-pow (suc e) =
        derivative-eq (derivative-mul D (derivative-pow e)) (λ τ m. refl)
        (λ τ m.
        ring 𝓡 4 (λ f g n p. f :* (n :* p :* g) :+ f :* p :* g := (n :+ :1) :* (f :* p) :* g) tt (f τ) (g τ) (num (suc e)) (f τ ^ e)
        ∙ ap (λ n. n * (f τ * f τ ^ e) * g τ) (sym (𝓡.num-suc (suc e))))

    -- y is 1/f: y σ − y τ = −y τ·y σ·(f σ − f τ)
    pub derivative-inv : (y : R → R) → Bound 𝓞 (λ τ σ. y τ) → ((τ : R) → Moment 𝓞 τ → f τ * y τ ≡ 𝟙) → Derivative y (λ τ. neg (g τ * y τ ^ 2))
    unfolding Ring.power
    derivative-inv y Y e = record {
      value = Y;
      rate = bound-neg 𝓞 (bound-mul 𝓞 D.rate (bound-mul 𝓞 Y (bound-mul 𝓞 Y (bound-const 𝓞 𝟙))));
      rest = λ τ σ. g τ * y τ * y τ * y σ * (g τ + (σ - τ) * D.rest τ σ) - y τ * y σ * D.rest τ σ;
      small =
          bound-add 𝓞
          (bound-mul 𝓞
          (bound-mul 𝓞 (bound-mul 𝓞 (bound-mul 𝓞 D.rate Y) Y) (bound-swap 𝓞 Y))
          (bound-add 𝓞 D.rate (bound-mul 𝓞 (bound-apart 𝓞) D.small)))
          (bound-neg 𝓞 (bound-mul 𝓞 (bound-mul 𝓞 Y (bound-swap 𝓞 Y)) D.small));
      expands = λ τ σ m n.
          Ring.eq-by 𝓡 (𝟙 - (σ - τ) * g τ * y τ) (falls τ σ m n)
          (ring 𝓡 6
          (λ f g y z d r.
          z :- (y :+ d :* :- (g :* (y :* (y :* :1))) :+ d :* d :* (g :* y :* y :* z :* (g :+ d :* r) :- y :* z :* r))
          := (:1 :- d :* g :* y) :* (z :- y :- :- (y :* z :* (f :+ d :* g :+ d :* d :* r :- f))))
          tt (f τ) (g τ) (y τ) (y σ) (σ - τ) (D.rest τ σ));
    }
      where
        falls : (τ σ : R) → Moment 𝓞 τ → Moment 𝓞 σ
            → y σ - y τ ≡ neg (y τ * y σ * (f τ + (σ - τ) * g τ + (σ - τ) * (σ - τ) * D.rest τ σ - f τ))
        falls τ σ m n =
            inverse-difference (f τ) (f σ) (y τ) (y σ) (e τ m) (e σ n)
            ∙ ap (λ h. neg (y τ * y σ * (h - f τ))) (D.expands τ σ m n)
