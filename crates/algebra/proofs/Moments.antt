-- Moments, the numbers from 0 to 1 of an ordered ring, and functions of two moments that are bounded: sums and products of such are bounded.
-- Assumes nothing.
use mathlib.Core.Path.{◌≡◌, sym}
use Rattle.algebra.proofs.Ring as Ring
use Rattle.algebra.proofs.Ordered as Ord
use Rattle.algebra.proofs.Ordered.{OrderedRing}
use Rattle.algebra.proofs.Solver.{:0, :1, ◌:+◌, ◌:*◌, ◌:-◌, :-◌, ◌:=◌, ring}
use Rattle.algebra.proofs.Linear.{◌:≤◌, ◌⇒◌, ⊢◌, linarith}

module _ {R : Type 0} (𝓞 : OrderedRing R) where
  infix 50 ◌≤◌
  infixl 65 ◌+◌
  infixl 65 ◌-◌
  infixl 70 ◌*◌
  open 𝓞 use {comm_ring as 𝓡, le as ◌≤◌, le_refl, le_trans, mul-nonneg}
  open 𝓞.comm_ring use {add as ◌+◌, mul as ◌*◌, neg, 𝟘, 𝟙}

  abbrev ◌-◌ : R → R → R
  a - b = a + neg b

  pub record Moment (τ : R) : Type 0 where
    pub low : 𝟘 ≤ τ
    pub high : τ ≤ 𝟙

  pub at-start : Moment 𝟘
  at-start = record { low = le_refl 𝟘; high = Ord.zero-le-one 𝓞 }

  pub at-end : Moment 𝟙
  at-end = record { low = Ord.zero-le-one 𝓞; high = le_refl 𝟙 }

  pub record Bound (f : R → R → R) : Type 0 where
    pub bound : R
    pub nonneg : 𝟘 ≤ bound
    pub low : (τ σ : R) → Moment τ → Moment σ → neg bound ≤ f τ σ
    pub high : (τ σ : R) → Moment τ → Moment σ → f τ σ ≤ bound

  -- a function between two numbers
  pub bound-between : {f : R → R → R} (l h : R) → ((τ σ : R) → Moment τ → Moment σ → (l ≤ f τ σ) × (f τ σ ≤ h)) → Bound f
  bound-between {f} l h e = record {
    bound = 𝟙 + l * l + h * h;
    nonneg =
        linarith 𝓞 2 (λ l h. :0 :≤ l :* l ⇒ :0 :≤ h :* h ⇒ ⊢ :0 :≤ :1 :+ l :* l :+ h :* h) tt l h
        (Ord.square-nonneg 𝓞 l) (Ord.square-nonneg 𝓞 h);
    low = λ τ σ m n. le_trans below (e τ σ m n).0;
    high = λ τ σ m n. le_trans (e τ σ m n).1 above;
  }
    where
      below : neg (𝟙 + l * l + h * h) ≤ l
      below =
          linarith 𝓞 2
          (λ l h. :0 :≤ l :* l ⇒ :0 :≤ h :* h ⇒ :0 :≤ (l :+ :1) :* (l :+ :1) ⇒ ⊢ :- (:1 :+ l :* l :+ h :* h) :≤ l) tt l h
          (Ord.square-nonneg 𝓞 l) (Ord.square-nonneg 𝓞 h) (Ord.square-nonneg 𝓞 (l + 𝟙))

      above : h ≤ 𝟙 + l * l + h * h
      above =
          linarith 𝓞 2
          (λ l h. :0 :≤ l :* l ⇒ :0 :≤ h :* h ⇒ :0 :≤ (h :- :1) :* (h :- :1) ⇒ ⊢ h :≤ :1 :+ l :* l :+ h :* h) tt l h
          (Ord.square-nonneg 𝓞 l) (Ord.square-nonneg 𝓞 h) (Ord.square-nonneg 𝓞 (h - 𝟙))

  pub bound-const : (c : R) → Bound (λ τ σ. c)
  bound-const c = bound-between c c (λ τ σ m n. (le_refl c, le_refl c))

  module _ {f g : R → R → R} (F : Bound f) (G : Bound g) where
    pub bound-add : Bound (λ τ σ. f τ σ + g τ σ)
    bound-add = record {
      bound = F.bound + G.bound;
      nonneg = Ord.add-nonneg 𝓞 F.nonneg G.nonneg;
      low = λ τ σ m n. Ord.eq-le 𝓞 (Ring.neg-add 𝓡 F.bound G.bound) (Ord.add-mono 𝓞 (F.low τ σ m n) (G.low τ σ m n));
      high = λ τ σ m n. Ord.add-mono 𝓞 (F.high τ σ m n) (G.high τ σ m n);
    }

    pub bound-mul : Bound (λ τ σ. f τ σ * g τ σ)
    bound-mul = record {
      bound = a * b;
      nonneg = both;
      low = λ τ σ m n.
          Ord.product-lower 𝓞 (F.low τ σ m n) (F.high τ σ m n) (G.low τ σ m n) (G.high τ σ m n)
          (Ord.le-eq 𝓞 less (ring 𝓡 2 (λ a b. a :* b := :- a :* :- b) tt a b))
          (Ord.le_of_eq 𝓞 (ring 𝓡 2 (λ a b. :- (a :* b) := :- a :* b) tt a b))
          (Ord.le_of_eq 𝓞 (ring 𝓡 2 (λ a b. :- (a :* b) := a :* :- b) tt a b))
          less;
      high = λ τ σ m n.
          Ord.product-upper 𝓞 (F.low τ σ m n) (F.high τ σ m n) (G.low τ σ m n) (G.high τ σ m n)
          (Ord.le_of_eq 𝓞 (ring 𝓡 2 (λ a b. :- a :* :- b := a :* b) tt a b))
          (Ord.eq-le 𝓞 (ring 𝓡 2 (λ a b. :- a :* b := :- (a :* b)) tt a b) less)
          (Ord.eq-le 𝓞 (ring 𝓡 2 (λ a b. a :* :- b := :- (a :* b)) tt a b) less)
          (le_refl (a * b));
    }
      where
        a : R
        a = F.bound

        b : R
        b = G.bound

        both : 𝟘 ≤ a * b
        both = mul-nonneg F.nonneg G.nonneg

        less : neg (a * b) ≤ a * b
        less = le_trans (Ord.neg-nonpos 𝓞 both) both

  pub bound-eq : {f g : R → R → R} → Bound f → ((τ σ : R) → Moment τ → Moment σ → f τ σ ≡ g τ σ) → Bound g
  bound-eq F e = record {
    bound = F.bound;
    nonneg = F.nonneg;
    low = λ τ σ m n. Ord.le-eq 𝓞 (F.low τ σ m n) (e τ σ m n);
    high = λ τ σ m n. Ord.eq-le 𝓞 (sym (e τ σ m n)) (F.high τ σ m n);
  }

  pub bound-neg : {f : R → R → R} → Bound f → Bound (λ τ σ. neg (f τ σ))
  bound-neg F = record {
    bound = F.bound;
    nonneg = F.nonneg;
    low = λ τ σ m n. Ord.neg-anti 𝓞 (F.high τ σ m n);
    high = λ τ σ m n. Ord.le-eq 𝓞 (Ord.neg-anti 𝓞 (F.low τ σ m n)) (Ring.neg-neg 𝓡 F.bound);
  }

  -- at the second moment
  pub bound-swap : {f : R → R → R} → Bound f → Bound (λ τ σ. f σ τ)
  bound-swap F = record {
    bound = F.bound;
    nonneg = F.nonneg;
    low = λ τ σ m n. F.low σ τ n m;
    high = λ τ σ m n. F.high σ τ n m;
  }

  -- the time between
  pub bound-apart : Bound (λ τ σ. σ - τ)
  bound-apart = record {
    bound = 𝟙;
    nonneg = Ord.zero-le-one 𝓞;
    low = λ τ σ m n. linarith 𝓞 2 (λ τ σ. τ :≤ :1 ⇒ :0 :≤ σ ⇒ ⊢ :- :1 :≤ σ :- τ) tt τ σ m.high n.low;
    high = λ τ σ m n. linarith 𝓞 2 (λ τ σ. :0 :≤ τ ⇒ σ :≤ :1 ⇒ ⊢ σ :- τ :≤ :1) tt τ σ m.low n.high;
  }
