-- A line along a straight way with the direction d: its exact first derivatives of 01's table, taken along d, are the derivative of its value
-- by the moment. Each row of the table that is within the limit keeps this. Assumes nothing.
use mathlib.Core.Path.{◌≡◌, refl, sym, ◌∙◌, ap}
use Prim.Native.Nat.{ℕ, suc, ◌-◌, ◌≤◌, ◌<◌}
use native.Mathlib.Omega.{arith}
use lib.Dec.{T}
use lib.IntN.{ℤ}
use Rattle.algebra.proofs.Derivatives as D
use Rattle.algebra.proofs.Derivatives.{Derivative, derivative-eq}
use Rattle.algebra.proofs.Dot.{dot, dot-add, dot-scale, dot-by, dot-lin, dot-neg, dot-unit}
use Rattle.algebra.proofs.Moments.{Moment, Bound, bound-between}
use Rattle.exact.proofs.Rat as Q
use Rattle.exact.proofs.Rat.{ℚ, ◌+ℚ◌, ◌*ℚ◌, ◌^ℚ◌, neg_ℚ, 1ℚ, ℚ-ring, ℚ-ordered}
use Rattle.exact.proofs.Units.{units}
use Rattle.range.specs.declared.Range.{Range}
use Rattle.range.specs.Inclusion.{num}
use Rattle.range.proofs.Holds.{InRange}
use Rattle.rules.specs.declared.Line.{Line}
use Rattle.rules.specs.Table.{factor_row, add_row, addc_row, mulc_row, mul_row, pow_row, inv_row, line_of}
use Rattle.rules.specs.Run.{within}
use Rattle.rules.specs.Exact.{Point, coordinate, Jet, factor_jet, add_jet, addc_jet, mulc_jet, mul_jet, pow_jet, inv_jet}
use Rattle.rules.proofs.Enclosed.{Enclosed, factor-enclosed, addc-enclosed, mulc-enclosed, pow-enclosed, inv-enclosed}
use Rattle.rules.proofs.Enclosed.{add-enclosed, mul-enclosed}

-- Σ d_a·s_a over the eight factors: how much a straight line with the slopes s rises along d
abbrev pub rise : (ℕ → ℚ) → (ℕ → ℚ) → ℚ
rise d s = dot ℚ-ring 8 d s

pub record Smooth (d : ℕ → ℚ) (x : ℚ → Jet) (l : Line) : Type 0 where
  pub enclosed : (τ : ℚ) → Moment ℚ-ordered τ → Enclosed (x τ) l
  pub first : Derivative ℚ-ordered (λ τ. (x τ).value) (λ τ. rise d (x τ).first)

module _ {d : ℕ → ℚ} where
  -- ---- the table
  -- a factor, on points that go straight ahead in it
  pub factor-smooth : (f : ℕ) (p : ℚ → Point) (a : ℚ) (i : ℕ) (r : Range) → i < 8
      → ((τ : ℚ) → Moment ℚ-ordered τ → coordinate (p τ) i ≡ a +ℚ τ *ℚ d i)
      → ((τ : ℚ) → Moment ℚ-ordered τ → InRange (coordinate (p τ) i) r) → Smooth d (λ τ. factor_jet (p τ) i) (line_of (factor_row f i r))
  unfolding factor_jet
  factor-smooth f p a i r k e b = record {
    enclosed = λ τ m. factor-enclosed f (p τ) i r (b τ m);
    first = derivative-eq ℚ-ordered (D.derivative-line ℚ-ordered a (d i)) (λ τ m. sym (e τ m)) (λ τ m. sym (dot-unit ℚ-ring 8 d k));
  }

  module _ {x : ℚ → Jet} {l : Line} (h : Smooth d x l) where
    pub addc-smooth : (c : ℤ) → T (within (line_of (addc_row l c))) → Smooth d (λ τ. addc_jet (x τ) c) (line_of (addc_row l c))
    unfolding addc_jet
    addc-smooth c t = record {
      enclosed = λ τ m. addc-enclosed (h.enclosed τ m) c t;
      first =
          derivative-eq ℚ-ordered (D.derivative-add ℚ-ordered h.first (D.derivative-const ℚ-ordered (units c))) (λ τ m. refl)
          (λ τ m. Q.+ℚ-zero _);
    }

    pub mulc-smooth : (c : ℤ) → T (within (line_of (mulc_row l c))) → Smooth d (λ τ. mulc_jet (x τ) c) (line_of (mulc_row l c))
    unfolding mulc_jet
    mulc-smooth c t = record {
      enclosed = λ τ m. mulc-enclosed (h.enclosed τ m) c t;
      first =
          derivative-eq ℚ-ordered (D.derivative-times ℚ-ordered h.first (units c)) (λ τ m. Q.*ℚ-comm (units c) _)
          (λ τ m. Q.*ℚ-comm (units c) _ ∙ sym (dot-by ℚ-ring 8 d (x τ).first (units c)));
    }

    pub pow-smooth : (m : ℕ) → 2 ≤ m → T (within (line_of (pow_row l m))) → Smooth d (λ τ. pow_jet (x τ) m) (line_of (pow_row l m))
    unfolding pow_jet
    pow-smooth m two t = record {
      enclosed = λ τ i. pow-enclosed (h.enclosed τ i) m t;
      first =
          derivative-eq ℚ-ordered (raised m (m - 1) (omega arith)) (λ τ i. refl)
          (λ τ i. sym (dot-scale ℚ-ring 8 d (num m *ℚ (x τ).value ^ℚ (m - 1)) (x τ).first));
    }
      where
        raised : (e k : ℕ) → e ≡ suc k → Derivative ℚ-ordered (λ τ. (x τ).value ^ℚ e) (λ τ. num e *ℚ (x τ).value ^ℚ k *ℚ rise d (x τ).first)
        raised e k same = rw same (D.derivative-pow ℚ-ordered h.first k)

    -- y is 1/x
    pub inv-smooth : (y : ℚ → ℚ) → T (within (line_of (inv_row l))) → ((τ : ℚ) → Moment ℚ-ordered τ → (x τ).value *ℚ y τ ≡ 1ℚ)
        → Smooth d (λ τ. inv_jet (x τ) (y τ)) (line_of (inv_row l))
    unfolding inv_jet
    inv-smooth y t e = record {
      enclosed = λ τ m. inv-enclosed (h.enclosed τ m) t (y τ) (e τ m);
      first =
          derivative-eq ℚ-ordered (D.derivative-inv ℚ-ordered h.first y bounded e) (λ τ m. refl)
          (λ τ m.
          sym (dot-neg ℚ-ring 8 d (λ a. (x τ).first a *ℚ y τ ^ℚ 2) ∙ ap neg_ℚ (dot-by ℚ-ring 8 d (x τ).first (y τ ^ℚ 2))));
    }
      where
        r : Range
        r = (line_of (inv_row l)).value

        bounded : Bound ℚ-ordered (λ τ σ. y τ)
        bounded =
            bound-between ℚ-ordered (units r.low) (units r.high) (λ τ σ m n.
            let b = (inv-enclosed (h.enclosed τ m) t (y τ) (e τ m)).value in (b.low, b.high))

  module _ {x y : ℚ → Jet} {l m : Line} (h : Smooth d x l) (k : Smooth d y m) where
    pub add-smooth : T (within (line_of (add_row l m))) → Smooth d (λ τ. add_jet (x τ) (y τ)) (line_of (add_row l m))
    unfolding add_jet
    add-smooth t = record {
      enclosed = λ τ m. add-enclosed (h.enclosed τ m) (k.enclosed τ m) t;
      first =
          derivative-eq ℚ-ordered (D.derivative-add ℚ-ordered h.first k.first) (λ τ m. refl)
          (λ τ m. sym (dot-add ℚ-ring 8 d (x τ).first (y τ).first));
    }

    pub mul-smooth : T (within (line_of (mul_row l m))) → Smooth d (λ τ. mul_jet (x τ) (y τ)) (line_of (mul_row l m))
    unfolding mul_jet
    mul-smooth t = record {
      enclosed = λ τ m. mul-enclosed (h.enclosed τ m) (k.enclosed τ m) t;
      first =
          derivative-eq ℚ-ordered (D.derivative-mul ℚ-ordered h.first k.first) (λ τ m. refl)
          (λ τ m. sym (dot-lin ℚ-ring 8 d (y τ).first (x τ).first (x τ).value (y τ).value));
    }
