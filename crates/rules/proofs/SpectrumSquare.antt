-- 01's Sq: the spectrum of gg', by Cauchy–Schwarz. Assumes nothing.
use mathlib.Core.Path.{sym, ◌∙◌, ap, ap₂}
use mathlib.Core.List.{List}
use Prim.Native.Nat.{ℕ}
use lib.Dec.{T}
use Rattle.algebra.proofs.Ordered as Ord
use Rattle.algebra.proofs.Solver.{◌:*◌, ◌:^◌, ◌:=◌, ring}
use Rattle.algebra.proofs.Vectors.{dot}
use Rattle.exact.proofs.Rat as Q
use Rattle.exact.proofs.Rat.{ℚ, ◌*ℚ◌, ◌^ℚ◌, ℚ-ring, ℚ-ordered}
use Rattle.exact.proofs.Units.{units-0}
use Rattle.range.specs.declared.Range.{Range}
use Rattle.range.specs.Power.{pow_of}
use Rattle.range.specs.Sums.{at, valid_over, ends_squares, squares_of}
use Rattle.range.proofs.Bounded.{Bounded, bounded-eq, if-bounded, either-bounded, kept-bounded, weighted-by}
use Rattle.range.proofs.InclusionPower.{power-∈}
use Rattle.range.proofs.InclusionSums.{squares-upper}
use Rattle.rules.specs.Formula.{sticky}
use Rattle.rules.specs.Sets.{is_single, only}
use Rattle.rules.specs.Table.{square_spectrum}
use Rattle.rules.proofs.InnerProducts.{inner, weight, weight-nonneg, inner-only, inner-square}
use Rattle.rules.proofs.Gradient.{Gradient, inner-dot, the-only, only-∈}

module _ {s : ℕ} {g : List Range} {d : ℕ → ℚ} (D : Gradient s g d) (v : ℕ → ℚ) where
  one : T (is_single s) → Bounded (weight s v) (pow_of (at g (only s)) 2) (inner s v d *ℚ inner s v d)
  one t =
      let k = only s in
      let o = the-only D t in
      bounded-eq
      (weighted-by (weight-nonneg s v) (power-∈ 2 (only-∈ D o)))
      (ap (λ w. d k ^ℚ 2 *ℚ w) (inner-only v v o)
      ∙ ring ℚ-ring 2 (λ d v. d :^ 2 :* (v :* v) := v :* d :* (v :* d)) tt (d k) (v k)
      ∙ sym (ap₂ ◌*ℚ◌ (inner-only v d o) (inner-only v d o)))

  many : Bounded (weight s v) (squares_of s g) (inner s v d *ℚ inner s v d)
  unfolding squares_of
  many =
      if-bounded (valid_over s g) (λ t.
      kept-bounded (ends_squares s g)
      (record {
        low =
            Ord.eq-le ℚ-ordered
            (ap (λ u. u *ℚ weight s v) units-0 ∙ Q.zero-*ℚ (weight s v))
            (Ord.square-nonneg ℚ-ordered (inner s v d));
        high =
            Q.≤ℚ-trans
            (inner-square s v d)
            (Ord.eq-le ℚ-ordered
            (Q.*ℚ-comm (weight s v) (weight s d))
            (Ord.mul-le-right ℚ-ordered (weight-nonneg s v) (squares-upper D.members t)));
      }))

  pub square_spectrum-bounded : Bounded (weight s v) (sticky (square_spectrum s g)) (dot ℚ-ring 8 v d *ℚ dot ℚ-ring 8 v d)
  square_spectrum-bounded =
      bounded-eq
      (either-bounded (is_single s) one (λ t. many))
      (ap₂ ◌*ℚ◌ (inner-dot D v) (inner-dot D v))
