-- 01's Cross: the spectrum of gh' + hg', by the bound on 2(v·g)(v·h). Assumes nothing.
use mathlib.Core.Path.{sym, ◌∙◌, ap, ap₂}
use mathlib.Core.Bool.{◌&&◌}
use mathlib.Core.List.{List}
use Prim.Native.Nat.{ℕ}
use lib.Dec.{T}
use Rattle.algebra.proofs.Linear.{◌:≤◌, ◌⇒◌, ⊢◌, linarith}
use Rattle.algebra.proofs.Ordered as Ord
use Rattle.algebra.proofs.Solver.{lit, ◌:+◌, ◌:*◌, ◌:-◌, :-◌, ◌:=◌, ring}
use Rattle.algebra.proofs.Vectors.{dot}
use Rattle.exact.proofs.Rat as Q
use Rattle.exact.proofs.Rat.{ℚ, ◌-ℚ◌, ◌*ℚ◌, ◌≤ℚ◌, ℚ-ring, ℚ-ordered}
use Rattle.exact.proofs.Units.{units, units-neg}
use Rattle.range.specs.declared.Range.{Range}
use Rattle.range.specs.Arithmetic.{sum_of, times_of, product_of}
use Rattle.range.specs.Sums.{at, valid_over, products_of, ends_root, root_sum, root_of}
use Rattle.range.specs.Inclusion.{num}
use Rattle.range.proofs.Bounded.{Bounded, bounded-eq, if-bounded, either-bounded, kept-bounded, sum-bounded, weighted-by}
use Rattle.range.proofs.Inclusion.{inclusion}
use Rattle.range.proofs.InclusionSums.{squares-upper, root-nonneg, root-large}
use Rattle.range.proofs.Valid.{and_left, and_right}
use Rattle.rules.specs.Formula.{sticky}
use Rattle.rules.specs.Sets.{is_single, only}
use Rattle.rules.specs.Table.{cross_spectrum}
use Rattle.rules.proofs.InnerProducts.{inner, weight, weight-nonneg, inner-only, inner-double-upper, inner-double-lower}
use Rattle.rules.proofs.Gradient.{Gradient, inner-dot, the-only, only-∈}

module _ {s : ℕ} {g h : List Range} {d f : ℕ → ℚ} (D : Gradient s g d) (F : Gradient s h f) (v : ℕ → ℚ) where
  -- 2(v·d)(v·f), over s
  abbrev twice : ℚ
  twice = num 2 *ℚ inner s v d *ℚ inner s v f

  one : T (is_single s) → Bounded (weight s v) (times_of 2 (product_of (at g (only s)) (at h (only s)))) twice
  one t =
      let k = only s in
      let o = the-only D t in
      bounded-eq
      (weighted-by (weight-nonneg s v) (inclusion.multiple 2 (inclusion.product (only-∈ D o) (only-∈ F o))))
      (ap (λ w. num 2 *ℚ (d k *ℚ f k) *ℚ w) (inner-only v v o)
      ∙ ring ℚ-ring 3 (λ d f v. lit 2 :* (d :* f) :* (v :* v) := lit 2 :* (v :* d) :* (v :* f)) tt (d k) (f k) (v k)
      ∙ sym (ap₂ (λ x y. num 2 *ℚ x *ℚ y) (inner-only v d o) (inner-only v f o)))

  -- what is left without (d·f)(v·v)
  rest : Bounded (weight s v) (root_of s g h) (twice -ℚ inner s d f *ℚ weight s v)
  unfolding root_of
  rest =
      if-bounded (valid_over s g && valid_over s h) (λ t.
      kept-bounded (ends_root s g h)
      (record {
        low =
            Ord.eq-le ℚ-ordered (ap (λ u. u *ℚ weight s v) (sym (units-neg (root_sum s g h))))
            (linarith ℚ-ordered 4 (λ t p b w. (p :- b) :* w :≤ t ⇒ ⊢ :- b :* w :≤ t :- p :* w) tt
            twice (inner s d f) β (weight s v) (inner-double-lower s d f v β (root-nonneg s g h) (large t)));
        high =
            linarith ℚ-ordered 4 (λ t p b w. t :≤ (p :+ b) :* w ⇒ ⊢ t :- p :* w :≤ b :* w) tt
            twice (inner s d f) β (weight s v) (inner-double-upper s d f v β (root-nonneg s g h) (large t));
      }))
    where
      β : ℚ
      β = units (root_sum s g h)

      large : T (valid_over s g && valid_over s h) → weight s d *ℚ weight s f ≤ℚ units (root_sum s g h) *ℚ units (root_sum s g h)
      large t =
          Q.≤ℚ-trans
          (Ord.mul_mono ℚ-ordered
          (weight-nonneg s d)
          (squares-upper D.members (and_left (valid_over s g) (valid_over s h) t))
          (weight-nonneg s f)
          (squares-upper F.members (and_right (valid_over s g) (valid_over s h) t)))
          (root-large s g h)

  many : Bounded (weight s v) (sum_of (products_of s g h) (root_of s g h)) twice
  many =
      bounded-eq
      (sum-bounded (weighted-by (weight-nonneg s v) (inclusion.products D.members F.members)) rest)
      (ring ℚ-ring 2 (λ p t. p :+ (t :- p) := t) tt (inner s d f *ℚ weight s v) twice)

  pub cross_spectrum-bounded : Bounded (weight s v) (sticky (cross_spectrum s g h)) (num 2 *ℚ dot ℚ-ring 8 v d *ℚ dot ℚ-ring 8 v f)
  cross_spectrum-bounded =
      bounded-eq
      (either-bounded (is_single s) one (λ t. many))
      (ap₂ (λ x y. num 2 *ℚ x *ℚ y) (inner-dot D v) (inner-dot F v))
