-- The column E of the table: where the operands' spectra bound v'Hv of their exact second derivatives, each row's spectrum bounds its own.
-- Assumes nothing.
use mathlib.Core.Path.{◌≡◌, refl, sym, ◌∙◌, ap}
use Prim.Native.Nat.{ℕ, suc, ◌*◌, ◌-◌, ◌<◌, ◌≤◌}
use native.Mathlib.Omega.{arith}
use lib.Bits.{or_lt}
use lib.Dec.{T}
use lib.IntN.{ℤ, pos}
use Rattle.algebra.proofs.Form as Form
use Rattle.algebra.proofs.Ordered as Ord
use Rattle.algebra.proofs.Ring as Ring
use Rattle.exact.proofs.Rat as Q
use Rattle.exact.proofs.Rat.{ℚ, ◌+ℚ◌, ◌*ℚ◌, ◌^ℚ◌, 0ℚ, ℚ-ring, ℚ-ordered}
use Rattle.exact.proofs.Units.{units}
use Rattle.range.specs.declared.Range.{Range}
use Rattle.range.specs.Limit.{zero_range}
use Rattle.range.specs.Sums.{has, at}
use Rattle.range.specs.Inclusion.{◌∈◌, num}
use Rattle.range.proofs.Valid.{and_left, and_right}
use Rattle.range.proofs.Holds.{exactly-∈}
use Rattle.range.proofs.Bounded.{Bounded, bounded-eq, either-bounded, zero-bounded, sum-bounded, neg-bounded, times-bounded, product-bounded}
use Rattle.range.proofs.InclusionPower.{power-∈}
use Rattle.rules.specs.declared.Line.{Line}
use Rattle.rules.specs.Formula.{given, sticky}
use Rattle.rules.specs.Sets.{◌∪◌, apart, is_single, only}
use Rattle.rules.specs.Table.{reach, extended, square_spectrum, product_spectrum, singles, star_spectrum, factor_row, add_row, addc_row, mulc_row, mul_row, pow_row, inv_row, line_of}
use Rattle.rules.specs.Exact.{Point, Jet, factor_jet, add_jet, addc_jet, mulc_jet, mul_jet, pow_jet, inv_jet}
use Rattle.rules.proofs.Members.{◌⊆◌, ⊆-trans, ⊆-union, left-in, right-in, outside}
use Rattle.rules.proofs.InnerProducts.{weight, weight-nonneg}
use Rattle.rules.proofs.Forms as Forms
use Rattle.rules.proofs.SpectrumSum.{extended-bounded, spectrum_of_sum-bounded}
use Rattle.rules.proofs.Gradient.{Gradient, the-only}
use Rattle.rules.proofs.SpectrumSquare.{square_spectrum-bounded}
use Rattle.rules.proofs.SpectrumStar.{over-only, star_spectrum-bounded}
use Rattle.rules.proofs.SpectrumCross.{cross_spectrum-bounded}

-- v'Hv and u·v over the eight factors
abbrev pub form : (ℕ → ℕ → ℚ) → (ℕ → ℚ) → ℚ
form H v = Form.form ℚ-ring 8 H v

abbrev dot : (ℕ → ℚ) → (ℕ → ℚ) → ℚ
dot u v = Form.dot ℚ-ring 8 u v

-- a line's spectrum bounds v'Hv, for each v
pub record Curved (l : Line) (j : Jet) : Type 0 where
  pub curved : (v : ℕ → ℚ) → Bounded (weight l.nonlinear v) l.spectrum (form j.second v)

-- what the rules of mul, pow and inv ask of an operand besides its spectrum
pub record Known (l : Line) (j : Jet) : Type 0 where
  pub value : j.value ∈ l.value
  pub gradient : (a : ℕ) → a < 8 → j.first a ∈ at l.gradient a
  pub outside-support : (a : ℕ) → ¬ T (has l.support a) → j.first a ≡ 0ℚ
  pub flat : l.nonlinear ≡ 0 → l.spectrum ≡ zero_range
  pub small : reach l < 256

-- the gradient of a line, over its support or a larger set
gradient-over : {l : Line} {j : Jet} {s : ℕ} → Known l j → l.support ⊆ s → s < 256 → Gradient s l.gradient j.first
gradient-over K i small = record {
  small = small;
  members = record { each = λ a l m. K.gradient a l };
  outside = λ a m. K.outside-support a (outside i a m);
}

-- ════ the rows ════

pub factor-curved : (f : ℕ) (p : Point) (i : ℕ) (r : Range) → Curved (line_of (factor_row f i r)) (factor_jet p i)
unfolding line_of factor_row factor_jet
factor-curved f p i r = record { curved = λ v. bounded-eq (zero-bounded (weight f v)) (sym (Form.form-zero ℚ-ring 8 v (λ a b. refl))) }

pub add-curved : {x y : Line} {j k : Jet} → Curved x j → Curved y k → Curved (line_of (add_row x y)) (add_jet j k)
unfolding line_of add_row add_jet
add-curved {x} {y} {j} {k} X Y = record {
  curved = λ v.
      bounded-eq
      (spectrum_of_sum-bounded x.nonlinear y.nonlinear v (X.curved v) (Y.curved v))
      (sym (Form.form-add ℚ-ring 8 j.second k.second v));
}

pub addc-curved : {x : Line} {j : Jet} (c : ℤ) → Curved x j → Curved (line_of (addc_row x c)) (addc_jet j c)
unfolding line_of addc_row addc_jet
addc-curved c X = record { curved = X.curved }

pub mulc-curved : {x : Line} {j : Jet} (c : ℤ) → Curved x j → Curved (line_of (mulc_row x c)) (mulc_jet j c)
unfolding line_of mulc_row mulc_jet
mulc-curved {x} {j} c X = record {
  curved = λ v.
      bounded-eq
      (product-bounded (weight-nonneg x.nonlinear v) (exactly-∈ c) (X.curved v))
      (sym (Form.form-ext ℚ-ring 8 v (λ a b. Q.*ℚ-comm (j.second a b) (units c)) ∙ Form.form-scale ℚ-ring 8 (units c) j.second v));
}

-- what the rules of mul bound
module _ {x y : Line} {j k : Jet} (K : Known x j) (L : Known y k) (X : Curved x j) (Y : Curved y k) where
  product-spectrum-bounded : (v : ℕ → ℚ) → Bounded (weight (reach x ∪ reach y) v) (sticky (product_spectrum x y))
      (num 2 *ℚ dot v j.first *ℚ dot v k.first +ℚ (k.value *ℚ form j.second v +ℚ j.value *ℚ form k.second v))
  product-spectrum-bounded v =
      sum-bounded
      (cross_spectrum-bounded (gradient-over K left small) (gradient-over L right small) v)
      (extended-bounded (x.nonlinear ∪ y.nonlinear) (reach x ∪ reach y) v
      (⊆-union (right-in x.support x.nonlinear) (right-in y.support y.nonlinear))
      (spectrum_of_sum-bounded x.nonlinear y.nonlinear v
      (product-bounded (weight-nonneg x.nonlinear v) L.value (X.curved v))
      (product-bounded (weight-nonneg y.nonlinear v) K.value (Y.curved v))))
    where
      left : x.support ⊆ reach x ∪ reach y
      left = ⊆-trans (left-in x.support x.nonlinear) (left-in (reach x) (reach y))

      right : y.support ⊆ reach x ∪ reach y
      right = ⊆-trans (left-in y.support y.nonlinear) (right-in (reach x) (reach y))

      small : (reach x ∪ reach y) < 256
      small = or_lt 8 (reach x) (reach y) K.small L.small

  star-spectrum-bounded : T (singles x y) → (v : ℕ → ℚ) → Bounded (weight (reach x ∪ reach y) v) (sticky (star_spectrum x y))
      (num 2 *ℚ dot v j.first *ℚ dot v k.first +ℚ (k.value *ℚ form j.second v +ℚ j.value *ℚ form k.second v))
  star-spectrum-bounded t v =
      let u = and_right (is_single (reach x)) _ t in
      let w = and_right (is_single (reach y)) _ u in
      let D = gradient-over K (left-in x.support x.nonlinear) K.small in
      let F = gradient-over L (left-in y.support y.nonlinear) L.small in
      let o = the-only D (and_left (is_single (reach x)) _ t) in
      let q = the-only F (and_left (is_single (reach y)) _ u) in
      star_spectrum-bounded D F o q (and_left (apart (reach x) (reach y)) _ w) v
      (product-bounded (Ord.square-nonneg ℚ-ordered (v (only (reach x)))) L.value (over-only v (right-in x.support x.nonlinear) o K.flat (X.curved v)))
      (product-bounded (Ord.square-nonneg ℚ-ordered (v (only (reach y)))) K.value (over-only v (right-in y.support y.nonlinear) q L.flat (Y.curved v)))

  mul-spectrum-bounded : (v : ℕ → ℚ) → Bounded (weight (reach x ∪ reach y) v) (sticky (mul_row x y).spectrum)
      (num 2 *ℚ dot v j.first *ℚ dot v k.first +ℚ (k.value *ℚ form j.second v +ℚ j.value *ℚ form k.second v))
  unfolding mul_row
  mul-spectrum-bounded v = either-bounded (singles x y) (λ t. star-spectrum-bounded t v) (λ t. product-spectrum-bounded v)

  pub mul-curved : Curved (line_of (mul_row x y)) (mul_jet j k)
  unfolding line_of mul_row mul_jet
  mul-curved = record {
    curved = λ v.
        bounded-eq
        (mul-spectrum-bounded v)
        (sym (Forms.mul-form ℚ-ring 8 j.value k.value j.second k.second j.first k.first v));
  }

-- pow and inv
module _ {x : Line} {j : Jet} (K : Known x j) (X : Curved x j) where
  square-bounded : (v : ℕ → ℚ) → Bounded (weight (reach x) v) (sticky (square_spectrum (reach x) x.gradient))
      (dot v j.first *ℚ dot v j.first)
  square-bounded = square_spectrum-bounded (gradient-over K (left-in x.support x.nonlinear) K.small)

  support-bounded : (v : ℕ → ℚ)
      → Bounded (weight (reach x) v) (sticky (extended (given x.spectrum) x.nonlinear (reach x))) (form j.second v)
  support-bounded v = extended-bounded x.nonlinear (reach x) v (right-in x.support x.nonlinear) (X.curved v)

  pub pow-curved : (m : ℕ) → 2 ≤ m → Curved (line_of (pow_row x m)) (pow_jet j m)
  unfolding line_of pow_row pow_jet Ring.power
  pow-curved m two = record {
    curved = λ v.
        let p = weight-nonneg (reach x) v in
        bounded-eq
        (times-bounded m
        (product-bounded p (power-∈ (m - 2) K.value)
        (sum-bounded (times-bounded (m - 1) (square-bounded v)) (product-bounded p K.value (support-bounded v)))))
        (sym
        (Forms.pow-form ℚ-ring 8 (num m) (num (m - 1)) (num (m * (m - 1))) j.value (j.value ^ℚ (m - 2)) (j.value ^ℚ (m - 1))
        j.second j.first v step (sym (Q.from_ℤ-* (pos m) (pos (m - 1))))));
  }
    where
      raised : (n : ℕ) → j.value ^ℚ suc n ≡ j.value *ℚ j.value ^ℚ n
      raised n = refl

      one_less : m - 1 ≡ suc (m - 2)
      one_less = omega arith

      step : j.value ^ℚ (m - 1) ≡ j.value *ℚ j.value ^ℚ (m - 2)
      step = ap (λ n. j.value ^ℚ n) one_less ∙ raised (m - 2)

  -- y is 1/x
  pub inv-curved : (y : ℚ) → y ∈ (line_of (inv_row x)).value → Curved (line_of (inv_row x)) (inv_jet j y)
  unfolding line_of inv_row inv_jet Ring.power
  inv-curved y h = record {
    curved = λ v.
        let p = weight-nonneg (reach x) v in
        bounded-eq
        (product-bounded p (power-∈ 2 h)
        (sum-bounded (times-bounded 2 (product-bounded p h (square-bounded v))) (neg-bounded (support-bounded v))))
        (sym (Forms.inv-form ℚ-ring 8 y (y ^ℚ 2) (y ^ℚ 3) j.second j.first v refl));
  }
