-- A line's ranges hold its exact value and first derivatives. Each row of the table that is within the limit keeps this. Assumes nothing.
use mathlib.Core.Path.{◌≡◌, refl, sym}
use mathlib.Core.Bool.{Bool, true, false, ◌&&◌, cond}
use mathlib.Core.List.{List, [], ◌∷◌}
use Prim.Native.Nat.{ℕ, zero, suc, ◌-◌, ◌<◌}
use native.Mathlib.Omega.{arith}
use lib.Dec.{T, eqb}
use lib.IntN.{ℤ}
use Rattle.exact.proofs.Rat as Q
use Rattle.exact.proofs.Rat.{ℚ, ◌*ℚ◌, ◌^ℚ◌, 0ℚ, 1ℚ}
use Rattle.exact.specs.Units.{units}
use Rattle.range.specs.declared.Range.{Range}
use Rattle.range.specs.Limit.{zero_range, one_range, is_valid}
use Rattle.range.specs.Arithmetic.{inverse_of}
use Rattle.range.specs.Inclusion.{◌∈◌, num}
use Rattle.range.specs.Sums.{at}
use Rattle.range.proofs.Valid.{and_left, and_right}
use Rattle.range.proofs.Holds.{InRange, ∈-of, ∈-eq, exactly-∈}
use Rattle.range.proofs.Inclusion.{inclusion}
use Rattle.rules.specs.declared.Line.{Line}
use Rattle.rules.specs.Formula.{sticky}
use Rattle.rules.specs.Table.{Row, eight, factor_row, add_row, addc_row, mulc_row, mul_row, pow_row, inv_row, line_of}
use Rattle.rules.specs.Run.{each_valid, within}
use Rattle.rules.specs.Exact.{Point, coordinate, Jet, factor_jet, add_jet, addc_jet, mulc_jet, mul_jet, pow_jet, inv_jet}

pub record Enclosed (x : Jet) (l : Line) : Type 0 where
  pub value : InRange x.value l.value
  pub first : (a : ℕ) → a < 8 → InRange (x.first a) (at l.gradient a)

-- as members of the operands' ranges
module _ {x : Jet} {l : Line} (h : Enclosed x l) where
  pub value-∈ : x.value ∈ l.value
  value-∈ = ∈-of h.value

  pub first-∈ : (a : ℕ) → a < 8 → x.first a ∈ at l.gradient a
  first-∈ a k = ∈-of (h.first a k)

-- ---- a line within the limit
pub at-eight : (g : ℕ → Range) (a : ℕ) → a < 8 → at (eight g) a ≡ g a
at-eight g zero h = refl
at-eight g (suc zero) h = refl
at-eight g (suc (suc zero)) h = refl
at-eight g (suc (suc (suc zero))) h = refl
at-eight g (suc (suc (suc (suc zero)))) h = refl
at-eight g (suc (suc (suc (suc (suc zero))))) h = refl
at-eight g (suc (suc (suc (suc (suc (suc zero)))))) h = refl
at-eight g (suc (suc (suc (suc (suc (suc (suc zero))))))) h = refl
at-eight g (suc (suc (suc (suc (suc (suc (suc (suc a)))))))) h = let f : ⊥ = omega arith in absurd f

each-valid : (rs : List Range) (a : ℕ) → T (each_valid rs) → T (is_valid (at rs a))
unfolding is_valid
each-valid [] a t = tt
each-valid (r ∷ rs) zero t = and_left (is_valid r) (each_valid rs) t
each-valid (r ∷ rs) (suc a) t = each-valid rs a (and_right (is_valid r) (each_valid rs) t)

module _ (l : Line) (t : T (within l)) where
  pub value-valid : T (is_valid l.value)
  unfolding within
  value-valid = and_left (is_valid l.value) (each_valid l.gradient && is_valid l.spectrum) t

  others-valid : T (each_valid l.gradient && is_valid l.spectrum)
  unfolding within
  others-valid = and_right (is_valid l.value) (each_valid l.gradient && is_valid l.spectrum) t

  pub gradient-valid : (a : ℕ) → T (is_valid (at l.gradient a))
  gradient-valid a = each-valid l.gradient a (and_left (each_valid l.gradient) (is_valid l.spectrum) others-valid)

  pub spectrum-valid : T (is_valid l.spectrum)
  spectrum-valid = and_right (each_valid l.gradient) (is_valid l.spectrum) others-valid

-- of a row whose formulas hold the exact numbers
enclosed : {x : Jet} (r : Row) → T (within (line_of r)) → x.value ∈ sticky r.value
    → ((a : ℕ) → a < 8 → x.first a ∈ sticky (r.slope a)) → Enclosed x (line_of r)
unfolding line_of
enclosed {x} r t v g = record {
  value = v.between (value-valid (line_of r) t);
  first = λ a k.
      let e : at (line_of r).gradient a ≡ sticky (r.slope a) = at-eight (λ a. sticky (r.slope a)) a k in
      rw e ((g a k).between (rw e at (gradient-valid (line_of r) t a)));
}

-- ---- the table
pub factor-enclosed : (f : ℕ) (p : Point) (i : ℕ) (r : Range) → InRange (coordinate p i) r → Enclosed (factor_jet p i) (line_of (factor_row f i r))
unfolding factor_jet factor_row line_of is_valid
factor-enclosed f p i r h = record { value = h; first = λ a k. rw (at-eight (λ a. cond (eqb a i) one_range zero_range) a k) (one_at (eqb a i)) }
  where
    one_at : (b : Bool) → InRange (cond b 1ℚ 0ℚ) (cond b one_range zero_range)
    one_at true = inclusion.one.between tt
    one_at false = inclusion.zero.between tt

module _ {x : Jet} {l : Line} (h : Enclosed x l) where
  pub addc-enclosed : (c : ℤ) → T (within (line_of (addc_row l c))) → Enclosed (addc_jet x c) (line_of (addc_row l c))
  unfolding addc_jet addc_row
  addc-enclosed c t = enclosed (addc_row l c) t (inclusion.sum (value-∈ h) (exactly-∈ c)) (first-∈ h)

  pub mulc-enclosed : (c : ℤ) → T (within (line_of (mulc_row l c))) → Enclosed (mulc_jet x c) (line_of (mulc_row l c))
  unfolding mulc_jet mulc_row
  mulc-enclosed c t =
      enclosed (mulc_row l c) t
      (∈-eq (Q.*ℚ-comm (units c) x.value) (inclusion.product (exactly-∈ c) (value-∈ h)))
      (λ a k. ∈-eq (Q.*ℚ-comm (units c) (x.first a)) (inclusion.product (exactly-∈ c) (first-∈ h a k)))

  pub pow-enclosed : (m : ℕ) → T (within (line_of (pow_row l m))) → Enclosed (pow_jet x m) (line_of (pow_row l m))
  unfolding pow_jet pow_row
  pow-enclosed m t =
      enclosed (pow_row l m) t
      (inclusion.power m (value-∈ h))
      (λ a k.
      ∈-eq
      (sym (Q.*ℚ-assoc (num m) (x.value ^ℚ (m - 1)) (x.first a)))
      (inclusion.multiple m (inclusion.product (inclusion.power (m - 1) (value-∈ h)) (first-∈ h a k))))

  module _ (t : T (within (line_of (inv_row l)))) where
    -- y is 1/x
    pub inv-enclosed : (y : ℚ) → x.value *ℚ y ≡ 1ℚ → Enclosed (inv_jet x y) (line_of (inv_row l))
    unfolding inv_jet inv_row
    inv-enclosed y e =
        enclosed (inv_row l) t own
        (λ a k. inclusion.negation (∈-eq (Q.*ℚ-comm (y ^ℚ 2) (x.first a)) (inclusion.product (inclusion.power 2 own) (first-∈ h a k))))
      where
        own : y ∈ inverse_of l.value
        own = inclusion.inverse (value-∈ h) e

    pub divisor : ¬ (x.value ≡ 0ℚ)
    unfolding line_of inv_row
    divisor = inclusion.divisor (value-valid (line_of (inv_row l)) t) (value-∈ h)

module _ {x y : Jet} {l m : Line} (h : Enclosed x l) (k : Enclosed y m) where
  pub add-enclosed : T (within (line_of (add_row l m))) → Enclosed (add_jet x y) (line_of (add_row l m))
  unfolding add_jet add_row
  add-enclosed t = enclosed (add_row l m) t (inclusion.sum (value-∈ h) (value-∈ k)) (λ a i. inclusion.sum (first-∈ h a i) (first-∈ k a i))

  pub mul-enclosed : T (within (line_of (mul_row l m))) → Enclosed (mul_jet x y) (line_of (mul_row l m))
  unfolding mul_jet mul_row
  mul-enclosed t =
      enclosed (mul_row l m) t
      (inclusion.product (value-∈ h) (value-∈ k))
      (λ a i. inclusion.sum (inclusion.product (value-∈ h) (first-∈ k a i)) (inclusion.product (value-∈ k) (first-∈ h a i)))
