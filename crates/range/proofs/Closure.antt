-- Every result is valid or `over`: `closure`. Assumes nothing.
use mathlib.Core.Path.{refl}
use mathlib.Core.Bool.{◌&&◌}
use mathlib.Core.Logic.{inl, inr}
use Prim.Native.Nat.{ℕ, zero, suc, zero-le}
use lib.Dec.{T}
use lib.IntN.{ℤ, pos, ◌-ℤ◌}
use lib.Signed.{◌≤ℤ◌}
use Rattle.algebra.proofs.Int.{ints, pos_part, neg_part, sub-dif, pos-≤}
use Rattle.range.specs.declared.Range.{Range}
use Rattle.range.specs.Limit.{from_to, most, is_valid}
use Rattle.range.specs.Arithmetic.{ends_sum, ends_neg, ends_times, ends_product, ends_inverse, ends_hull}
use Rattle.range.specs.Arithmetic.{holds_zero, sum_of, neg_of, times_of, product_of, inverse_of, hull_of}
use Rattle.range.specs.Power.{D, U, ups_within, is_even, pow_of}
use Rattle.range.specs.Sums.{valid_over, products_of, squares_of, root_of}
use Rattle.range.specs.Laws.{Settled, Closure}
use Rattle.range.proofs.Valid.{T_true, and_left, and_right, by-test, Ends, ends-of, valid-of}
use Rattle.range.proofs.Valid.{if-settled, kept-settled, sticky₁-settled, sticky₂-settled}
use Rattle.range.proofs.Powers.{chain-low, chain-high, down-up, ups-last}
use Rattle.range.proofs.PowerForms.{above_zero, below_zero, farthest, ends_even, pow_even, ends_odd, odd_within}
use Rattle.range.proofs.PowerForms.{pow_odd, pow_of_valid, pow-form, above-mono, below-anti, nearest-farthest}
use Rattle.range.proofs.StarLaws.{star-settled}

-- ---- powers
-- of magnitudes m ≤ n of which n's powers count
record Magnitudes (m n : ℤ) (e : ℕ) : Type 0 where
  low : pos 0 ≤ℤ D m e
  order : D m e ≤ℤ U n e
  high : U n e ≤ℤ most

magnitudes : (k : ℕ) {n : ℤ} (e : ℕ) → pos k ≤ℤ n → T (ups_within n (suc e)) → Magnitudes (pos k) n (suc e)
magnitudes k {n} e h t =
    let p : pos 0 ≤ℤ pos k = pos-≤ zero-le in
    record { low = chain-low down-up p h (suc e); order = chain-high down-up p h (suc e); high = ups-last n e t }

-- what lies above zero less what lies below
difference : {m n k l : ℤ} {e : ℕ} → Magnitudes m n e → Magnitudes k l e → Ends (from_to (D m e -ℤ U l e) (U n e -ℤ D k e))
difference {m} {n} {k} {l} {e} p q =
    let a = sub-dif (D m e) (U l e) in
    let b = sub-dif (U n e) (D k e) in
    record { above = omega ints; order = omega ints; below = omega ints }

module _ (r : Range) (o : r.low ≤ℤ r.high) (e : ℕ) where
  even-ends : T (ups_within (farthest r) (suc e)) → Ends (ends_even r (suc e))
  even-ends t =
      let m = magnitudes _ e (nearest-farthest r.low r.high o) t in
      record { above = omega ints; order = m.order; below = m.high }

  odd-ends : T (odd_within r (suc e)) → Ends (ends_odd r (suc e))
  odd-ends t =
      let down = ups_within (below_zero r.low) (suc e) in
      let up = ups_within (above_zero r.high) (suc e) in
      difference
      (magnitudes (pos_part r.low) e (above-mono o) (and_right down up t))
      (magnitudes (neg_part r.high) e (below-anti o) (and_left down up t))

  even-settled : Settled (pow_even r (suc e))
  even-settled = if-settled (ups_within (farthest r) (suc e)) (λ t. inl (T_true (valid-of (ends_even r (suc e)) (even-ends t))))

  odd-settled : Settled (pow_odd r (suc e))
  odd-settled = if-settled (odd_within r (suc e)) (λ t. inl (T_true (valid-of (ends_odd r (suc e)) (odd-ends t))))

valid-settled : (r : Range) → r.low ≤ℤ r.high → (e : ℕ) → Settled (pow_of_valid r e)
unfolding is_valid
valid-settled r o zero = inl refl
valid-settled r o (suc e) = rw (pow-form r o e) (by-test Settled (is_even (suc e)) (λ t. even-settled r o e) (λ t. odd-settled r o e))

power-settled : (r : Range) (e : ℕ) → Settled (pow_of r e)
unfolding pow_of
power-settled r e = if-settled (is_valid r) (λ t. valid-settled r (ends-of r t).order e)

inverse-settled : (a : Range) → Settled (inverse_of a)
unfolding inverse_of
inverse-settled a = by-test Settled (holds_zero a) (λ t. inr refl) (λ t. sticky₁-settled ends_inverse a)

pub closure : Closure
unfolding sum_of neg_of times_of product_of hull_of products_of squares_of root_of
closure = record {
  sum = sticky₂-settled ends_sum;
  negation = sticky₁-settled ends_neg;
  multiple = λ k. sticky₁-settled (ends_times k);
  product = sticky₂-settled ends_product;
  inverse = inverse-settled;
  power = power-settled;
  hull = sticky₂-settled ends_hull;
  products = λ s g h. if-settled (valid_over s g && valid_over s h) (λ t. kept-settled _);
  squares = λ s g. if-settled (valid_over s g) (λ t. kept-settled _);
  root = λ s g h. if-settled (valid_over s g && valid_over s h) (λ t. kept-settled _);
  star = star-settled;
}
