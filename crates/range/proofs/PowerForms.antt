-- The rows of a power, of an exponent e ≥ 1, as one form for even and one for odd e, so that a law of powers is proved of two forms and not
-- of the pairs of rows. The part of an end above zero and that below are magnitudes, of which one is 0. Assumes nothing.
use mathlib.Core.Path.{◌≡◌, refl, sym, ap, ap₂, ◌∙◌}
use mathlib.Core.Bool.{Bool, true, false, ◌&&◌, cond, and-true}
use Prim.Native.Nat.{ℕ, zero, suc, ◌+◌, zero-le}
use native.Mathlib.Nat as N
use lib.Dec.{T, leb-zero, leb-suc-zero, eqb, eqb-suc-zero}
use lib.IntN.{ℤ, pos, negsuc, neg_ℤ, ◌-ℤ◌, *ℤ-zero, +ℤ_idl, +ℤ_idr}
use lib.Signed.{le_z, ◌≤ℤ◌, ≤ℤ_refl, le_z_yes}
use Rattle.algebra.proofs.Int.{ints, pos_part, neg_part, neg-dif, pos-≤, ≤ℤ-antisym, ≤ℤ-trans}
use Rattle.exact.proofs.Div.{floor_div, ceil_div}
use Rattle.range.specs.declared.Range.{Range}
use Rattle.range.specs.Limit.{from_to, most, one_range, over}
use Rattle.range.specs.Arithmetic.{greater_of}
use Rattle.range.specs.Power.{chain, D, U, ups_within, is_even, pow_above, pow_below, pow_across_even, pow_across_odd, pow_across, pow_by_sign}
use Rattle.range.proofs.Valid.{and_left, and_right, and_both}
use Rattle.range.proofs.Extremes.{greater-any, greater-left, greater-right}
use Rattle.range.proofs.Powers.{chain-high, up_up, D-zero}

-- ---- the forms
abbrev pub above_zero : ℤ → ℤ
above_zero x = pos (pos_part x)

abbrev pub below_zero : ℤ → ℤ
below_zero x = pos (neg_part x)

-- the least and the greatest magnitude in a range
abbrev pub nearest : Range → ℤ
nearest r = pos (pos_part r.low + neg_part r.high)

abbrev pub farthest : Range → ℤ
farthest r = greater_of (neg_ℤ r.low) r.high

abbrev pub ends_even : Range → ℕ → Range
ends_even r e = from_to (D (nearest r) e) (U (farthest r) e)

abbrev pub pow_even : Range → ℕ → Range
pow_even r e = cond (ups_within (farthest r) e) (ends_even r e) over

abbrev pub ends_odd : Range → ℕ → Range
ends_odd r e = from_to (D (above_zero r.low) e -ℤ U (below_zero r.low) e) (U (above_zero r.high) e -ℤ D (below_zero r.high) e)

abbrev pub odd_within : Range → ℕ → Bool
odd_within r e = ups_within (below_zero r.low) e && ups_within (above_zero r.high) e

abbrev pub pow_odd : Range → ℕ → Range
pow_odd r e = cond (odd_within r e) (ends_odd r e) over

-- ---- the powers of 0
pub U-zero : (e : ℕ) → U (pos 0) (suc e) ≡ pos 0
unfolding chain floor_div ceil_div
U-zero zero = refl
U-zero (suc e) = ap (λ (z : ℤ). ceil_div z 10000) (*ℤ-zero (U (pos 0) (suc e)))

-- what counts at a magnitude counts at a smaller one
pub ups-mono : {m n : ℤ} → pos 0 ≤ℤ m → m ≤ℤ n → (e : ℕ) → T (ups_within n e) → T (ups_within m e)
unfolding ups_within
ups-mono p h zero t = tt
ups-mono {m} {n} p h (suc e) t =
    and_both
    (ups_within m e)
    (le_z (U m (suc e)) most)
    (ups-mono p h e (and_left (ups_within n e) (le_z (U n (suc e)) most) t))
    (≤ℤ-trans (chain-high up_up p h (suc e)) (le_z_yes (and_right (ups_within n e) (le_z (U n (suc e)) most) t))).le

ups-zero : (e : ℕ) → ups_within (pos 0) e ≡ true
unfolding ups_within
ups-zero zero = refl
ups-zero (suc e) = rw (ups-zero e, U-zero e)

-- ---- a row is the form of its parity
greater-is-right : {x y : ℤ} → x ≤ℤ y → y ≡ greater_of x y
greater-is-right {x} {y} h = ≤ℤ-antisym (greater-right x y) (greater-any x y (λ z. z ≤ℤ y) h (≤ℤ_refl y))

greater-is-left : {x y : ℤ} → y ≤ℤ x → x ≡ greater_of x y
greater-is-left {x} {y} h = ≤ℤ-antisym (greater-left x y) (greater-any x y (λ z. z ≤ℤ x) (≤ℤ_refl x) h)

minus-zero : (x : ℤ) {z : ℤ} → z ≡ pos 0 → x ≡ x -ℤ z
minus-zero x e = sym (ap (λ z. x -ℤ z) e ∙ +ℤ_idr x)

zero_minus : (x : ℤ) {z : ℤ} → z ≡ pos 0 → neg_ℤ x ≡ z -ℤ x
zero_minus x e = sym (ap (λ z. z -ℤ x) e ∙ +ℤ_idl (neg_ℤ x))

-- two rows are one where their tests and their ends are
row_is : {c d : Bool} {l h m n : ℤ} → c ≡ d → l ≡ m → h ≡ n → cond c (from_to l h) over ≡ cond d (from_to m n) over
row_is p q r = ap₂ (λ c r. cond c r over) p (ap₂ from_to q r)

-- the row of [D m, U n], of magnitudes by what they are
even-of : (e : ℕ) {m n k l : ℤ} → m ≡ k → n ≡ l
    → cond (ups_within n e) (from_to (D m e) (U n e)) over ≡ cond (ups_within l e) (from_to (D k e) (U l e)) over
even-of e p q = row_is (ap (λ n. ups_within n e) q) (ap (λ m. D m e) p) (ap (λ n. U n e) q)

module _ (e : ℕ) where
  pub even-form : is_even (suc e) ≡ true → (l h : ℤ) → l ≤ℤ h → pow_by_sign (from_to l h) (suc e) ≡ pow_even (from_to l h) (suc e)
  unfolding pow_by_sign pow_above pow_below pow_across pow_across_even
  even-form v (pos a) (pos b) o =
      rw (leb-zero a) (even-of (suc e) (ap pos (sym (N.add-zero a))) (greater-is-right {x = neg_ℤ (pos a)} (omega (ints, neg-dif (pos a)))))
  even-form v (pos a) (negsuc b) o = absurd o.le
  even-form v (negsuc a) (negsuc b) o =
      rw v (even-of (suc e) (ap pos (sym (N.zero-add (suc b)))) (greater-is-left {y = negsuc b} (omega ints)))
  even-form v (negsuc a) (pos zero) o = rw v (even-of (suc e) refl (greater-is-left {y = pos zero} (omega ints)))
  even-form v (negsuc a) (pos (suc b)) o =
      let m = greater_of (pos (suc a)) (pos (suc b)) in
      rw (leb-suc-zero b, v) (row_is {c = ups_within m (suc e)} refl (sym (D-zero e)) refl)

  -- both rows whose high end is not above zero
  odd-below : (m n : ℤ)
      → cond (ups_within n (suc e)) (from_to (neg_ℤ (U n (suc e))) (neg_ℤ (D m (suc e)))) over
      ≡ cond
      (ups_within n (suc e) && ups_within (pos 0) (suc e))
      (from_to (D (pos 0) (suc e) -ℤ U n (suc e)) (U (pos 0) (suc e) -ℤ D m (suc e)))
      over
  odd-below m n =
      row_is
      (sym (ap (λ c. ups_within n (suc e) && c) (ups-zero (suc e)) ∙ and-true (ups_within n (suc e))))
      (zero_minus (U n (suc e)) (D-zero e))
      (zero_minus (D m (suc e)) (U-zero e))

  pub odd-form : is_even (suc e) ≡ false → (l h : ℤ) → l ≤ℤ h → pow_by_sign (from_to l h) (suc e) ≡ pow_odd (from_to l h) (suc e)
  unfolding pow_by_sign pow_above pow_below pow_across pow_across_odd
  odd-form v (pos a) (pos b) o =
      rw (leb-zero a)
      (row_is
      (sym (ap (λ c. c && ups_within (pos b) (suc e)) (ups-zero (suc e))))
      (minus-zero (D (pos a) (suc e)) (U-zero e))
      (minus-zero (U (pos b) (suc e)) (D-zero e)))
  odd-form v (pos a) (negsuc b) o = absurd o.le
  odd-form v (negsuc a) (negsuc b) o = rw v (odd-below (pos (suc b)) (pos (suc a)))
  odd-form v (negsuc a) (pos zero) o = rw v (odd-below (pos 0) (pos (suc a)))
  odd-form v (negsuc a) (pos (suc b)) o =
      rw (leb-suc-zero b, v)
      (row_is
      {c = ups_within (pos (suc a)) (suc e) && ups_within (pos (suc b)) (suc e)}
      refl
      (zero_minus (U (pos (suc a)) (suc e)) (D-zero e))
      (minus-zero (U (pos (suc b)) (suc e)) (D-zero e)))

-- ---- a power of a valid range, by its exponent's parity
abbrev pub pow_of_valid : Range → ℕ → Range
pow_of_valid r e = cond (eqb e 0) one_range (pow_by_sign r e)

pub pow-form : (r : Range) → r.low ≤ℤ r.high → (e : ℕ)
    → pow_of_valid r (suc e) ≡ cond (is_even (suc e)) (pow_even r (suc e)) (pow_odd r (suc e))
pow-form r o e = rw (eqb-suc-zero e) (go (is_even (suc e)) refl)
  where
    go : (c : Bool) → is_even (suc e) ≡ c → pow_by_sign r (suc e) ≡ cond c (pow_even r (suc e)) (pow_odd r (suc e))
    go true v = even-form e v r.low r.high o
    go false v = odd-form e v r.low r.high o

-- ---- the magnitudes
pub above-mono : {x y : ℤ} → x ≤ℤ y → above_zero x ≤ℤ above_zero y
above-mono {x = pos a} {y = pos b} h = h
above-mono {x = pos a} {y = negsuc b} h = absurd h.le
above-mono {x = negsuc a} {y = y} h = pos-≤ zero-le

pub below-anti : {x y : ℤ} → x ≤ℤ y → below_zero y ≤ℤ below_zero x
below-anti {x = x} {y = pos b} h = pos-≤ zero-le
below-anti {x = pos a} {y = negsuc b} h = absurd h.le
below-anti {x = negsuc a} {y = negsuc b} h = omega ints

pub nearest-farthest : (l h : ℤ) → l ≤ℤ h → nearest (from_to l h) ≤ℤ farthest (from_to l h)
nearest-farthest (pos a) (pos b) o = ≤ℤ-trans (omega ints) (greater-right (neg_ℤ (pos a)) (pos b))
nearest-farthest (pos a) (negsuc b) o = absurd o.le
nearest-farthest (negsuc a) (pos b) o = ≤ℤ-trans (omega ints) (greater-left (pos (suc a)) (pos b))
nearest-farthest (negsuc a) (negsuc b) o = ≤ℤ-trans (omega ints) (greater-left (pos (suc a)) (negsuc b))
