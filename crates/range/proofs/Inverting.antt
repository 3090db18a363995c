-- The inverse by the sign of its operand, as the code takes it: above 0, below 0, or none where the range holds 0. Assumes nothing.
use mathlib.Core.Path.{◌≡◌, refl, ◌∙◌, sym, ap, ap₂, subst}
use mathlib.Core.Logic.{inl, inr}
use mathlib.Core.Bool.{Bool, true, false, not, ◌&&◌}
use Prim.Native.Nat.{ℕ}
use lib.Dec.{T}
use lib.IntN.{ℤ, pos, negsuc, neg_ℤ, nat_abs, neg_ℤ-neg_ℤ}
use lib.Signed.{le_z, lt_z, ◌≤ℤ◌, ◌<ℤ◌, lt_z_yes, lt_z_no, le_z_yes, clash_ℤ}
use Rattle.algebra.proofs.Int.{ints, neg-dif, add-dif, le_z-no}
use Rattle.exact.proofs.Div.{floor_div, ceil_div, floor_quot, ceil_quot, by_sign, OneSign}
use Rattle.range.specs.declared.Range.{Range}
use Rattle.range.specs.Limit.{from_to, over, is_valid, kept, sticky₁}
use Rattle.range.specs.Arithmetic.{ends_neg, neg_of, holds_zero, ends_inverse, inverse_of}
use Rattle.range.specs.Steps.{Shiftable, ends_over, inv_above, inv_below}
use Rattle.range.proofs.Valid.{T_true, true-T, not-true, false-T, and_both, and-false, by-test, ends-of, if-passed}
use Rattle.range.proofs.Fitting.{neg-valid, neg_of-is, neg_of-over}
use Rattle.range.proofs.Shifting.{unshifted}

-- an order, as its test
pub less-true : (a b : ℤ) → a <ℤ b → lt_z a b ≡ true
less-true a b h = T_true h.lt

-- by the ends of a range above 0 100,000,000 is divided without a shift
module _ (r : Range) (v : is_valid r ≡ true) where
  high-above : lt_z (pos 0) r.low ≡ true → lt_z (pos 0) r.high ≡ true
  high-above p = let e = ends-of r (true-T v) in let q : pos 0 <ℤ r.low = lt_z_yes (true-T p) in less-true (pos 0) r.high (omega ints)

  pub low-divides : lt_z (pos 0) r.low ≡ true → Shiftable (pos 100000000) r.low (pos 0)
  low-divides p =
      let e = ends-of r (true-T v) in
      unshifted 100000000 r.low (lt_z_yes (true-T p)) (omega (ints, add-dif (pos 100000000) r.low))

  pub high-divides : lt_z (pos 0) r.low ≡ true → Shiftable (pos 100000000) r.high (pos 0)
  high-divides p =
      let e = ends-of r (true-T v) in
      unshifted 100000000 r.high (lt_z_yes (true-T (high-above p))) (omega (ints, add-dif (pos 100000000) r.high))

pub neg-above : (x : ℤ) → lt_z x (pos 0) ≡ true → lt_z (pos 0) (neg_ℤ x) ≡ true
neg-above x p = let q : x <ℤ pos 0 = lt_z_yes (true-T p) in less-true (pos 0) (neg_ℤ x) (omega (ints, neg-dif x))

pub ruleset inverting = (low-divides, high-divides, neg-above)

-- ---- a range below 0: its signs are changed, and those of the inverse
neg-kept : (r : Range) → neg_of (kept r) ≡ kept (ends_neg r)
unfolding kept
neg-kept r = go (is_valid r) refl
  where
    twice : is_valid (ends_neg (ends_neg r)) ≡ is_valid r
    twice = ap₂ (λ l h. is_valid (from_to l h)) (neg_ℤ-neg_ℤ r.low) (neg_ℤ-neg_ℤ r.high)

    none : is_valid r ≡ false → is_valid (ends_neg r) ≡ false
    none v = not-true (λ t. subst T (twice ∙ v) (true-T (neg-valid (ends_neg r) (T_true t))))

    go : (t : Bool) → is_valid r ≡ t → neg_of (kept r) ≡ kept (ends_neg r)
    go true v = rw (v, neg-valid r v) (neg_of-is r v)
    go false v = rw (v, none v) neg_of-over

pub inverse-negated : (a : Range) → neg_of (inv_above (ends_neg a)) ≡ inv_below a
unfolding ceil_div
inverse-negated a =
    neg-kept (ends_over (pos 100000000) (from_to (neg_ℤ a.low) (neg_ℤ a.high)))
    ∙ ap (λ z. kept (from_to z (ceil_div (negsuc 99999999) (nat_abs (neg_ℤ a.low))))) (neg_ℤ-neg_ℤ (floor_div (negsuc 99999999) (nat_abs (neg_ℤ a.high))))

-- ---- a quotient by an end of either sign is one by a magnitude
module _ (div : ℤ → ℕ → ℤ) (n : ℤ) where
  by-above : (d : ℤ) → pos 0 <ℤ d → div n (nat_abs d) ≡ by_sign div n d
  by-above (pos k) h = refl
  by-above (negsuc k) h = absurd h.lt

  by-below : (d : ℤ) → d <ℤ pos 0 → div (neg_ℤ n) (nat_abs (neg_ℤ d)) ≡ by_sign div n d
  by-below (pos k) h = let f : ⊥ = omega ints in absurd f
  by-below (negsuc k) h = refl

-- ---- where 0 is outside
pub one-sign : (a : Range) → T (not (holds_zero a)) → OneSign a.low a.high
one-sign a t = go (le_z a.low (pos 0)) (le_z (pos 0) a.high) le_z-no le_z-no t
  where
    go : (p q : Bool) → (T (not p) → pos 0 <ℤ a.low) → (T (not q) → a.high <ℤ pos 0) → T (not (p && q)) → OneSign a.low a.high
    go true q f g t = inr (g t)
    go false q f g t = inl (f tt)

-- ---- the three cases
module _ (a : Range) (v : is_valid a ≡ true) where
  -- where 0 is outside
  outside : holds_zero a ≡ false → kept (ends_inverse a) ≡ inverse_of a
  unfolding inverse_of
  outside e = rw (e, v)

  pub inverse-above : (z : Range) → lt_z (pos 0) a.low ≡ true → z ≡ inv_above a → z ≡ inverse_of a
  unfolding ends_inverse floor_quot ceil_quot
  inverse-above z p q =
      let l : pos 0 <ℤ a.low = lt_z_yes (true-T p) in
      let h : pos 0 <ℤ a.high = lt_z_yes (true-T (high-above a v p)) in
      q
      ∙ ap kept (ap₂ from_to (by-above floor_div (pos 100000000) a.high h) (by-above ceil_div (pos 100000000) a.low l))
      ∙ outside (none_below l)
    where
      none_below : pos 0 <ℤ a.low → holds_zero a ≡ false
      none_below l = and-false (le_z a.low (pos 0)) _ (inl (not-true (λ t. clash_ℤ l (le_z_yes t))))

  pub inverse-below : (z : Range) → lt_z a.high (pos 0) ≡ true → z ≡ inv_below a → z ≡ inverse_of a
  unfolding ends_inverse floor_quot ceil_quot
  inverse-below z p q =
      let e = ends-of a (true-T v) in
      let h : a.high <ℤ pos 0 = lt_z_yes (true-T p) in
      let l : a.low <ℤ pos 0 = omega ints in
      q
      ∙ ap kept (ap₂ from_to (by-below floor_div (pos 100000000) a.high h) (by-below ceil_div (pos 100000000) a.low l))
      ∙ outside (none_above h)
    where
      none_above : a.high <ℤ pos 0 → holds_zero a ≡ false
      none_above h = and-false (le_z a.low (pos 0)) _ (inr (not-true (λ t. clash_ℤ h (le_z_yes t))))

  pub inverse-none : (z : Range) → lt_z (pos 0) a.low ≡ false → lt_z a.high (pos 0) ≡ false → z ≡ over → z ≡ inverse_of a
  unfolding inverse_of
  inverse-none z p q e =
      let l : a.low ≤ℤ pos 0 = lt_z_no (false-T p) in
      let h : pos 0 ≤ℤ a.high = lt_z_no (false-T q) in
      let t = and_both (le_z a.low (pos 0)) (le_z (pos 0) a.high) l.le h.le in
      e ∙ sym (if-passed (holds_zero a) over (sticky₁ ends_inverse a) t)

-- what is not below 0 is the third case
pub ruleset by_sign_lem = (inverse-above, inverse-below, inverse-none)

-- of what is no valid range
pub inverse-invalid : (a z : Range) → is_valid a ≡ false → z ≡ over → z ≡ inverse_of a
unfolding inverse_of
inverse-invalid a z v e = e ∙ sym (rw v (by-test (λ r. r ≡ over) (holds_zero a) (λ t. refl) (λ t. refl)))
