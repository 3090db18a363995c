-- A power of a range holds the powers of the numbers that the range holds: D and U bound the powers of a number that is not negative, and
-- the power of a negative one is that of its magnitude, negated for an odd exponent. Assumes nothing.
use mathlib.Core.Path.{◌≡◌, refl, sym, ◌∙◌, ap}
use mathlib.Core.Logic.{⊎_elim}
use mathlib.Core.Bool.{Bool, true, false, not, cond, ◌&&◌}
use Prim.Native.Nat.{ℕ, zero, suc, ◌+◌, ◌%◌}
use native.Mathlib.Omega.{arith}
use lib.Dec.{T, eqb, eqb→eq, eqb-suc-zero}
use lib.IntN.{ℤ, pos, neg_ℤ}
use lib.Signed.{le_z, ◌≤ℤ◌, le_z_yes, ≤ℤ_refl}
use Rattle.algebra.proofs.Ring as Ring
use Rattle.algebra.proofs.Ordered as Ord
use Rattle.algebra.proofs.Solver.{◌:*◌, :-◌, ◌:=◌, ring}
use Rattle.algebra.proofs.Int.{neg-nonneg, neg-nonpos, le_z-no, <ℤ→≤ℤ}
use Rattle.exact.proofs.Rat as Q
use Rattle.exact.proofs.Rat.{ℚ, ◌*ℚ◌, ◌^ℚ◌, neg_ℚ, ◌≤ℚ◌, 0ℚ}
use Rattle.exact.proofs.Units.{units}
use Rattle.exact.proofs.Rat.{ℚ-ring, ℚ-ordered}
use Rattle.range.specs.declared.Range.{Range}
use Rattle.range.specs.Limit.{is_valid}
use Rattle.range.specs.Arithmetic.{greater_of}
use Rattle.range.specs.Power.{chain, D, U, ups_within, is_even, pow_above, pow_below}
use Rattle.range.specs.Power.{pow_across_even, pow_across_odd, pow_across, pow_by_sign, pow_of}
use Rattle.range.specs.Inclusion.{◌∈◌}
use Rattle.range.proofs.Extremes.{greater-left, greater-right}
use Rattle.range.proofs.Powers.{chain-low, down-down, up_up}
use Rattle.exact.proofs.Units.{units-0, units-1, units_mono, units-nonneg, units-nonpos}
use Rattle.exact.proofs.Units.{neg-upper, neg-lower, floor-below, ceil-above, in-neg}
use Rattle.range.proofs.Holds.{InRange, ∈-of, ∈-eq, one-∈, if-∈, either-∈}

-- ---- numbers that are not negative
module _ {x : ℚ} (p : 0ℚ ≤ℚ x) where
  pow-nonneg : (e : ℕ) → 0ℚ ≤ℚ x ^ℚ e
  pow-nonneg e = Ord.pow-nonneg ℚ-ordered e p

  -- one more factor, from the other side
  pow-suc : (e : ℕ) → x ^ℚ suc e *ℚ x ≡ x ^ℚ suc (suc e)
  unfolding Ring.power
  pow-suc e = Q.*ℚ-comm (x ^ℚ suc e) x

  pub pow-lower : (l : ℤ) → pos 0 ≤ℤ l → units l ≤ℚ x → (e : ℕ) → units (D l e) ≤ℚ x ^ℚ e
  unfolding chain Ring.power
  pow-lower l n h zero = Q.≤ℚ-of-≡ units-1
  pow-lower l n h (suc zero) = rw (Q.*ℚ-one x) h
  pow-lower l n h (suc (suc e)) =
      let d = D l (suc e) in
      Ord.le-eq ℚ-ordered
      (Q.≤ℚ-trans
      (floor-below d l (≤ℤ_refl _))
      (Ord.mul_mono ℚ-ordered (units-nonneg (chain-low down-down n (≤ℤ_refl l) (suc e))) (pow-lower l n h (suc e)) (units-nonneg n) h))
      (pow-suc e)

  pub pow-upper : (h : ℤ) → x ≤ℚ units h → (e : ℕ) → x ^ℚ e ≤ℚ units (U h e)
  unfolding chain Ring.power
  pow-upper h k zero = Q.≤ℚ-of-≡ (sym units-1)
  pow-upper h k (suc zero) = rw (Q.*ℚ-one x) k
  pow-upper h k (suc (suc e)) =
      let u = U h (suc e) in
      Ord.eq-le ℚ-ordered
      (sym (pow-suc e))
      (Q.≤ℚ-trans (Ord.mul_mono ℚ-ordered (pow-nonneg (suc e)) (pow-upper h k (suc e)) p k) (ceil-above u h (≤ℤ_refl _)))

-- ---- the sign of a power
even-suc : (e : ℕ) → is_even (suc e) ≡ not (is_even e)
even-suc e = go (e % 2) (suc e % 2) (omega arith)
  where
    go : (r s : ℕ) → r + s ≡ 1 → eqb s 0 ≡ not (eqb r 0)
    go zero zero h = let f : ⊥ = omega arith in absurd f
    go zero (suc s) h = eqb-suc-zero s
    go (suc r) zero h = rw (eqb-suc-zero r)
    go (suc r) (suc s) h = let f : ⊥ = omega arith in absurd f

module _ (x : ℚ) where
  neg-pow : (e : ℕ) → neg_ℚ x ^ℚ e ≡ cond (is_even e) (x ^ℚ e) (neg_ℚ (x ^ℚ e))
  unfolding Ring.power
  neg-pow zero = refl
  neg-pow (suc e) =
      ap (λ t. neg_ℚ x *ℚ t) (neg-pow e)
      ∙ go (is_even e)
      ∙ ap (λ c. cond c (x *ℚ x ^ℚ e) (neg_ℚ (x *ℚ x ^ℚ e))) (sym (even-suc e))
    where
      go : (b : Bool) → neg_ℚ x *ℚ cond b (x ^ℚ e) (neg_ℚ (x ^ℚ e)) ≡ cond (not b) (x *ℚ x ^ℚ e) (neg_ℚ (x *ℚ x ^ℚ e))
      go true = ring ℚ-ring 2 (λ x p. :- x :* p := :- (x :* p)) tt x (x ^ℚ e)
      go false = ring ℚ-ring 2 (λ x p. :- x :* :- p := x :* p) tt x (x ^ℚ e)

  pub even-pow : (e : ℕ) → T (is_even e) → neg_ℚ x ^ℚ e ≡ x ^ℚ e
  even-pow e t = neg-pow e ∙ go (is_even e) t
    where
      go : (b : Bool) → T b → cond b (x ^ℚ e) (neg_ℚ (x ^ℚ e)) ≡ x ^ℚ e
      go true t = refl
      go false t = absurd t

  pub odd_pow : (e : ℕ) → T (not (is_even e)) → neg_ℚ (neg_ℚ x ^ℚ e) ≡ x ^ℚ e
  odd_pow e t = ap neg_ℚ (neg-pow e) ∙ go (is_even e) t
    where
      go : (b : Bool) → T (not b) → neg_ℚ (cond b (x ^ℚ e) (neg_ℚ (x ^ℚ e))) ≡ x ^ℚ e
      go true t = absurd t
      go false t = Q.neg_ℚ-neg_ℚ (x ^ℚ e)

-- ---- by the signs of the ends
module _ (a : Range) {x : ℚ} (e : ℕ) (i : InRange x a) where
  above-∈ : pos 0 ≤ℤ a.low → x ^ℚ e ∈ pow_above a e
  unfolding pow_above
  above-∈ n =
      let p = Q.≤ℚ-trans (units-nonneg n) i.low in
      if-∈ (ups_within a.high e) (λ t.
      ∈-of (record { low = pow-lower p a.low n i.low e; high = pow-upper p a.high i.high e }))

  below-∈ : a.high ≤ℤ pos 0 → x ^ℚ e ∈ pow_below a e
  unfolding pow_below
  below-∈ n =
      if-∈ (ups_within (neg_ℤ a.low) e) (λ t.
      either-∈ (is_even e)
      (λ u. ∈-eq (even-pow x e u) (∈-of magnitude))
      (λ u. ∈-eq (odd_pow x e u) (∈-of (in-neg magnitude))))
    where
      p : 0ℚ ≤ℚ neg_ℚ x
      p = Ord.neg-nonneg ℚ-ordered (Q.≤ℚ-trans i.high (units-nonpos n))

      magnitude : InRange (neg_ℚ x ^ℚ e) (record { low = D (neg_ℤ a.high) e; high = U (neg_ℤ a.low) e })
      magnitude = record {
        low = pow-lower p (neg_ℤ a.high) (neg-nonneg n) (neg-lower a.high i.high) e;
        high = pow-upper p (neg_ℤ a.low) (neg-upper a.low i.low) e;
      }

  -- either side of 0, up to a larger magnitude
  positive : (m : ℤ) → a.high ≤ℤ m → 0ℚ ≤ℚ x → x ^ℚ e ≤ℚ units (U m e)
  positive m o p = pow-upper p m (Q.≤ℚ-trans i.high (units_mono o)) e

  negative : (m : ℤ) → neg_ℤ a.low ≤ℤ m → x ≤ℚ 0ℚ → neg_ℚ x ^ℚ e ≤ℚ units (U m e)
  negative m o p = pow-upper (Ord.neg-nonneg ℚ-ordered p) m (Q.≤ℚ-trans (neg-upper a.low i.low) (units_mono o)) e

  negative-nonneg : x ≤ℚ 0ℚ → 0ℚ ≤ℚ neg_ℚ x ^ℚ e
  negative-nonneg p = pow-nonneg (Ord.neg-nonneg ℚ-ordered p) e

  across-even-∈ : T (is_even e) → x ^ℚ e ∈ pow_across_even a e
  unfolding pow_across_even
  across-even-∈ t =
      if-∈ (ups_within m e) (λ u.
      ∈-of
      (⊎_elim
      (λ p. record { low = rw units-0 (pow-nonneg p e); high = positive m (greater-right (neg_ℤ a.low) a.high) p })
      (λ p. rw (← (even-pow x e t)) (record {
        low = rw units-0 (negative-nonneg p);
        high = negative m (greater-left (neg_ℤ a.low) a.high) p;
      }))
      (Q.≤ℚ-total 0ℚ x)))
    where
      m : ℤ
      m = greater_of (neg_ℤ a.low) a.high

  U-nonneg : {m : ℤ} → pos 0 ≤ℤ m → pos 0 ≤ℤ U m e
  U-nonneg {m} n = chain-low up_up n (≤ℤ_refl m) e

  across-odd-∈ : a.low ≤ℤ pos 0 → pos 0 ≤ℤ a.high → T (not (is_even e)) → x ^ℚ e ∈ pow_across_odd a e
  unfolding pow_across_odd
  across-odd-∈ l h t =
      if-∈ (ups_within (neg_ℤ a.low) e && ups_within a.high e) (λ v.
      ∈-of
      (⊎_elim
      (λ p. record {
        low = Q.≤ℚ-trans (units-nonpos (neg-nonpos (U-nonneg (neg-nonneg l)))) (pow-nonneg p e);
        high = positive a.high (≤ℤ_refl _) p;
      })
      (λ p. rw (← (odd_pow x e t)) (record {
        low = neg-lower u (negative (neg_ℤ a.low) (≤ℤ_refl _) p);
        high = Q.≤ℚ-trans (Ord.neg-nonpos ℚ-ordered (negative-nonneg p)) (units-nonneg (U-nonneg h));
      }))
      (Q.≤ℚ-total 0ℚ x)))
    where
      u : ℤ
      u = U (neg_ℤ a.low) e

  by-sign-∈ : x ^ℚ e ∈ pow_by_sign a e
  unfolding pow_by_sign pow_across
  by-sign-∈ =
      either-∈ (le_z (pos 0) a.low)
      (λ t. above-∈ (le_z_yes t))
      (λ t.
      either-∈ (le_z a.high (pos 0))
      (λ u. below-∈ (le_z_yes u))
      (λ u. either-∈ (is_even e) across-even-∈ (across-odd-∈ (<ℤ→≤ℤ (le_z-no t)) (<ℤ→≤ℤ (le_z-no u)))))

pub power-∈ : {a : Range} {x : ℚ} (e : ℕ) → x ∈ a → x ^ℚ e ∈ pow_of a e
unfolding pow_of Ring.power
power-∈ {a} e h = if-∈ (is_valid a) (λ t. either-∈ (eqb e 0) (λ z. rw (eqb→eq e 0 z) one-∈) (λ n. by-sign-∈ a e (h.between t)))
