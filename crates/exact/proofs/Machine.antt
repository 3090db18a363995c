-- Machine integers: tests as code makes them, when an integer fits an i64, and what an unsigned division gives of a dividend that was raised by a
-- multiple of the divisor until it was not below 0.
use mathlib.Core.Path.{◌≡◌, refl, ap, ◌∙◌}
use mathlib.Core.Bool.{Bool, true, false}
use Prim.Native.Nat.{ℕ, zero, suc, ◌/◌, ◌≤◌, ◌<◌, zero-le}
use native.Mathlib.Omega.{arith}
use native.Mathlib.Nat.{div-le_self}
use lib.Dec.{T}
use lib.IntN.{ℤ, pos, negsuc, neg_ℤ, nat_abs, ◌+ℤ◌, ◌-ℤ◌, ◌*ℤ◌, -ℤ_one}
use lib.Signed.{le_z, lt_z, lt_z_no, mag, quot_z, ◌≤ℤ◌, ◌<ℤ◌}
use mir.Syntax.{w64}
use mir.Val.{SFits}
use mir.ValLaws.{sfits_le}
use Rattle.algebra.proofs.Int.{ints, ℤ-ring, add-dif, sub-dif, le_z-no, <-pos, ≤ℤ-trans, ≤ℤ-of-≡}
use Rattle.algebra.proofs.Solver.{◌:+◌, ◌:=◌, ring}
use Rattle.exact.proofs.Div.{floor_div, ceil_div}
use Rattle.exact.proofs.DivSum.{floor-back, ceil-raised}

-- ---- tests, as code makes them
true-T : (t : Bool) → T t → t ≡ true
true-T true h = refl
true-T false h = absurd h

module _ (a b : ℤ) where
  pub le_z-true : le_z a b ≡ true → a ≤ℤ b
  le_z-true e = record { le = rw e tt }

  pub le_z-false : le_z a b ≡ false → b <ℤ a
  le_z-false e = le_z-no (rw e tt)

  pub lt_z-true : lt_z a b ≡ true → a <ℤ b
  lt_z-true e = record { lt = rw e tt }

  pub lt_z-false : lt_z a b ≡ false → b ≤ℤ a
  lt_z-false e = lt_z_no (rw e tt)

  pub ≤ℤ-le_z : a ≤ℤ b → le_z a b ≡ true
  ≤ℤ-le_z h = true-T (le_z a b) h.le

-- ---- what fits
-- a number below 2 ^ 63 in magnitude
pub fits-abs : (z : ℤ) → nat_abs z ≤ 9223372036854775807 → SFits w64 z
fits-abs (pos n) h = omega arith
fits-abs (negsuc n) h = omega arith

-- a quotient
no-divisor : false ≡ true → ⊥
no-divisor e = let z : ◌≡◌ {A = ℕ} 0 1 = cc in omega arith

neg-mag : (m a : ℕ) → m ≤ suc a → mag (neg_ℤ (pos m)) ≤ a
neg-mag zero a h = zero-le
neg-mag (suc m) a h = omega arith

pub quot_fits : (x d : ℤ) → lt_z (pos 0) d ≡ true → SFits w64 x → SFits w64 (quot_z x d)
quot_fits (pos a) (pos b) p f = sfits_le (div-le_self a b) f
quot_fits (negsuc a) (pos b) p f = sfits_le (neg-mag (suc a / b) a (div-le_self (suc a) b)) f
quot_fits x (negsuc b) p f = absurd (no-divisor p)

-- ---- a division by a shift: the dividend x is raised by k times the divisor, so that it is not below 0, divided, and the quotient lowered by k
-- as signed numbers
pub quot-lowered : {b : ℕ} → 0 < b → (x k : ℤ) → pos 0 ≤ℤ (x +ℤ k *ℤ pos b) → quot_z (x +ℤ k *ℤ pos b) (pos b) -ℤ k ≡ floor_div x b
unfolding floor_div
quot-lowered {b} p x k h = ap (◌-ℤ k) (signed (x +ℤ k *ℤ pos b) h) ∙ floor-back p x k
  where
    signed : (u : ℤ) → pos 0 ≤ℤ u → quot_z u (pos b) ≡ floor_div u b
    signed (pos n) h = refl
    signed (negsuc n) h = absurd h.le

-- as unsigned ones
floor-up : (d : ℤ) → pos 0 <ℤ d → (x : ℤ) → floor_div (x +ℤ (d -ℤ pos 1)) (nat_abs d) ≡ ceil_div x (nat_abs d)
floor-up (pos zero) p x = absurd p.lt
floor-up (pos (suc m)) p x = rw (-ℤ_one (pos (suc m)), ceil-raised (<-pos p) x m refl)
floor-up (negsuc b) p x = absurd p.lt

pub floor-lowered : (d : ℤ) → pos 0 <ℤ d → (x k : ℤ) → pos 0 ≤ℤ (x +ℤ k *ℤ d) → pos (nat_abs (x +ℤ k *ℤ d) / nat_abs d) -ℤ k ≡ floor_div x (nat_abs d)
unfolding floor_div
floor-lowered (pos b) p x k h = ap (◌-ℤ k) (unsigned (x +ℤ k *ℤ pos b) h) ∙ floor-back (<-pos p) x k
  where
    unsigned : (u : ℤ) → pos 0 ≤ℤ u → pos (nat_abs u / b) ≡ floor_div u b
    unsigned (pos n) h = refl
    unsigned (negsuc n) h = absurd h.le
floor-lowered (negsuc b) p x k h = absurd p.lt

-- rounded up: d − 1 more
pub ceil-lowered : (d : ℤ) → pos 0 <ℤ d → (x k : ℤ) → pos 0 ≤ℤ (x +ℤ k *ℤ d)
    → pos (nat_abs (x +ℤ k *ℤ d +ℤ (d -ℤ pos 1)) / nat_abs d) -ℤ k ≡ ceil_div x (nat_abs d)
ceil-lowered d p x k h =
    let e = d -ℤ pos 1 in
    let turned : x +ℤ k *ℤ d +ℤ e ≡ x +ℤ e +ℤ k *ℤ d = ring ℤ-ring 3 (λ x s e. x :+ s :+ e := x :+ e :+ s) tt x (k *ℤ d) e in
    let above : pos 0 ≤ℤ (x +ℤ k *ℤ d +ℤ e) = omega (ints, add-dif (x +ℤ k *ℤ d) e, sub-dif d (pos 1)) in
    ap (λ z. pos (nat_abs z / nat_abs d) -ℤ k) turned ∙ floor-lowered d p (x +ℤ e) k (≤ℤ-trans above (≤ℤ-of-≡ turned)) ∙ floor-up d p x
