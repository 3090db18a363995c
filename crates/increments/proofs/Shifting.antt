-- Division by 10,000, rounded down, as an `i64` works it out of a dividend that is raised until it is not below 0: each step fits. Assumes nothing.
use mathlib.Core.Path.{◌≡◌, refl}
use Prim.Native.Nat.{◌≤◌}
use native.Mathlib.Nat as N
use native.Mathlib.Omega.{arith}
use lib.Dec.{lit<}
use lib.IntN.{ℤ, pos, negsuc, nat_abs, ◌+ℤ◌, ◌-ℤ◌}
use lib.Signed.{quot_z, ◌≤ℤ◌}
use mir.Syntax.{w64}
use mir.Val.{SFits, to_z, of_z}
use mir.ValLaws.{to_z-of_z}
use Rattle.algebra.proofs.Int.{ints, add-dif, add-abs}
use Rattle.exact.specs.Div.{floor_div}
use Rattle.exact.proofs.Machine.{fits-abs, quot_fits, quot-lowered}

-- a quotient is no larger than what is divided
pub floor-abs : (x : ℤ) → nat_abs (floor_div x 10000) ≤ nat_abs x
unfolding floor_div
floor-abs (pos n) = N.div-le_self n 10000
floor-abs (negsuc n) = omega (arith, N.div-le_self n 10000)

-- ---- raised by 10^15, divided, and lowered by 10^11
module _ (x : ℤ) (h : nat_abs x ≤ 1000000000000000) where
  abbrev raised : ℤ
  raised = x +ℤ pos 1000000000000000

  pub dividend-read : to_z w64 (of_z w64 x) ≡ x
  dividend-read = to_z-of_z w64 x (fits-abs x (omega arith))

  pub raised-fits : SFits w64 raised
  raised-fits = fits-abs raised (omega (arith, add-abs x (pos 1000000000000000)))

  pub raised-read : to_z w64 (of_z w64 raised) ≡ raised
  raised-read = to_z-of_z w64 raised raised-fits

  pub divided-fits : SFits w64 (quot_z raised (pos 10000))
  divided-fits = quot_fits raised (pos 10000) refl raised-fits

  pub divided-read : to_z w64 (of_z w64 (quot_z raised (pos 10000))) ≡ quot_z raised (pos 10000)
  divided-read = to_z-of_z w64 (quot_z raised (pos 10000)) divided-fits

  raised-above : pos 0 ≤ℤ raised
  raised-above = go x h
    where
      go : (x : ℤ) → nat_abs x ≤ 1000000000000000 → pos 0 ≤ℤ (x +ℤ pos 1000000000000000)
      go (pos n) h = omega (ints, add-dif (pos n) (pos 1000000000000000))
      go (negsuc n) h = omega (ints, add-dif (negsuc n) (pos 1000000000000000))

  pub floor-is : quot_z raised (pos 10000) -ℤ pos 100000000000 ≡ floor_div x 10000
  floor-is = quot-lowered (lit< tt) x (pos 100000000000) raised-above

  pub floor-fits : SFits w64 (floor_div x 10000)
  floor-fits = fits-abs (floor_div x 10000) (omega (arith, floor-abs x))
