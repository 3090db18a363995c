-- The width and the middle of a valid range, as an `i64` works them out: each step fits. Assumes nothing.
use mathlib.Core.Path.{◌≡◌, refl, sym, ap, ◌∙◌}
use mathlib.Core.Bool.{true}
use native.Mathlib.Omega.{arith}
use lib.Dec.{lit<}
use lib.IntN.{ℤ, pos, neg_ℤ, ◌+ℤ◌, ◌-ℤ◌}
use lib.Signed.{quot_z, ◌≤ℤ◌}
use mir.Syntax.{w64}
use mir.Val.{SFits, to_z, of_z}
use mir.ValLaws.{to_z-of_z}
use Rattle.algebra.proofs.Int.{ints, add-dif, add-abs, neg-abs, ≤ℤ-trans}
use Rattle.exact.proofs.Machine.{fits-abs, quot_fits, quot-lowered}
use Rattle.range.specs.declared.Range.{Range}
use Rattle.range.specs.Limit.{is_valid}
use Rattle.range.proofs.Fitting.{in-limit, low-within, high-within}
use Rattle.range.proofs.Valid.{ends-of, true-T}
use Rattle.bisection.specs.Cut.{cut_point}
use Rattle.bisection.proofs.Halving.{cut-above, cut_below}

module _ (r : Range) (v : is_valid r ≡ true) where
  -- ---- the width
  pub width_fits : SFits w64 (r.high -ℤ r.low)
  width_fits = fits-abs (r.high -ℤ r.low) (omega (arith, add-abs r.high (neg_ℤ r.low), neg-abs r.low, low-within r v, high-within r v))

  pub width_read : to_z w64 (of_z w64 (r.high -ℤ r.low)) ≡ r.high -ℤ r.low
  width_read = to_z-of_z w64 (r.high -ℤ r.low) width_fits

  -- ---- the middle: the sum of the ends, raised by 4,000,000,000, halved, and lowered by 2,000,000,000
  pub sum_fits : SFits w64 (r.low +ℤ r.high)
  sum_fits = fits-abs (r.low +ℤ r.high) (omega (arith, add-abs r.low r.high, low-within r v, high-within r v))

  pub sum-read : to_z w64 (of_z w64 (r.low +ℤ r.high)) ≡ r.low +ℤ r.high
  sum-read = to_z-of_z w64 (r.low +ℤ r.high) sum_fits

  abbrev raised : ℤ
  raised = r.low +ℤ r.high +ℤ pos 4000000000

  pub raised-fits : SFits w64 raised
  raised-fits =
      fits-abs raised
      (omega (arith, add-abs (r.low +ℤ r.high) (pos 4000000000), add-abs r.low r.high, low-within r v, high-within r v))

  pub raised-read : to_z w64 (of_z w64 raised) ≡ raised
  raised-read = to_z-of_z w64 raised raised-fits

  pub half-fits : SFits w64 (quot_z raised (pos 2))
  half-fits = quot_fits raised (pos 2) refl raised-fits

  pub half-read : to_z w64 (of_z w64 (quot_z raised (pos 2))) ≡ quot_z raised (pos 2)
  half-read = to_z-of_z w64 (quot_z raised (pos 2)) half-fits

  raised-above : pos 0 ≤ℤ raised
  raised-above =
      let e = ends-of r (true-T v) in
      omega (ints, add-dif (r.low +ℤ r.high) (pos 4000000000), add-dif r.low r.high, e.above, e.order)

  pub middle-is : quot_z raised (pos 2) -ℤ pos 2000000000 ≡ cut_point r
  unfolding cut_point
  middle-is = quot-lowered (lit< tt) (r.low +ℤ r.high) (pos 2000000000) raised-above

  pub middle-fits : SFits w64 (quot_z raised (pos 2) -ℤ pos 2000000000)
  middle-fits =
      let e = ends-of r (true-T v) in
      let a = cut-above r e.order in
      let b = cut_below r e.order in
      rw middle-is (fits-abs (cut_point r) (omega (arith, in-limit (cut_point r) (≤ℤ-trans e.above a) (≤ℤ-trans b e.below))))

  -- as a number that is passed on
  pub middle-read : {m : ℤ} → m ≡ cut_point r → to_z w64 (of_z w64 m) ≡ cut_point r
  middle-read e = ap (λ z. to_z w64 (of_z w64 z)) (e ∙ sym middle-is) ∙ to_z-of_z w64 _ middle-fits ∙ middle-is
