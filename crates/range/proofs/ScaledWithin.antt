-- Ends that are within 10,000 times the limit are those whose quotients by 10,000, rounded outward, are within the limit: `scaled-within`. So the limit
-- can be tested before the division. Assumes nothing.
use mathlib.Core.Path.{◌≡◌, refl, sym, ap, ap₂, ◌∙◌}
use mathlib.Core.Bool.{Bool, true, false, ◌&&◌, cond}
use mathlib.Core.Logic.{◌↔◌}
use lib.Dec.{T, lit≤}
use lib.IntN.{ℤ, pos, ◌*ℤ◌}
use lib.Signed.{le_z, ◌≤ℤ◌, le_z_yes}
use Rattle.algebra.proofs.Int.{≤ℤ-trans, within-abs}
use Rattle.exact.proofs.Div.{floor-iff, ceil-iff}
use Rattle.exact.proofs.Machine.{le_z-true}
use Rattle.range.specs.declared.Range.{Range}
use Rattle.range.specs.Limit.{least, most, over, is_valid, kept}
use Rattle.range.specs.Arithmetic.{scaled_of}
use Rattle.range.specs.Steps.{Shiftable, scaled_within}
use Rattle.range.proofs.Valid.{T_true, true-T}
use Rattle.range.proofs.Fitting.{held, and_first, and_second}
use Rattle.range.proofs.Shifting.{shiftable}
use Rattle.range.proofs.Powers.{ten-thousand}
use Rattle.range.proofs.Ordered.{scaled-ordered}

-- tests of two orders that come to the same
same_tests : {a b c d : ℤ} → (a ≤ℤ b) ↔ (c ≤ℤ d) → le_z a b ≡ le_z c d
same_tests {a} {b} {c} {d} e = go (le_z a b) (le_z c d) (λ t. (e.0 (le_z_yes t)).le) (λ t. (e.1 (le_z_yes t)).le)
  where
    go : (s t : Bool) → (T s → T t) → (T t → T s) → s ≡ t
    go true true f g = refl
    go false false f g = refl
    go true false f g = absurd (f tt)
    go false true f g = absurd (g tt)

pub scaled-within : (r : Range) → le_z r.low r.high ≡ true → scaled_within r ≡ kept (scaled_of r)
unfolding scaled_within kept is_valid
scaled-within r o =
    let low : le_z (least *ℤ pos 10000) r.low ≡ le_z least (scaled_of r).low = sym (same_tests (floor-iff least r.low ten-thousand)) in
    let order : le_z r.low r.high ≡ le_z (scaled_of r).low (scaled_of r).high = o ∙ sym (T_true (scaled-ordered r (le_z_yes (true-T o))).le) in
    let high : le_z r.high (most *ℤ pos 10000) ≡ le_z (scaled_of r).high most = sym (same_tests (ceil-iff most r.high ten-thousand)) in
    ap (λ (t : Bool). cond t (scaled_of r) over) (ap₂ ◌&&◌ low (ap₂ ◌&&◌ order high))

-- the ends that are divided are within 10,000 times the limit, which is as much as they are raised by. s is the flag that their test left
module _ (r : Range) {s : Bool} (t : s ≡ true)
    (e : s ≡ (le_z (least *ℤ pos 10000) r.low && (le_z r.low r.high && le_z r.high (most *ℤ pos 10000)))) where
  abbrev low : Bool
  low = le_z (least *ℤ pos 10000) r.low

  abbrev order : Bool
  order = le_z r.low r.high

  abbrev high : Bool
  high = le_z r.high (most *ℤ pos 10000)

  above : (least *ℤ pos 10000) ≤ℤ r.low
  above = le_z-true _ _ (and_first low (order && high) (sym e ∙ t))

  in_order : r.low ≤ℤ r.high
  in_order = le_z-true _ _ (and_first order high (and_second low (order && high) (sym e ∙ t)))

  below : r.high ≤ℤ (most *ℤ pos 10000)
  below = le_z-true _ _ (and_second order high (and_second low (order && high) (sym e ∙ t)))

  pub low-shiftable : Shiftable (held r.low) (pos 10000) (pos 2000000000)
  low-shiftable =
      shiftable r.low 10000 2000000000 ten-thousand (within-abs 20000000000000 r.low above (≤ℤ-trans in_order below)) (lit≤ tt)

  pub high-shiftable : Shiftable (held r.high) (pos 10000) (pos 2000000000)
  high-shiftable =
      shiftable r.high 10000 2000000000 ten-thousand (within-abs 20000000000000 r.high (≤ℤ-trans above in_order) below) (lit≤ tt)
