-- A range cut at its middle, and ranges with one of them cut. Assumes nothing.
use mathlib.Core.Path.{◌≡◌, refl}
use mathlib.Core.Bool.{Bool, true, false}
use mathlib.Core.List.{List}
use mathlib.Core.Logic.{◌⊎◌, inl, inr}
use Prim.Native.Nat.{ℕ, ◌<◌}
use lib.Dec.{T, eqb, lit<}
use lib.IntN.{◌+ℤ◌}
use lib.ListN.{length, set}
use lib.Seq.{get_or-set_same, get_or-set_other}
use lib.Signed.{◌≤ℤ◌, ≤ℤ_refl}
use borrow.Author.Tests.{eqb-true, eqb-false}
use Rattle.algebra.proofs.Int.{ints, add-dif, mul-pos-dif, ≤ℤ-trans}
use Rattle.exact.specs.Div.{floor_div}
use Rattle.exact.proofs.Div.{floor-iff, floor-le}
use Rattle.exact.specs.Units.{In, units}
use Rattle.exact.proofs.Rat as Q
use Rattle.exact.proofs.Rat.{ℚ, ◌≤ℚ◌}
use Rattle.range.specs.declared.Range.{Range}
use Rattle.range.specs.Limit.{from_to, zero_range, is_valid}
use Rattle.range.specs.Laws as Range
use Rattle.range.specs.Sums.{at}
use Rattle.range.proofs.Valid.{ends-of, valid-of}
use Rattle.bisection.specs.Cut.{cut_point}

-- ---- a range
abbrev pub lower_half : Range → Range
lower_half r = from_to r.low (cut_point r)

abbrev pub upper_half : Range → Range
upper_half r = from_to (cut_point r) r.high

module _ (r : Range) where
  pub cut-above : r.low ≤ℤ r.high → r.low ≤ℤ cut_point r
  unfolding cut_point
  cut-above h = (floor-iff r.low (r.low +ℤ r.high) {d = 2} (lit< tt)).1 (omega (ints, add-dif r.low r.high, mul-pos-dif r.low 2))

  pub cut_below : r.low ≤ℤ r.high → cut_point r ≤ℤ r.high
  unfolding cut_point
  cut_below h =
      let q = floor_div (r.low +ℤ r.high) 2 in
      omega (ints, floor-le (r.low +ℤ r.high) {d = 2} (lit< tt), add-dif r.low r.high, mul-pos-dif q 2)

  module _ (v : T (is_valid r)) where
    pub lower-inside : Range.ValidInside (lower_half r) r
    lower-inside =
        let e = ends-of r v in
        let a = cut-above e.order in
        let b = cut_below e.order in
        record {
          valid = valid-of (lower_half r) (record { above = e.above; order = a; below = ≤ℤ-trans b e.below });
          low = ≤ℤ_refl r.low;
          high = b;
        }

    pub upper-inside : Range.ValidInside (upper_half r) r
    upper-inside =
        let e = ends-of r v in
        let a = cut-above e.order in
        let b = cut_below e.order in
        record {
          valid = valid-of (upper_half r) (record { above = ≤ℤ-trans e.above a; order = b; below = e.below });
          low = a;
          high = ≤ℤ_refl r.high;
        }

  -- "both parts keeping the cut point": a number of the range is in one of them
  pub in-half : {x : ℚ} → In r.low r.high x → In r.low (cut_point r) x ⊎ In (cut_point r) r.high x
  in-half {x} i = go (Q.≤ℚ-total x (units (cut_point r)))
    where
      go : (x ≤ℚ units (cut_point r)) ⊎ (units (cut_point r) ≤ℚ x) → In r.low (cut_point r) x ⊎ In (cut_point r) r.high x
      go (inl h) = inl (record { low = i.low; high = h })
      go (inr h) = inr (record { low = h; high = i.high })

-- ---- ranges, of which that of factor k is another
pub at_set : (P : ℕ → Range → Type 0) (rs : List Range) {k : ℕ} {r : Range} → k < length rs → P k r
    → (a : ℕ) → P a (at rs a) → P a (at (set rs k r) a)
at_set P rs {k} {r} l h a g = go (eqb a k) refl
  where
    go : (b : Bool) → eqb a k ≡ b → P a (at (set rs k r) a)
    go true e = let f : a ≡ k = eqb-true a k e in rw (f, get_or-set_same rs k r zero_range l) h
    go false e = rw (get_or-set_other rs k a r zero_range (eqb-false a k e)) g
