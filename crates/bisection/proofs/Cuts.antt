-- The two parts of ranges as the code holds them: one end is set anew. Assumes nothing.
use mathlib.Core.Path.{◌≡◌, refl, ap, ◌∙◌}
use mathlib.Core.Bool.{true, false}
use mathlib.Core.List.{List, [], ◌∷◌}
use Prim.Native.Nat.{ℕ, zero, suc, ◌+◌, ◌*◌, ◌<◌}
use native.Mathlib.Omega.{arith}
use lib.IntN.{ℤ, pos}
use lib.ListN.{length, take, set, length-set}
use lib.Seq.{take-set-lt}
use lib.Signed.{lt_z}
use mir.Syntax.{w64}
use mir.Val.{to_z, of_z}
use Rattle.codelist.specs.declared.Codelist.{Codelist}
use Rattle.range.specs.declared.Range.{Range}
use Rattle.range.specs.Limit.{from_to, is_valid}
use Rattle.range.specs.Sums.{at, pair_at}
use Rattle.rules.specs.Rate.{pairs}
use Rattle.bisection.specs.Cut.{width_of, widest, widest_range, narrow, cut_point, lower_part, upper_part}
use Rattle.bisection.specs.Box.{box_of, BoxOf}
use Rattle.bisection.proofs.Widths.{widest-is}
use Rattle.bisection.proofs.Covers.{Valid, part-valid, lower-part, upper-part}
use Rattle.bisection.proofs.Cutting.{middle-read}
use Rattle.bisection.proofs.Boxes.{box-length, box-at, box-valid, box-width}

-- ---- one of two numbers a range
pairs-set-low : (xs : List ℤ) (k : ℕ) (v : ℤ) → k < length (pairs xs) → pairs (set xs (2 * k) v) ≡ set (pairs xs) k (from_to v (at (pairs xs) k).high)
pairs-set-low [] k v h = absurd (omega arith)
pairs-set-low (x ∷ []) k v h = absurd (omega arith)
pairs-set-low (x ∷ y ∷ xs) zero v h = refl
pairs-set-low (x ∷ y ∷ xs) (suc k) v h =
    let e : 2 * suc k ≡ suc (suc (2 * k)) = omega arith in
    rw e (ap (λ t. from_to x y ∷ t) (pairs-set-low xs k v (omega arith)))

pairs-set-high : (xs : List ℤ) (k : ℕ) (v : ℤ) → k < length (pairs xs)
    → pairs (set xs (2 * k + 1) v) ≡ set (pairs xs) k (from_to (at (pairs xs) k).low v)
pairs-set-high [] k v h = absurd (omega arith)
pairs-set-high (x ∷ []) k v h = absurd (omega arith)
pairs-set-high (x ∷ y ∷ xs) zero v h = refl
pairs-set-high (x ∷ y ∷ xs) (suc k) v h =
    let e : 2 * suc k + 1 ≡ suc (suc (2 * k + 1)) = omega arith in
    rw e (ap (λ t. from_to x y ∷ t) (pairs-set-high xs k v (omega arith)))

-- ---- the widest factor's range, and what is made of it
module _ {c : Codelist} {n : ℕ} {ends : List ℤ} (b : BoxOf c n ends) {k : ℕ} (w : k ≡ widest (box_of n ends)) where
  pub cut-factor : k < n
  cut-factor =
      let l = box-length b.boxed.size in
      let f = (widest-is (box_of n ends) (omega (arith, b.boxed.some))).factor in
      omega (arith, f, w, l)

  module _ {r : Range} (e : r ≡ pair_at ends (2 * k)) where
    pub cut-valid : is_valid r ≡ true
    cut-valid = box-valid b.boxed cut-factor e

    cut_range : r ≡ widest_range (box_of n ends)
    cut_range = e ∙ box-at b.boxed.size k cut-factor ∙ ap (at (box_of n ends)) w

    pub cut-narrow : {z : ℤ} → z ≡ width_of r → lt_z (to_z w64 (of_z w64 z)) (pos 2) ≡ narrow (box_of n ends)
    unfolding narrow
    cut-narrow f = ap (λ y. lt_z y (pos 2)) (box-width b.boxed cut-factor e f ∙ ap (λ a. width_of (at (box_of n ends) a)) w)

    module _ {m : ℤ} (f : m ≡ cut_point r) where
      passed : to_z w64 (of_z w64 m) ≡ cut_point (widest_range (box_of n ends))
      passed = middle-read r cut-valid f ∙ ap cut_point cut_range

      pub lower-box : box_of n (set ends (2 * k + 1) (to_z w64 (of_z w64 m))) ≡ lower_part (box_of n ends)
      unfolding lower_part
      lower-box =
          let l = cut-factor in
          let v = to_z w64 (of_z w64 m) in
          ap pairs (take-set-lt (2 * n) ends (2 * k + 1) v (omega arith))
          ∙ pairs-set-high (take (2 * n) ends) k v (omega (arith, box-length b.boxed.size))
          ∙ rw (w, passed)

      pub upper-box : box_of n (set ends (2 * k) (to_z w64 (of_z w64 m))) ≡ upper_part (box_of n ends)
      unfolding upper_part
      upper-box =
          let l = cut-factor in
          let v = to_z w64 (of_z w64 m) in
          ap pairs (take-set-lt (2 * n) ends (2 * k) v (omega arith))
          ∙ pairs-set-low (take (2 * n) ends) k v (omega (arith, box-length b.boxed.size))
          ∙ rw (w, passed)

      module _ (wide : narrow (box_of n ends) ≡ false) where
        with-ranges : (i : ℕ) → Valid (box_of n (set ends i (to_z w64 (of_z w64 m)))) → BoxOf c n (set ends i (to_z w64 (of_z w64 m)))
        with-ranges i v = record {
          codelist = b.codelist;
          count = b.count;
          boxed = record {
            size = record { array = length-set ends i _ ∙ b.boxed.size.array; few = b.boxed.size.few };
            some = b.boxed.some;
            valid = v;
          };
        }

        pub lower-boxed : BoxOf c n (set ends (2 * k + 1) (to_z w64 (of_z w64 m)))
        lower-boxed = with-ranges (2 * k + 1) (rw lower-box (part-valid (lower-part (box_of n ends) wide b.boxed.valid)))

        pub upper-boxed : BoxOf c n (set ends (2 * k) (to_z w64 (of_z w64 m)))
        upper-boxed = with-ranges (2 * k) (rw upper-box (part-valid (upper-part (box_of n ends) wide b.boxed.valid)))
