-- Ranges as the code holds them: the range of a factor, the search for the widest, and one end set anew. Assumes nothing.
use mathlib.Core.Path.{◌≡◌, refl, sym, ap, ap₂, ◌∙◌}
use mathlib.Core.Bool.{true, false, cond}
use mathlib.Core.List.{List, [], ◌∷◌}
use Prim.Native.Nat.{ℕ, suc, ◌+◌, ◌*◌, ◌≤◌, ◌<◌}
use native.Mathlib.Omega.{arith}
use lib.IntN.{ℤ, pos}
use lib.ListN.{length, take, drop, set, get_or, length-take, drop_of_length-le}
use lib.Seq.{drop-cons, get_or-take, take-suc, take-suc-set}
use lib.Signed.{lt_z}
use mir.Syntax.{w64}
use mir.Val.{to_z, of_z}
use Rattle.codelist.specs.declared.Codelist.{Codelist}
use Rattle.range.specs.declared.Range.{Range}
use Rattle.range.specs.Limit.{from_to, zero_range, is_valid}
use Rattle.range.specs.Sums.{at, pair_at}
use Rattle.range.proofs.Valid.{T_true}
use Rattle.rules.specs.Rate.{first_bad, rate_ranges, rate_of}
use Rattle.bounds.proofs.Ranges.{pairs-at, pairs-count, bad-here, bad-next}
use Rattle.bisection.specs.Cut.{width_of, widest_from, widest}
use Rattle.bisection.specs.Box.{box_of, Sized, Boxed, BoxOf}
use Rattle.bisection.proofs.Cutting.{width_read}
use Rattle.bisection.proofs.Plain.{Ready, rated-plainly}

-- ---- the search for the widest
module _ (rs : List Range) where
  pub widest-start : 0 < length rs → widest_from 1 0 (width_of (at rs 0)) (drop 1 rs) ≡ widest rs
  unfolding widest
  widest-start = go rs
    where
      go : (rs : List Range) → 0 < length rs → widest_from 1 0 (width_of (at rs 0)) (drop 1 rs) ≡ widest rs
      go [] h = absurd (omega arith)
      go (r ∷ rs) h = refl

  module _ (a b : ℕ) (w : ℤ) where
    pub widest-end : length rs ≤ a → widest_from a b w (drop a rs) ≡ b
    unfolding widest_from
    widest-end h = rw (drop_of_length-le rs h)

    module _ (h : a < length rs) where
      widest-step : widest_from a b w (drop a rs)
          ≡ cond (lt_z w (width_of (at rs a))) (widest_from (a + 1) a (width_of (at rs a)) (drop (a + 1) rs)) (widest_from (a + 1) b w (drop (a + 1) rs))
      unfolding widest_from
      widest-step = let e : a + 1 ≡ suc a = omega arith in rw (drop-cons rs a zero_range h, e)

      pub widest-wider : lt_z w (width_of (at rs a)) ≡ true → widest_from (a + 1) a (width_of (at rs a)) (drop (a + 1) rs) ≡ widest_from a b w (drop a rs)
      widest-wider e = sym (widest-step ∙ rw e)

      pub widest-kept : lt_z w (width_of (at rs a)) ≡ false → widest_from (a + 1) b w (drop (a + 1) rs) ≡ widest_from a b w (drop a rs)
      widest-kept e = sym (widest-step ∙ rw e)

-- ---- the ranges of a box
module _ {n : ℕ} {ends : List ℤ} (s : Sized n ends) where
  taken : length (take (2 * n) ends) ≡ 2 * n
  taken = simp length-take (omega (arith, s.array, s.few))

  pub box-length : length (box_of n ends) ≡ n
  box-length = pairs-count (take (2 * n) ends) n taken

  pub box-at : (a : ℕ) → a < n → pair_at ends (2 * a) ≡ at (box_of n ends) a
  box-at a l =
      ap₂ from_to (sym (get_or-take (2 * n) ends (2 * a) (pos 0) (omega arith))) (sym (get_or-take (2 * n) ends (2 * a + 1) (pos 0) (omega arith)))
      ∙ pairs-at (take (2 * n) ends) a (pos 0) (omega (arith, box-length))

module _ {n : ℕ} {ends : List ℤ} (b : Boxed n ends) {r : Range} {a : ℕ} (l : a < n) (e : r ≡ pair_at ends (2 * a)) where
  box-range : r ≡ at (box_of n ends) a
  box-range = e ∙ box-at b.size a l

  pub box-valid : is_valid r ≡ true
  box-valid = T_true (rw box-range (b.valid a))

  -- a width as a number that is passed on
  pub box-width : {w : ℤ} → w ≡ width_of r → to_z w64 (of_z w64 w) ≡ width_of (at (box_of n ends) a)
  box-width {w} f = ap (λ z. to_z w64 (of_z w64 z)) f ∙ width_read r box-valid ∙ ap width_of box-range

-- ---- those of a codelist
module _ {c : Codelist} {n : ℕ} {ends : List ℤ} (b : BoxOf c n ends) where
  -- they are ready to be rated
  pub box-ready : Ready c (box_of n ends)
  box-ready = record { codelist = b.codelist; count = box-length b.boxed.size ∙ b.count; valid = b.boxed.valid }

  pub box-plain : rate_of c (take (2 * n) ends) ≡ rate_ranges c (box_of n ends) 0
  box-plain = rated-plainly (take (2 * n) ends) b.codelist (taken b.boxed.size ∙ ap (λ k. 2 * k) b.count) b.boxed.valid

-- ---- the search for the lowest bad range: it ends at one that is bad, and goes on behind one that is good
module _ {n : ℕ} {ends : List ℤ} (s : Sized n ends) {a : ℕ} (l : a < n) {r : Range} (e : r ≡ pair_at ends (2 * a)) where
  pub bad-one : is_valid r ≡ false → first_bad (a + 1) (drop a (box_of n ends)) ≡ a + 1
  bad-one f = bad-here (box_of n ends) a (omega (arith, box-length s)) (sym (ap is_valid (e ∙ box-at s a l)) ∙ f)

  pub good-one : is_valid r ≡ true → first_bad (a + 1) (drop a (box_of n ends)) ≡ first_bad (a + 1 + 1) (drop (a + 1) (box_of n ends))
  good-one f = bad-next (box_of n ends) a (omega (arith, box-length s)) (sym (ap is_valid (e ∙ box-at s a l)) ∙ f)

-- ---- numbers copied one by one: one more
pub taken_more : (out xs : List ℤ) (i : ℕ) {v : ℤ} → i < length out → i < length xs → take i out ≡ take i xs → v ≡ get_or xs i (pos 0)
    → take (i + 1) (set out i v) ≡ take (i + 1) xs
taken_more out xs i {v} l k e f =
    let n : i + 1 ≡ suc i = omega arith in
    rw n (take-suc-set out i v l ∙ rw (e, f) (sym (take-suc xs i (pos 0) k)))
