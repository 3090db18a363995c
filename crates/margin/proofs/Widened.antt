-- A range widened at its high end: what it is among the ranges, and that accepted ranges can be widened. Assumes nothing.
use mathlib.Core.List.{List, [], ◌∷◌, ◌++◌}
use mathlib.Core.Path.{◌≡◌, refl, sym, ap, ap₂, ◌∙◌}
use Prim.Native.Nat.{ℕ, zero, suc, ◌+◌, ◌*◌, ◌-◌, ◌≤◌, ◌<◌}
use native.Mathlib.Decide.{ℕ_discrete}
use native.Mathlib.Omega.{arith}
use lib.IntN.{ℤ, pos, ◌+ℤ◌, +ℤ_idr}
use lib.ListN.{length, take, get_or, set, length-set, get_or-append}
use lib.Seq.{get_or-set_same, get_or-set_other, set-get_or, take-suc, take-suc-set, take-set-lt, take-append_seam}
use lib.Signed.{◌≤ℤ◌, ≤ℤ_refl}
use mir.Syntax.{w64}
use mir.Val.{SFits, to_z, of_z}
use mir.ValLaws.{to_z-of_z}
use Rattle.algebra.proofs.Int.{ints, add-dif, add-abs, ≤ℤ-trans}
use Rattle.codelist.specs.declared.Codelist.{Codelist}
use Rattle.exact.proofs.Machine.{fits-abs}
use Rattle.range.specs.declared.Range.{Range}
use Rattle.range.specs.Limit.{from_to, zero_range}
use Rattle.range.specs.Sums.{at}
use Rattle.range.proofs.Fitting.{in-limit}
use Rattle.range.proofs.Valid.{true-T, Ends, ends-of}
use Rattle.rules.specs.Rate.{pairs}
use Rattle.rules.specs.Isotone.{InsideRanges}
use Rattle.rules.specs.Refused.{range_of}
use Rattle.rules.proofs.Accepted.{accepted}
use Rattle.rules.proofs.FirstBad.{all-good}
use Rattle.rules.proofs.Passing.{good-iff}
use Rattle.bounds.proofs.Ranges.{pairs-at}
use Rattle.margin.specs.Edge.{high_at, wider}
use Rattle.margin.specs.Promises.{Factor}
use Rattle.margin.specs.Search.{Rateable, Widenable}

-- ---- among the ranges
pub pairs_set : (xs : List ℤ) (a : ℕ) (v : ℤ) → a < length (pairs xs) → pairs (set xs (2 * a + 1) v) ≡ set (pairs xs) a (from_to (at (pairs xs) a).low v)
pairs_set [] a v h = absurd (omega arith)
pairs_set (l ∷ []) a v h = absurd (omega arith)
pairs_set (l ∷ r ∷ xs) zero v h = refl
pairs_set (l ∷ r ∷ xs) (suc a) v h =
    let e : 2 * suc a + 1 ≡ suc (suc (2 * a + 1)) = omega arith in
    rw e (ap (λ ts. from_to l r ∷ ts) (pairs_set xs a v (omega arith)))

pub high-place : (i : ℕ) → 1 ≤ i → high_at i ≡ 2 * (i - 1) + 1
high-place zero h = absurd (omega arith)
high-place (suc i) h = omega arith

module _ (xs : List ℤ) {i : ℕ} (s : 1 ≤ i) (m : i ≤ length (pairs xs)) where
  pub high_is : get_or xs (high_at i) (pos 0) ≡ (range_of xs i).high
  high_is =
      ap (λ k. get_or xs k (pos 0)) (high-place i s) ∙ ap (λ (r : Range). r.high) (pairs-at xs (i - 1) (pos 0) (omega arith))

  pub wider-pairs : (w : ℕ) → pairs (wider xs i w) ≡ set (pairs xs) (i - 1) (from_to (range_of xs i).low ((range_of xs i).high +ℤ pos w))
  unfolding wider
  wider-pairs w =
      ap₂ (λ k v. pairs (set xs k v)) (high-place i s) (ap (λ z. z +ℤ pos w) high_is) ∙ pairs_set xs (i - 1) ((range_of xs i).high +ℤ pos w) (omega arith)

  -- the factor's own range
  pub wider-high : (w : ℕ) → (range_of (wider xs i w) i).high ≡ (range_of xs i).high +ℤ pos w
  wider-high w =
      ap (λ rs. (at rs (i - 1)).high) (wider-pairs w)
      ∙ ap (λ (r : Range). r.high) (get_or-set_same (pairs xs) (i - 1) (from_to (range_of xs i).low ((range_of xs i).high +ℤ pos w)) zero_range (omega arith))

pub wider-length : (xs : List ℤ) (i w : ℕ) → length (wider xs i w) ≡ length xs
unfolding wider
wider-length xs i w = length-set xs (high_at i) _

-- no unit more
pub wider-none : (xs : List ℤ) (i : ℕ) → wider xs i 0 ≡ xs
unfolding wider
wider-none xs i = ap (set xs (high_at i)) (+ℤ_idr (get_or xs (high_at i) (pos 0))) ∙ set-get_or xs (high_at i) (pos 0)

-- ---- two lists that differ at one place
at_both : (P : Range → Range → Type 0) (rs : List Range) {k : ℕ} {r s : Range} → k < length rs → P r s
    → (a : ℕ) → P (at rs a) (at rs a) → P (at (set rs k r) a) (at (set rs k s) a)
at_both P rs {k} {r} {s} l h a g = elim (ℕ_discrete a k) [
  | yes e ↦ rw (e, get_or-set_same rs k r zero_range l, get_or-set_same rs k s zero_range l) h
  | no n ↦ rw (get_or-set_other rs k a r zero_range n, get_or-set_other rs k a s zero_range n) g
]

record Within (r s : Range) : Type 0 where
  order : r.low ≤ℤ r.high
  low : s.low ≤ℤ r.low
  high : r.high ≤ℤ s.high

-- ---- accepted ranges
module _ {c : Codelist} {xs : List ℤ} (R : Rateable c xs) where
  pub few-factors : c.factors ≤ 8
  few-factors = (accepted c xs _ R.accepted).codelist.factors.1

  pub some-factor : 1 ≤ c.factors
  some-factor = (accepted c xs _ R.accepted).codelist.factors.0

  pub range-count : length (pairs xs) ≡ c.factors
  range-count = (accepted c xs _ R.accepted).count

  pub number-count : length xs ≡ 2 * c.factors
  number-count = (accepted c xs _ R.accepted).numbers

  pub range-ends : (a : ℕ) → a < c.factors → Ends (at (pairs xs) a)
  range-ends a l =
      let g = all-good 0 (pairs xs) (accepted c xs _ R.accepted).good a (omega (arith, range-count)) in
      ends-of (at (pairs xs) a) (true-T ((good-iff (at (pairs xs) a)).1 g))

  module _ {i : ℕ} (F : Factor c i) where
    among : i ≤ length (pairs xs)
    among = omega (arith, F.1, range-count)

    own : Ends (range_of xs i)
    own = range-ends (i - 1) (omega (arith, F.0, F.1))

    pub widenable : Widenable xs i
    widenable =
        let h = high_is xs F.0 among in
        record {
          few = omega (arith, number-count, few-factors);
          some = F.0;
          among = omega (arith, number-count, F.1);
          above = rw h (≤ℤ-trans own.above own.order);
          below = rw h own.below;
        }

    pub own-high : (w : ℕ) → (range_of (wider xs i w) i).high ≡ (range_of xs i).high +ℤ pos w
    own-high = wider-high xs F.0 among

    -- one that is widened less is inside one that is widened more
    pub wider-inside : {w u : ℕ} → w ≤ u → InsideRanges c.factors (wider xs i w) (wider xs i u)
    wider-inside {w} {u} l = record {
      count = wider-length xs i w ∙ sym (wider-length xs i u);
      order = λ a h. (each a h).order;
      low = λ a h. (each a h).low;
      high = λ a h. (each a h).high;
    }
      where
        r : Range
        r = range_of xs i

        each : (a : ℕ) → a < c.factors → Within (at (pairs (wider xs i w)) a) (at (pairs (wider xs i u)) a)
        each a h =
            rw (wider-pairs xs F.0 among w, wider-pairs xs F.0 among u)
            (at_both Within (pairs xs) (omega (arith, F.0, among))
            (record {
              order = omega (ints, own.order, add-dif r.high (pos w));
              low = ≤ℤ_refl r.low;
              high = omega (ints, l, add-dif r.high (pos w), add-dif r.high (pos u));
            })
            a
            (record { order = (range-ends a h).order; low = ≤ℤ_refl _; high = ≤ℤ_refl _ }))

-- ---- as the code makes it: the numbers copied, then one set anew
-- a number more is copied
pub copied_more : (out xs : List ℤ) (i : ℕ) {v : ℤ} → i < length out → i < length xs → take i out ≡ take i xs → v ≡ get_or xs i (pos 0)
    → take (i + 1) (set out i v) ≡ take (i + 1) xs
copied_more out xs i {v} l k e f =
    let n : i + 1 ≡ suc i = omega arith in
    rw n (take-suc-set out i v l ∙ rw (e, f) (sym (take-suc xs i (pos 0) k)))

module _ {xs : List ℤ} {i : ℕ} (W : Widenable xs i) {w : ℕ} (b : w < 256) where
  high-in : high_at i < length xs
  high-in = omega (arith, W.some, W.among)

  -- no end passes what an `i64` holds
  pub widened-fits : SFits w64 (get_or xs (high_at i) (pos 0) +ℤ pos w)
  widened-fits =
      let h = get_or xs (high_at i) (pos 0) in
      fits-abs (h +ℤ pos w) (omega (arith, add-abs h (pos w), in-limit h W.above W.below))

  -- with the numbers copied before, the factor's high end is set
  pub wider-copied : (out : List ℤ) {v : ℤ} → take (length xs) out ≡ xs → v ≡ to_z w64 (of_z w64 (get_or xs (high_at i) (pos 0) +ℤ pos w))
      → take (length xs) (set out (high_at i) v) ≡ wider xs i w
  unfolding wider
  wider-copied out {v} e f =
      take-set-lt (length xs) out (high_at i) v high-in ∙ ap₂ (λ l z. set l (high_at i) z) e (f ∙ to_z-of_z w64 _ widened-fits)

  pub wider-made : {ys : List ℤ} (rest : List ℤ) {j : ℕ} {u : ℤ} → ys ≡ xs → j ≡ i → u ≡ pos w
      → take (length xs) (set (ys ++ rest) (2 * j - 1) (to_z w64 (of_z w64 (to_z w64 (of_z w64 (get_or (ys ++ rest) (2 * j - 1) (pos 0))) +ℤ to_z w64 (of_z w64 u)))))
      ≡ wider xs i w
  wider-made rest e f g =
      let h = get_or xs (high_at i) (pos 0) in
      let high : to_z w64 (of_z w64 h) ≡ h = to_z-of_z w64 h (fits-abs h (omega (arith, in-limit h W.above W.below))) in
      let units : to_z w64 (of_z w64 (pos w)) ≡ pos w = to_z-of_z w64 (pos w) (fits-abs (pos w) (omega arith)) in
      rw (e, f, g, get_or-append xs rest (pos 0) (high_at i) high-in, high, units) (wider-copied (xs ++ rest) (take-append_seam xs rest) refl)
