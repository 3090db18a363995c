-- The ranges that are rated, read two numbers at a time, and the search for the lowest bad one. Assumes nothing.
use mathlib.Core.Path.{◌≡◌, refl, ap, ◌∙◌}
use mathlib.Core.Bool.{Bool, true, false, cond}
use mathlib.Core.List.{List, [], ◌∷◌}
use Prim.Native.Nat.{ℕ, zero, suc, ◌+◌, ◌*◌, ◌/◌, ◌≤◌, ◌<◌}
use native.Mathlib.Nat as N
use native.Mathlib.Numerals.{add-one}
use native.Mathlib.Omega.{arith}
use lib.Dec.{lit<}
use lib.IntN.{ℤ}
use lib.ListN.{length, get_or, drop, drop_of_length-le}
use lib.Seq.{drop-cons}
use Rattle.range.specs.declared.Range.{Range}
use Rattle.range.specs.Limit.{from_to, zero_range, is_valid}
use Rattle.range.specs.Sums.{at}
use Rattle.rules.specs.Run.{each_valid}
use Rattle.rules.specs.Rate.{pairs, first_bad}

-- ---- two numbers a range
pub pairs-within : (xs : List ℤ) (a : ℕ) → a < length (pairs xs) → 2 * a + 1 < length xs
pairs-within [] a h = absurd (omega arith)
pairs-within (l ∷ []) a h = absurd (omega arith)
pairs-within (l ∷ r ∷ xs) zero h = omega arith
pairs-within (l ∷ r ∷ xs) (suc a) h = omega (arith, pairs-within xs a (omega arith))

pub pairs-at : (xs : List ℤ) (a : ℕ) (d : ℤ) → a < length (pairs xs) → from_to (get_or xs (2 * a) d) (get_or xs (2 * a + 1) d) ≡ at (pairs xs) a
pairs-at [] a d h = absurd (omega arith)
pairs-at (l ∷ []) a d h = absurd (omega arith)
pairs-at (l ∷ r ∷ xs) zero d h = refl
pairs-at (l ∷ r ∷ xs) (suc a) d h =
    let e : 2 * suc a ≡ suc (suc (2 * a)) = omega arith in
    let f : 2 * suc a + 1 ≡ suc (suc (2 * a + 1)) = omega arith in
    rw (f, e) (pairs-at xs a d (omega arith))

pub pairs-count : (xs : List ℤ) (n : ℕ) → length xs ≡ 2 * n → length (pairs xs) ≡ n
pairs-count [] n e = omega arith
pairs-count (l ∷ []) n e = absurd (omega arith)
pairs-count (l ∷ r ∷ xs) zero e = absurd (omega arith)
pairs-count (l ∷ r ∷ xs) (suc n) e = ap suc (pairs-count xs n (omega arith))

pub pairs-half : (xs : List ℤ) → length (pairs xs) ≡ length xs / 2
pairs-half [] = refl
pairs-half (l ∷ []) = refl
pairs-half (l ∷ r ∷ xs) =
    let n = length xs in
    omega (
      arith,
      pairs-half xs,
      N.div-mul-le_self n 2,
      N.lt-div-mul-add {a = n} {b = 2} (lit< tt),
      N.div-mul-le_self (suc (suc n)) 2,
      N.lt-div-mul-add {a = suc (suc n)} {b = 2} (lit< tt),
    )

-- ---- the lowest bad one
module _ (rs : List Range) (a : ℕ) where
  module _ (h : a < length rs) where
    bad-step : first_bad (a + 1) (drop a rs) ≡ cond (is_valid (at rs a)) (first_bad (a + 1 + 1) (drop (a + 1) rs)) (a + 1)
    unfolding first_bad
    bad-step = simp (drop-cons rs a zero_range h, add-one)

    pub bad-here : is_valid (at rs a) ≡ false → first_bad (a + 1) (drop a rs) ≡ a + 1
    bad-here e = bad-step ∙ rw e

    pub bad-next : is_valid (at rs a) ≡ true → first_bad (a + 1) (drop a rs) ≡ first_bad (a + 1 + 1) (drop (a + 1) rs)
    bad-next e = bad-step ∙ rw e

  pub bad-end : length rs ≤ a → first_bad (a + 1) (drop a rs) ≡ 0
  unfolding first_bad
  bad-end h = rw (drop_of_length-le rs h)

-- it is one of the factors
pub bad-few : (a : ℕ) (rs : List Range) → first_bad (suc a) rs ≤ a + length rs
unfolding first_bad
bad-few a [] = omega arith
bad-few a (r ∷ rs) = go (is_valid r) (bad-few (suc a) rs)
  where
    go : (t : Bool) → first_bad (suc (suc a)) rs ≤ suc a + length rs → cond t (first_bad (suc (suc a)) rs) (suc a) ≤ a + suc (length rs)
    go true h = omega arith
    go false h = omega arith

-- where none is bad, all are valid
pub none-bad : (rs : List Range) (a : ℕ) → first_bad (suc a) rs ≡ 0 → each_valid rs ≡ true
unfolding first_bad
none-bad [] a e = refl
none-bad (r ∷ rs) a e = go (is_valid r) refl e (none-bad rs (suc a))
  where
    go : (t : Bool) → is_valid r ≡ t → cond t (first_bad (suc (suc a)) rs) (suc a) ≡ 0
        → (first_bad (suc (suc a)) rs ≡ 0 → each_valid rs ≡ true) → each_valid (r ∷ rs) ≡ true
    go true p f rest = rw p (rest f)
    go false p f rest = absurd (omega arith)
