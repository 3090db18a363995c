-- Ranges in a list of numbers: what is read after a range has been written, and the eight slopes of a line. Assumes nothing.
use mathlib.Core.Path.{◌≡◌, refl, sym, ap₂, ◌∙◌}
use mathlib.Core.Bool.{Bool, true, false}
use mathlib.Core.List.{List}
use mathlib.Core.Logic.{◌⊎◌, inl, inr}
use Prim.Native.Nat.{ℕ, ◌+◌, ◌*◌, ◌≤◌, ◌<◌}
use native.Mathlib.Omega.{arith}
use borrow.Author.Tests.{eqb-true, eqb-false}
use lib.Dec.{eqb}
use lib.IntN.{ℤ, pos}
use lib.ListN.{length, get_or, set, length-set}
use lib.Seq.{get_or-set_same, get_or-set_other, ext_get_or}
use Rattle.range.specs.declared.Range.{Range}
use Rattle.range.specs.Limit.{from_to, zero_range}
use Rattle.range.specs.Sums.{at, pair_at, ranges_from}
use Rattle.range.proofs.Pairs.{ranges-at}
use Rattle.bounds.specs.Table.{slopes_from, put_pair}

-- ---- a range that is written
module _ (t : List ℤ) (m : ℕ) (r : Range) where
  pub put-long : length (put_pair t m r) ≡ length t
  put-long = length-set (set t m r.low) (m + 1) r.high ∙ length-set t m r.low

  pub put-read : m + 1 < length t → pair_at (put_pair t m r) m ≡ r
  put-read h =
      ap₂ from_to
      (get_or-set_other (set t m r.low) (m + 1) m r.high (pos 0) (λ e. omega arith) ∙ get_or-set_same t m r.low (pos 0) (omega arith))
      (get_or-set_same (set t m r.low) (m + 1) r.high (pos 0) (omega (arith, length-set t m r.low)))

  -- any other number
  pub put-apart : (n : ℕ) → ¬ (n ≡ m) → ¬ (n ≡ m + 1) → get_or (put_pair t m r) n (pos 0) ≡ get_or t n (pos 0)
  put-apart n p q = get_or-set_other (set t m r.low) (m + 1) n r.high (pos 0) q ∙ get_or-set_other t m n r.low (pos 0) p

  pub put_other : (n : ℕ) → (n < m) ⊎ (m + 2 ≤ n) → get_or (put_pair t m r) n (pos 0) ≡ get_or t n (pos 0)
  put_other n (inl h) = put-apart n (λ e. omega arith) (λ e. omega arith)
  put_other n (inr h) = put-apart n (λ e. omega arith) (λ e. omega arith)

-- ---- numbers that are the same make the same ranges
module _ (u t : List ℤ) where
  pub same-pair : (n : ℕ) → get_or u n (pos 0) ≡ get_or t n (pos 0) → get_or u (n + 1) (pos 0) ≡ get_or t (n + 1) (pos 0) → pair_at u n ≡ pair_at t n
  same-pair n p q = ap₂ from_to p q

  pub same-ranges : (i : ℕ) → ((n : ℕ) → i ≤ n → n < i + 16 → get_or u n (pos 0) ≡ get_or t n (pos 0)) → ranges_from u i ≡ ranges_from t i
  same-ranges i h =
      let pair : (n : ℕ) → i ≤ n → n + 1 < i + 16 → pair_at u n ≡ pair_at t n = λ n l k. same-pair n (h n l (omega arith)) (h (n + 1) (omega arith) k) in
      rw (
        pair i (omega arith) (omega arith),
        pair (i + 2) (omega arith) (omega arith),
        pair (i + 4) (omega arith) (omega arith),
        pair (i + 6) (omega arith) (omega arith),
        pair (i + 8) (omega arith) (omega arith),
        pair (i + 10) (omega arith) (omega arith),
        pair (i + 12) (omega arith) (omega arith),
        pair (i + 14) (omega arith) (omega arith),
      )

-- ---- the slopes of a line
pub slope-at : (t : List ℤ) (k a : ℕ) → a < 8 → at (slopes_from t k) a ≡ pair_at t (20 * k + 4 + 2 * a)
slope-at t k a h = ranges-at t (20 * k + 4) a h

-- one that is written
pub slope-set : (t : List ℤ) (k a : ℕ) (r : Range) → k < 64 → a < 8 → length t ≡ 1280
    → slopes_from (put_pair t (20 * k + 4 + 2 * a) r) k ≡ set (slopes_from t k) a r
slope-set t k a r i h l =
    ext_get_or zero_range (slopes_from v k) (set g a r) (sym (length-set g a r)) (λ b p. slope-at v k b p ∙ go b p (eqb b a) refl)
  where
    n : ℕ
    n = 20 * k + 4 + 2 * a

    v : List ℤ
    v = put_pair t n r

    g : List Range
    g = slopes_from t k

    go : (b : ℕ) → b < 8 → (same : Bool) → eqb b a ≡ same → pair_at v (20 * k + 4 + 2 * b) ≡ at (set g a r) b
    go b p true e = rw (eqb-true b a e) (put-read t n r (omega arith) ∙ sym (get_or-set_same g a r zero_range h))
    go b p false e =
        let o = put-apart t n r in
        let apart = eqb-false b a e in
        same-pair v t _ (o _ (λ z. apart (omega arith)) (λ z. omega arith)) (o _ (λ z. omega arith) (λ z. apart (omega arith)))
        ∙ sym (slope-at t k b p)
        ∙ sym (get_or-set_other g a b r zero_range apart)

-- and any number that is none of the line's slopes
pub slope-apart : (t : List ℤ) (k a : ℕ) (r : Range) → a < 8 → (m : ℕ) → (m < 20 * k + 4) ⊎ (20 * k + 20 ≤ m)
    → get_or (put_pair t (20 * k + 4 + 2 * a) r) m (pos 0) ≡ get_or t m (pos 0)
slope-apart t k a r h m o = put_other t (20 * k + 4 + 2 * a) r m (outside o)
  where
    outside : (m < 20 * k + 4) ⊎ (20 * k + 20 ≤ m) → (m < 20 * k + 4 + 2 * a) ⊎ (20 * k + 4 + 2 * a + 2 ≤ m)
    outside (inl q) = inl (omega arith)
    outside (inr q) = inr (omega arith)
