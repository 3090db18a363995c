-- Hulls of ranges: each holds both, and the laws of joining three. Assumes nothing.
use mathlib.Core.Path.{◌≡◌, refl, ap₂, ◌∙◌}
use mathlib.Core.Bool.{Bool, true, false}
use mathlib.Core.List.{List}
use Prim.Native.Nat.{ℕ, ◌+◌, ◌<◌}
use native.Mathlib.Omega.{arith}
use borrow.Author.Tests.{eqb-true, eqb-false}
use lib.Dec.{eqb}
use lib.ListN.{length, set}
use lib.Seq.{get_or-set_same, get_or-set_other}
use lib.IntN.{ℤ}
use lib.Signed.{◌≤ℤ◌}
use Rattle.algebra.proofs.Int.{≤ℤ-trans, ≤ℤ-antisym}
use Rattle.exact.specs.Units.{In}
use Rattle.exact.proofs.Rat as Q
use Rattle.exact.proofs.Rat.{ℚ, ◌≤ℚ◌, 0ℚ}
use Rattle.exact.proofs.Units.{units_mono}
use Rattle.range.specs.declared.Range.{Range}
use Rattle.range.specs.Limit.{from_to, zero_range}
use Rattle.range.specs.Sums.{at}
use Rattle.range.specs.Arithmetic.{lesser_of, greater_of, ends_hull}
use Rattle.range.proofs.Extremes.{lesser-any, greater-any, lesser-left, lesser-right, greater-left, greater-right}
use Rattle.rules.specs.Promises.{Between}

-- ---- the lesser and the greater of several
module _ (a b c : ℤ) where
  lesser-1 : lesser_of (lesser_of a b) c ≤ℤ a
  lesser-1 = ≤ℤ-trans (lesser-left (lesser_of a b) c) (lesser-left a b)

  lesser-2 : lesser_of (lesser_of a b) c ≤ℤ b
  lesser-2 = ≤ℤ-trans (lesser-left (lesser_of a b) c) (lesser-right a b)

  greater-1 : a ≤ℤ greater_of (greater_of a b) c
  greater-1 = ≤ℤ-trans (greater-left a b) (greater-left (greater_of a b) c)

  greater-2 : b ≤ℤ greater_of (greater_of a b) c
  greater-2 = ≤ℤ-trans (greater-right a b) (greater-left (greater_of a b) c)

module _ {a b q : ℤ} where
  pub below_both : q ≤ℤ a → q ≤ℤ b → q ≤ℤ lesser_of a b
  below_both = lesser-any a b (λ z. q ≤ℤ z)

  pub above-both : a ≤ℤ q → b ≤ℤ q → greater_of a b ≤ℤ q
  above-both = greater-any a b (λ z. z ≤ℤ q)

module _ (a b c : ℤ) where
  lesser-assoc : lesser_of (lesser_of a b) c ≡ lesser_of a (lesser_of b c)
  lesser-assoc = ≤ℤ-antisym
      (below_both (lesser-1 a b c) (below_both (lesser-2 a b c) (lesser-right (lesser_of a b) c)))
      (below_both
      (below_both (lesser-left a (lesser_of b c)) (≤ℤ-trans (lesser-right a (lesser_of b c)) (lesser-left b c)))
      (≤ℤ-trans (lesser-right a (lesser_of b c)) (lesser-right b c)))

  greater-assoc : greater_of (greater_of a b) c ≡ greater_of a (greater_of b c)
  greater-assoc = ≤ℤ-antisym
      (above-both
      (above-both (greater-left a (greater_of b c)) (≤ℤ-trans (greater-left b c) (greater-right a (greater_of b c))))
      (≤ℤ-trans (greater-right b c) (greater-right a (greater_of b c))))
      (above-both (greater-1 a b c) (above-both (greater-2 a b c) (greater-right (greater_of a b) c)))

  -- both with c, joined, is c with the join
  lesser-each : lesser_of (lesser_of a c) (lesser_of b c) ≡ lesser_of (lesser_of a b) c
  lesser-each =
      let l = lesser-left (lesser_of a c) (lesser_of b c) in
      let r = lesser-right (lesser_of a c) (lesser_of b c) in
      let z = lesser-right (lesser_of a b) c in
      ≤ℤ-antisym
      (below_both (below_both (≤ℤ-trans l (lesser-left a c)) (≤ℤ-trans r (lesser-left b c))) (≤ℤ-trans l (lesser-right a c)))
      (below_both (below_both (lesser-1 a b c) z) (below_both (lesser-2 a b c) z))

  greater-each : greater_of (greater_of a c) (greater_of b c) ≡ greater_of (greater_of a b) c
  greater-each =
      let l = greater-left (greater_of a c) (greater_of b c) in
      let r = greater-right (greater_of a c) (greater_of b c) in
      let z = greater-right (greater_of a b) c in
      ≤ℤ-antisym
      (above-both (above-both (greater-1 a b c) z) (above-both (greater-2 a b c) z))
      (above-both (above-both (≤ℤ-trans (greater-left a c) l) (≤ℤ-trans (greater-left b c) r)) (≤ℤ-trans (greater-right a c) l))

-- ---- hulls
module _ (a b c : Range) where
  pub hull-assoc : ends_hull (ends_hull a b) c ≡ ends_hull a (ends_hull b c)
  hull-assoc = ap₂ from_to (lesser-assoc a.low b.low c.low) (greater-assoc a.high b.high c.high)

  pub hull-each : ends_hull (ends_hull a c) (ends_hull b c) ≡ ends_hull (ends_hull a b) c
  hull-each = ap₂ from_to (lesser-each a.low b.low c.low) (greater-each a.high b.high c.high)

-- ---- a range about another holds what that holds
pub record About (a b : Range) : Type 0 where
  pub low : a.low ≤ℤ b.low
  pub high : b.high ≤ℤ a.high

module _ (a b : Range) where
  pub about-left : About (ends_hull a b) a
  about-left = record { low = lesser-left a.low b.low; high = greater-left a.high b.high }

  pub about-right : About (ends_hull a b) b
  about-right = record { low = lesser-right a.low b.low; high = greater-right a.high b.high }

module _ {a b : Range} (o : About a b) where
  pub in-about : {x : ℚ} → In b.low b.high x → In a.low a.high x
  in-about i = record { low = Q.≤ℚ-trans (units_mono o.low) i.low; high = Q.≤ℚ-trans i.high (units_mono o.high) }

  pub between-about : {q y : ℚ} → 0ℚ ≤ℚ q → Between b q y → Between a q y
  between-about {q} n w = record {
    low = Q.≤ℚ-trans (Q.*ℚ-monoʳ q n (units_mono o.low)) w.low;
    high = Q.≤ℚ-trans w.high (Q.*ℚ-monoʳ q n (units_mono o.high));
  }

-- ---- ranges hulled one by one: those before k are, and k is put
pub one_more : (f : ℕ → Range) (out : List Range) {k : ℕ} {r : Range} → k < length out → ((i : ℕ) → i < k → at out i ≡ f i) → r ≡ f k
    → (i : ℕ) → i < k + 1 → at (set out k r) i ≡ f i
one_more f out {k} {r} l h e i m = go (eqb i k) refl
  where
    go : (b : Bool) → eqb i k ≡ b → at (set out k r) i ≡ f i
    go true q = let s : i ≡ k = eqb-true i k q in rw (s, get_or-set_same out k r zero_range l) e
    go false q = get_or-set_other out k i r zero_range (eqb-false i k q) ∙ h i (omega (arith, eqb-false i k q))
