-- The widest range: `widest-is`. Assumes nothing.
use mathlib.Core.Path.{◌≡◌, refl, sym, ap, ◌∙◌}
use mathlib.Core.Bool.{true, false}
use mathlib.Core.List.{List, [], ◌∷◌}
use mathlib.Core.Logic.{◌⊎◌, inl, inr}
use Prim.Native.Nat.{ℕ, suc, ◌+◌, ◌<◌}
use native.Mathlib.Nat as N
use native.Mathlib.Omega.{arith}
use lib.IntN.{ℤ, pos}
use lib.ListN.{length}
use lib.Signed.{lt_z, ◌≤ℤ◌, ◌<ℤ◌, lt_z_yes, lt_z_no, ≤ℤ_refl}
use Rattle.algebra.proofs.Int.{≤ℤ-<ℤ-trans, <ℤ→≤ℤ}
use Rattle.range.specs.declared.Range.{Range}
use Rattle.range.specs.Sums.{at}
use Rattle.range.proofs.Valid.{by-test, T_true}
use Rattle.bisection.specs.Cut.{width_of, widest_from, widest, narrow}
use Rattle.bisection.specs.Promises.{Widest}

module _ (f : ℕ → ℤ) where
  -- k is the widest of the first n, and the lowest such
  record Best (n k : ℕ) : Type 0 where
    factor : k < n
    most : (a : ℕ) → a < n → f a ≤ℤ f k
    lowest : (a : ℕ) → a < k → f a <ℤ f k

  best-one : Best 1 0
  best-one = record {
    factor = omega arith;
    most = λ a l. let e : a ≡ 0 = omega arith in rw e (≤ℤ_refl (f 0));
    lowest = λ a l. absurd (omega arith);
  }

  module _ {n k : ℕ} (b : Best n k) where
    best-wider : f k <ℤ f n → Best (suc n) n
    best-wider w = record {
      factor = omega arith;
      most = λ a l. go a (N.eq-or-lt_of_le (N.le_of_suc-le-suc l));
      lowest = λ a l. ≤ℤ-<ℤ-trans (b.most a l) w;
    }
      where
        go : (a : ℕ) → (a ≡ n) ⊎ (a < n) → f a ≤ℤ f n
        go a (inl e) = rw e (≤ℤ_refl (f n))
        go a (inr l) = <ℤ→≤ℤ (≤ℤ-<ℤ-trans (b.most a l) w)

    best-kept : f n ≤ℤ f k → Best (suc n) k
    best-kept w = record {
      factor = omega (arith, b.factor);
      most = λ a l. go a (N.eq-or-lt_of_le (N.le_of_suc-le-suc l));
      lowest = b.lowest;
    }
      where
        go : (a : ℕ) → (a ≡ n) ⊎ (a < n) → f a ≤ℤ f k
        go a (inl e) = rw e w
        go a (inr l) = b.most a l

-- the ranges from i on are rs
best-from : (all : List Range) (i b : ℕ) (rs : List Range) → ((a : ℕ) → at all (i + a) ≡ at rs a)
    → Best (λ a. width_of (at all a)) i b → Best (λ a. width_of (at all a)) (i + length rs) (widest_from i b (width_of (at all b)) rs)
unfolding widest_from
best-from all i b [] h k = rw (N.add-zero i) k
best-from all i b (r ∷ rs) h k =
    let f : ℕ → ℤ = λ a. width_of (at all a) in
    let here : at all i ≡ r = ap (at all) (sym (N.add-zero i)) ∙ h 0 in
    let rest : (a : ℕ) → at all (suc i + a) ≡ at rs a = λ a. let e : suc i + a ≡ i + suc a = omega arith in ap (at all) e ∙ h (suc a) in
    let e : i + suc (length rs) ≡ suc i + length rs = omega arith in
    rw (e, ← here)
    (by-test (Best f (suc i + length rs)) (lt_z (f b) (f i))
    (λ t. best-from all (suc i) i rs rest (best-wider f k (lt_z_yes t)))
    (λ t. best-from all (suc i) b rs rest (best-kept f k (lt_z_no t))))

pub widest-is : (rs : List Range) → 0 < length rs → Widest rs (widest rs)
unfolding widest
widest-is [] l = absurd (omega arith)
widest-is (r ∷ rs) l =
    let all = r ∷ rs in
    let b = best-from all 1 0 rs (λ a. let e : 1 + a ≡ suc a = omega arith in ap (at all) e) (best-one (λ a. width_of (at all a))) in
    let e : 1 + length rs ≡ length all = omega arith in
    record { factor = rw e at b.factor; most = λ a k. b.most a (rw e k); lowest = b.lowest }

-- ranges that are not all narrow have a widest one
pub widest-in : (rs : List Range) → narrow rs ≡ false → widest rs < length rs
unfolding narrow widest
widest-in [] e = let z : ◌≡◌ {A = ℕ} 0 1 = cc in absurd (omega arith)
widest-in (r ∷ rs) e = (widest-is (r ∷ rs) (omega arith)).factor

-- where every range is under 2 units wide
pub all-narrow : (rs : List Range) → ((a : ℕ) → a < length rs → width_of (at rs a) <ℤ pos 2) → narrow rs ≡ true
unfolding narrow widest
all-narrow [] h = refl
all-narrow (r ∷ rs) h = go (widest (r ∷ rs)) (widest-is (r ∷ rs) (omega arith)).factor
  where
    go : (k : ℕ) → k < length (r ∷ rs) → lt_z (width_of (at (r ∷ rs) k)) (pos 2) ≡ true
    go k l = T_true (h k l).lt
