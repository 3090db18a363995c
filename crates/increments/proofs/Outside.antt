-- The search for the lowest factor of which a boat's value is outside the range, and what it finds. Assumes nothing.
use mathlib.Core.Path.{◌≡◌, refl, sym, ap, ◌∙◌}
use mathlib.Core.Bool.{Bool, true, false, ◌&&◌, cond}
use mathlib.Core.List.{List}
use Prim.Native.Nat.{ℕ, zero, suc, ◌+◌, ◌≤◌, ◌<◌}
use native.Mathlib.Decide.{dec_le}
use native.Mathlib.Numerals.{add-one}
use native.Mathlib.Omega.{arith}
use lib.IntN.{ℤ}
use Rattle.std.specs.Prelude.{Some, None}
use Rattle.range.specs.declared.Range.{Range}
use Rattle.range.specs.Sums.{at}
use Rattle.bounds.specs.FirstBad.{or_none}
use Rattle.increments.specs.Call.{first, second, holds, outside_from, first_outside}

module _ (n : ℕ) (rs : List Range) (bs : List ℤ) where
  -- both boats are in the range of the factor a
  abbrev pub both_in : ℕ → Bool
  both_in a = holds (at rs a) (first bs a) && holds (at rs a) (second n bs a)

  -- ---- the loop: what is left to search is what was to be searched
  pub record Searching (a : ℕ) : Type 0 where
    pub left : ℕ
    pub few : a + left ≡ n
    pub same : outside_from n rs bs a left ≡ first_outside n rs bs

  pub searching-start : Searching 0
  unfolding first_outside
  searching-start = record { left = n; few = omega arith; same = refl }

  module _ (a : ℕ) (i : Searching a) where
    pub searching-found : a < n → both_in a ≡ false → Some (a + 1) ≡ or_none (first_outside n rs bs)
    unfolding outside_from
    searching-found l e = rw (sym (go i.left i.few ∙ i.same), add-one a)
      where
        go : (k : ℕ) → a + k ≡ n → a + 1 ≡ outside_from n rs bs a k
        go zero m = absurd (omega (arith, m, l))
        go (suc k) m = rw (e, add-one a)

    pub searching-next : a < n → both_in a ≡ true → Searching (a + 1)
    unfolding outside_from
    searching-next l e = go i.left i.few i.same
      where
        go : (k : ℕ) → a + k ≡ n → outside_from n rs bs a k ≡ first_outside n rs bs → Searching (a + 1)
        go zero m s = absurd (omega (arith, m, l))
        go (suc k) m s = record { left = k; few = omega (arith, m); same = rw (add-one a) (sym (rw e) ∙ s) }

    pub searching-end : n ≤ a → None ≡ or_none (first_outside n rs bs)
    unfolding outside_from
    searching-end l = let z : i.left ≡ 0 = omega (arith, i.few, l) in ap or_none (rw z at i.same)

-- ---- what it finds
module _ (n : ℕ) (rs : List Range) (bs : List ℤ) where
  -- from the factor a on, of k: that none of them has a boat outside, or the lowest one that has
  pub data Found (a k : ℕ) : ℕ → Type 0 where
    none : ((i : ℕ) → a ≤ i → i < a + k → both_in n rs bs i ≡ true) → Found a k 0
    lowest : (i : ℕ) → a ≤ i → i < a + k → both_in n rs bs i ≡ false → ((j : ℕ) → a ≤ j → j < i → both_in n rs bs j ≡ true) → Found a k (suc i)

  found_from : (a k : ℕ) → Found a k (outside_from n rs bs a k)
  unfolding outside_from
  found_from a zero = none (λ i l m. absurd (omega arith))
  found_from a (suc k) = go (both_in n rs bs a) refl (found_from (suc a) k)
    where
      here : (P : ℕ → Type 0) → P a → ((i : ℕ) → suc a ≤ i → P i) → (i : ℕ) → a ≤ i → P i
      here P p f i l = step (dec_le (suc a) i)
        where
          step : Dec (suc a ≤ i) → P i
          step (yes m) = f i m
          step (no m) = let e : a ≡ i = omega (arith, m) in rw (← e) p

      go : (b : Bool) → both_in n rs bs a ≡ b → {m : ℕ} → Found (suc a) k m → Found a (suc k) (cond b m (suc a))
      go false e f = lowest a (omega arith) (omega arith) e (λ j l m. absurd (omega arith))
      go true e (none h) = none (λ i l m. here (λ i. i < a + suc k → both_in n rs bs i ≡ true) (λ q. e) (λ i p q. h i p (omega arith)) i l m)
      go true e (lowest i l m f h) =
          lowest i (omega arith) (omega arith) f (λ j p q. here (λ j. j < i → both_in n rs bs j ≡ true) (λ q. e) (λ j p q. h j p q) j p q)

  pub found : Found 0 n (first_outside n rs bs)
  unfolding first_outside
  found = found_from 0 n

  -- it is one of the factors
  pub outside-few : first_outside n rs bs ≤ n
  outside-few = go found
    where
      go : {m : ℕ} → Found 0 n m → m ≤ n
      go (none h) = omega arith
      go (lowest i l m e h) = omega arith

  -- where there is none, all are inside
  pub all-inside : 0 ≡ first_outside n rs bs → (a : ℕ) → a < n → both_in n rs bs a ≡ true
  all-inside z = go found z
    where
      go : {m : ℕ} → Found 0 n m → 0 ≡ m → (a : ℕ) → a < n → both_in n rs bs a ≡ true
      go (none h) z a l = h a (omega arith) (omega arith)
      go (lowest i l m e h) z a k = absurd (omega (arith, z))

  -- where all are, there is none
  pub none-outside : ((a : ℕ) → a < n → both_in n rs bs a ≡ true) → first_outside n rs bs ≡ 0
  none-outside f = go found
    where
      go : {m : ℕ} → Found 0 n m → m ≡ 0
      go (none h) = refl
      go (lowest i l m e h) = let z : true ≡ false = sym (f i (omega arith)) ∙ e in absurd (let y : ◌≡◌ {A = ℕ} 0 1 = cc in omega arith)
