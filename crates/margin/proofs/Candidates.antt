-- The first of the candidates that passes a test: the row of one widening, then row after row: `scan`. Assumes nothing of the test.
use mathlib.Core.Bool.{Bool, true, false}
use mathlib.Core.List.{List, ◌++◌}
use mathlib.Core.Logic.{inl, inr}
use mathlib.Core.Option.{none, some}
use mathlib.Core.Path.{◌≡◌, refl, ◌∙◌}
use Prim.Native.Nat.{ℕ, zero, suc, ◌+◌, ◌≤◌, ◌<◌}
use native.Mathlib.Decide.{ℕ_discrete}
use native.Mathlib.Omega.{arith}
use Rattle.margin.specs.Edge.{row, rows, most_units, first_that}
use Rattle.margin.specs.Promises.{Before}

module _ (P : ℕ → ℕ → Bool) where
  -- ---- one row
  data InRow (w i k : ℕ) (ps : List (ℕ × ℕ)) : Type 0 where
    here : (a : ℕ) → i ≤ a → a < i + k → P a w ≡ true → ((b : ℕ) → i ≤ b → b < a → P b w ≡ false) → first_that P (row w i k ++ ps) ≡ some (w, a)
        → InRow w i k ps
    past : ((b : ℕ) → i ≤ b → b < i + k → P b w ≡ false) → first_that P (row w i k ++ ps) ≡ first_that P ps → InRow w i k ps

  -- the first factor, and those after it
  one_more : {w i a : ℕ} → P i w ≡ false → ((b : ℕ) → suc i ≤ b → b < a → P b w ≡ false) → (b : ℕ) → i ≤ b → b < a → P b w ≡ false
  one_more {w} {i} {a} f g b l h = elim (ℕ_discrete b i) [
    | yes e ↦ rw e f
    | no n ↦ g b (omega (arith, n)) h
  ]

  in_row : (w i k : ℕ) (ps : List (ℕ × ℕ)) → InRow w i k ps
  unfolding row first_that
  in_row w i zero ps = past (λ b l h. absurd (omega arith)) refl
  in_row w i (suc k) ps = go (P i w) refl (in_row w (suc i) k ps)
    where
      go : (t : Bool) → P i w ≡ t → InRow w (suc i) k ps → InRow w i (suc k) ps
      go true e r = here i (omega arith) (omega arith) e (λ b l h. absurd (omega arith)) (rw e)
      go false e (here a l h p f q) = here a (omega arith) (omega arith) p (one_more e f) (rw e q)
      go false e (past f q) = past (λ b l h. one_more e f b l (omega arith)) (rw e q)

  -- ---- row after row, of k widenings, of which w is the first
  pub data Scan (n w k : ℕ) : Type 0 where
    first : (u a : ℕ) → w ≤ u → u < w + k → 1 ≤ a → a ≤ n → P a u ≡ true
        → ((v b : ℕ) → 1 ≤ b → b ≤ n → w ≤ v → Before v b u a → P b v ≡ false) → first_that P (rows n w k) ≡ some (u, a) → Scan n w k
    nothing : ((v b : ℕ) → 1 ≤ b → b ≤ n → w ≤ v → v < w + k → P b v ≡ false) → first_that P (rows n w k) ≡ none → Scan n w k

  scan-rows : (n w k : ℕ) → Scan n w k
  unfolding rows first_that
  scan-rows n w zero = nothing (λ v b s m l h. absurd (omega arith)) refl
  scan-rows n w (suc k) = go (in_row w 1 n (rows n (suc w) k)) (scan-rows n (suc w) k)
    where
      -- nothing in this row
      later : ((b : ℕ) → 1 ≤ b → b < 1 + n → P b w ≡ false) → (v b : ℕ) → 1 ≤ b → b ≤ n → w ≤ v
          → (suc w ≤ v → P b v ≡ false) → P b v ≡ false
      later f v b s m l g = elim (ℕ_discrete v w) [
        | yes e ↦ rw e (f b s (omega arith))
        | no d ↦ g (omega (arith, d))
      ]

      go : InRow w 1 n (rows n (suc w) k) → Scan n (suc w) k → Scan n w (suc k)
      go (here a l h p f q) s = first w a (omega arith) (omega arith) l (omega arith) p before q
        where
          before : (v b : ℕ) → 1 ≤ b → b ≤ n → w ≤ v → Before v b w a → P b v ≡ false
          before v b s m g (inl c) = absurd (omega arith)
          before v b s m g (inr c) = rw c.0 (f b s c.1)
      go (past f q) (first u a l h s m p g r) =
          first u a (omega arith) (omega arith) s m p (λ v b x y z c. later f v b x y z (λ j. g v b x y j c)) (q ∙ r)
      go (past f q) (nothing g r) = nothing (λ v b x y z c. later f v b x y z (λ j. g v b x y j (omega arith))) (q ∙ r)

  -- THE CANDIDATES of n factors
  pub scan : (n : ℕ) → Scan n 1 most_units
  scan n = scan-rows n 1 most_units
