-- Ranges of a line that are valid: all of them, or one by one. Assumes nothing.
use mathlib.Core.Path.{◌≡◌, refl, sym, ap, ◌∙◌}
use mathlib.Core.Bool.{Bool, true, false, ◌&&◌, and-true, and_assoc}
use mathlib.Core.List.{List, [], ◌∷◌, ◌++◌}
use mathlib.Core.Logic.{inr}
use Prim.Native.Nat.{ℕ, zero, suc, ◌+◌, ◌<◌}
use native.Mathlib.Numerals.{add-one}
use lib.ListN.{length, take}
use lib.Seq.{take-suc}
use Rattle.range.specs.declared.Range.{Range}
use Rattle.range.specs.Limit.{zero_range, is_valid}
use Rattle.range.specs.Sums.{at}
use Rattle.range.proofs.Fitting.{and_first, and_second}
use Rattle.range.proofs.Valid.{and-false}
use Rattle.rules.specs.declared.Line.{Line}
use Rattle.rules.specs.Run.{each_valid, within}

pub zero-valid : is_valid zero_range ≡ true
unfolding is_valid
zero-valid = refl

pub each_at : (g : List Range) → each_valid g ≡ true → (a : ℕ) → is_valid (at g a) ≡ true
each_at [] e a = zero-valid
each_at (r ∷ g) e zero = and_first (is_valid r) (each_valid g) e
each_at (r ∷ g) e (suc a) = each_at g (and_second (is_valid r) (each_valid g) e) a

-- one that was read
pub read-valid : (r : Range) (g : List Range) (a : ℕ) → r ≡ at g a → each_valid g ≡ true → is_valid r ≡ true
read-valid r g a e v = ap is_valid e ∙ each_at g v a

-- one slope more
pub each_more : (ok : Bool) (g : List Range) (a : ℕ) → a < length g → ok ≡ each_valid (take a g)
    → (ok && is_valid (at g a)) ≡ each_valid (take (a + 1) g)
each_more ok g a h e =
    ap (λ (b : Bool). b && is_valid (at g a)) e
    ∙ snoc (take a g) (at g a)
    ∙ ap each_valid (sym (take-suc g a zero_range h) ∙ ap (λ (n : ℕ). take n g) (sym (add-one a)))
  where
    snoc : (l : List Range) (r : Range) → (each_valid l && is_valid r) ≡ each_valid (l ++ (r ∷ []))
    snoc [] r = sym (and-true (is_valid r))
    snoc (x ∷ l) r = and_assoc (is_valid x) (each_valid l) (is_valid r) ∙ ap (λ (b : Bool). is_valid x && b) (snoc l r)

-- ---- the ranges of a line
module _ (l : Line) where
  module _ (e : within l ≡ true) where
    pub value-valid : is_valid l.value ≡ true
    unfolding within
    value-valid = and_first (is_valid l.value) _ e

    others-valid : (each_valid l.gradient && is_valid l.spectrum) ≡ true
    unfolding within
    others-valid = and_second (is_valid l.value) _ e

    pub gradient-valid : each_valid l.gradient ≡ true
    gradient-valid = and_first (each_valid l.gradient) _ others-valid

    pub spectrum-valid : is_valid l.spectrum ≡ true
    spectrum-valid = and_second (each_valid l.gradient) _ others-valid

  -- a slope that is `over`
  pub slope-over : (r : Range) (g : List Range) → l.gradient ≡ r ∷ g → is_valid r ≡ false → within l ≡ false
  unfolding within
  slope-over r g p e =
      ap (λ (h : List Range). is_valid l.value && (each_valid h && is_valid l.spectrum)) p
      ∙ ap (λ (t : Bool). is_valid l.value && (t && each_valid g && is_valid l.spectrum)) e
      ∙ and-false (is_valid l.value) false (inr refl)
