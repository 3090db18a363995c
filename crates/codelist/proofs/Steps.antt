-- One step of `operation_lines`: what the text that is left leads to.
use Prim.Native.Nat.{ℕ, suc, zero, ◌+◌}
use mathlib.Core.List.{List, [], ◌∷◌, ◌++◌}
use mathlib.Core.Path.{◌≡◌, refl, ◌∙◌}
use lib.ListN.{length}
use Rattle.std.specs.declared.result.Result.TheVariants.{Ok, Err}
use Rattle.codelist.specs.declared.Entry.{Entry}
use Rattle.codelist.specs.Text.{TextLine}
use Rattle.codelist.specs.InFull.{Loaded}
use Rattle.codelist.specs.declared.Op.{Op}
use Rattle.codelist.specs.declared.Refusal.{Refusal}
use Rattle.codelist.specs.declared.Refusal.TheVariants.{Malformed, TooManyLines}
use Rattle.codelist.specs.declared.Year.{Year}
use Rattle.codelist.specs.Read.{good, bad, keyword, named, literal, peek, operation_line}
use Rattle.codelist.specs.Load.{refused, ended, at_end, checked_of, operation_lines}
use Rattle.codelist.proofs.NumeralTexts.{never}

-- Where something stands, the text is not at its end
not-nil : (s : List ℕ) (x y : Loaded) → (s ≡ [] → ⊥) → at_end s x y ≡ y
not-nil [] x y h = absurd (h refl)
not-nil (b ∷ s) x y h = refl

a-line : (s : List ℕ) (l : TextLine) (t : List ℕ) (x y : Loaded) → operation_line s ≡ good l t → at_end s x y ≡ y
unfolding operation_line keyword named literal peek
a-line [] l t x y e = never l t e
a-line (b ∷ s) l t x y e = refl

module _ (y : Year) (n : ℕ) (ops : List Entry) where
  pub step_end : (room : ℕ) → operation_lines y n room ops [] ≡ ended y n ops
  unfolding operation_lines
  step_end zero = refl
  step_end (suc room) = refl

  module _ (s : List ℕ) where
    pub step-bad : (room : ℕ) → (s ≡ [] → ⊥) → operation_line s ≡ bad → operation_lines y n room ops s ≡ refused (Malformed (length ops + 2))
    unfolding operation_lines
    step-bad zero h e = not-nil s _ _ h ∙ rw e
    step-bad (suc room) h e = not-nil s _ _ h ∙ rw e

    module _ (l : TextLine) (t : List ℕ) (e : operation_line s ≡ good l t) where
      pub step-full : operation_lines y n zero ops s ≡ refused (TooManyLines (length ops + 2))
      unfolding operation_lines
      step-full = a-line s l t _ _ e ∙ rw e

      pub step-fault : (room : ℕ) (r : Refusal) → checked_of (length ops + 2) (n + length ops) l ≡ Err r
          → operation_lines y n (suc room) ops s ≡ refused r
      unfolding operation_lines
      step-fault room r q = a-line s l t _ _ e ∙ rw (e, q)

      pub step-fine : (room : ℕ) (o : Op) → checked_of (length ops + 2) (n + length ops) l ≡ Ok o
          → operation_lines y n (suc room) ops s ≡ operation_lines y n room (ops ++ (record { op = o } ∷ [])) t
      unfolding operation_lines
      step-fine room o q = a-line s l t _ _ e ∙ rw (e, q)
