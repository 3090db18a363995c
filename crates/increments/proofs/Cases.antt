-- The four cases of a call for two boats, and the answer in each: `case`. Assumes nothing.
use mathlib.Core.Path.{◌≡◌, refl, sym, ◌∙◌}
use mathlib.Core.Bool.{Bool, true, false}
use mathlib.Core.List.{List}
use mathlib.Core.Logic.{◌⊎◌, inl, inr}
use Prim.Native.Nat.{ℕ, suc, ◌*◌, ◌<◌}
use native.Mathlib.Omega.{arith}
use lib.Dec.{eqb}
use lib.IntN.{ℤ}
use lib.ListN.{length}
use borrow.Author.Tests.{eqb-true, eqb-false}
use Rattle.rules.specs.declared.Refusal as rules
use Rattle.rules.specs.declared.Refusal.TheVariants.{RangeCount, BadRange}
use Rattle.rules.specs.Rate.{pairs}
use Rattle.engine.specs.declared.Engine.{Engine}
use Rattle.engine.specs.InFull.{Accepted, Refused}
use Rattle.engine.specs.declared.Refusal.{Refusal}
use Rattle.engine.specs.declared.Refusal.TheVariants.{Rate}
use Rattle.engine.specs.Engine.{rated_of}
use Rattle.engine.proofs.Demands.{demands, rate-own}
use Rattle.increments.specs.Call.{first_outside, difference_of, refused_with, sisters_of}
use Rattle.increments.proofs.Outside.{both_in, Found, none, lowest, found, none-outside}
use Rattle.increments.proofs.Answers.{another-count, boat-outside, boats-inside, class-rated, class-refused}

module _ (e : Engine) (xs bs : List ℤ) where
  -- whether both boats are in the range of the factor a
  abbrev pub Both : ℕ → Bool → Type 0
  Both a b = both_in e.codelist.factors (pairs xs) bs a ≡ b

  -- ---- the answers
  pub refused-unrated : (r : Refusal) → (rated_of e xs).outcome ≡ Refused r → sisters_of e xs bs ≡ refused_with r
  refused-unrated r h = sym (class-refused e xs bs r h)

  module _ (h : (rated_of e xs).outcome ≡ Accepted) where
    pub refused-count : ¬ (length bs ≡ 2 * e.codelist.factors) → sisters_of e xs bs ≡ refused_with (Rate RangeCount)
    refused-count f = sym (another-count _ _ _ bs f ∙ class-rated e xs bs h)

    module _ (m : length bs ≡ 2 * e.codelist.factors) where
      pub refused-outside : (k : ℕ) → k ≡ first_outside e.codelist.factors (pairs xs) bs → ¬ (k ≡ 0)
          → sisters_of e xs bs ≡ refused_with (Rate (BadRange k))
      refused-outside k p f = sym (boat-outside _ _ _ bs m k p f ∙ class-rated e xs bs h)

      pub accepted-inside : ((a : ℕ) → a < e.codelist.factors → Both a true)
          → sisters_of e xs bs ≡ difference_of e.codelist.factors (rated_of e xs).limits.gradient bs
      accepted-inside f = sym (boats-inside _ _ _ bs m (sym (none-outside _ _ bs f)) ∙ class-rated e xs bs h)

  -- ---- the cases
  pub data Case : Type 0 where
    unrated : (r : rules.Refusal) → (rated_of e xs).outcome ≡ Refused (Rate r) → sisters_of e xs bs ≡ refused_with (Rate r) → Case
    miscounted : (rated_of e xs).outcome ≡ Accepted → ¬ (length bs ≡ 2 * e.codelist.factors)
        → sisters_of e xs bs ≡ refused_with (Rate RangeCount) → Case
    one_outside : (rated_of e xs).outcome ≡ Accepted → length bs ≡ 2 * e.codelist.factors
        → (i : ℕ) → i < e.codelist.factors → Both i false → ((j : ℕ) → j < i → Both j true)
        → sisters_of e xs bs ≡ refused_with (Rate (BadRange (suc i))) → Case
    both-inside : (rated_of e xs).outcome ≡ Accepted → length bs ≡ 2 * e.codelist.factors
        → ((a : ℕ) → a < e.codelist.factors → Both a true)
        → sisters_of e xs bs ≡ difference_of e.codelist.factors (rated_of e xs).limits.gradient bs → Case

  pub case : Case
  case = rated (demands.rate-decided e xs)
    where
      searched : (rated_of e xs).outcome ≡ Accepted → length bs ≡ 2 * e.codelist.factors
          → {k : ℕ} → Found e.codelist.factors (pairs xs) bs 0 e.codelist.factors k
          → k ≡ first_outside e.codelist.factors (pairs xs) bs → Case
      searched h m (none f) p =
          let g : (a : ℕ) → a < e.codelist.factors → Both a true = λ a l. f a (omega arith) (omega arith) in
          both-inside h m g (accepted-inside h m g)
      searched h m (lowest i l k o f) p =
          one_outside h m i (omega arith) o (λ j q. f j (omega arith) q) (refused-outside h m (suc i) p (λ z. omega (arith, z)))

      counted : (rated_of e xs).outcome ≡ Accepted → (b : Bool) → eqb (length bs) (2 * e.codelist.factors) ≡ b → Case
      counted h false m = let f = eqb-false (length bs) (2 * e.codelist.factors) m in miscounted h f (refused-count h f)
      counted h true m = searched h (eqb-true (length bs) (2 * e.codelist.factors) m) (found _ _ bs) refl

      rated : ((rated_of e xs).outcome ≡ Accepted) ⊎ ((r : Refusal) × ((rated_of e xs).outcome ≡ Refused r)) → Case
      rated (inl h) = counted h (eqb (length bs) (2 * e.codelist.factors)) refl
      rated (inr w) =
          let own = rate-own e xs w.0 w.1 in
          let h = rw own.1 at w.1 in
          unrated own.0 h (refused-unrated (Rate own.0) h)
