-- A number's sign, and its text by sign and magnitude. Assumes nothing.
use Prim.Native.Nat.{ℕ, suc, ◌^◌, ◌<◌}
use mathlib.Core.Bool.{true, false, true≢false}
use mathlib.Core.List.{List, ◌∷◌}
use mathlib.Core.Path.{◌≡◌, refl, ap}
use native.Mathlib.Omega.{arith}
use lib.IntN.{ℤ, pos, negsuc, nat_abs}
use lib.Signed.{lt_z}
use borrow.Author.Tests.{ltb-true}
use Rattle.codelist.specs.Text.{decimal, numeral_text}
use Rattle.codelist.specs.Write.{plain, numeral_of}
use Rattle.writer.specs.Texts.{natural_text, whole_text}
use Rattle.writer.proofs.Digits.{decimal-few}

pub not-below : {A : Type 0} (n : ℕ) → lt_z (pos n) (pos 0) ≡ true → A
not-below n h = absurd (omega (arith, ltb-true n 0 h))

pub not-above : {A : Type 0} (n : ℕ) → lt_z (negsuc n) (pos 0) ≡ false → A
not-above n h = absurd (true≢false h)

pub below-text : (x : ℤ) → lt_z x (pos 0) ≡ true → 45 ∷ decimal 19 (nat_abs x) ≡ whole_text x
below-text (pos n) h = not-below n h
below-text (negsuc n) h = refl

pub above-text : (x : ℤ) → lt_z x (pos 0) ≡ false → decimal 19 (nat_abs x) ≡ whole_text x
above-text (pos n) h = refl
above-text (negsuc n) h = not-above n h

-- below 10 ^ 10 it is the sheet's numeral
pub whole-numeral : (x : ℤ) → nat_abs x < 10 ^ 10 → whole_text x ≡ numeral_text (numeral_of x)
unfolding numeral_text numeral_of
whole-numeral (pos n) h = decimal-few n h
whole-numeral (negsuc n) h = ap (λ (l : List ℕ). 45 ∷ l) (decimal-few (suc n) h)

pub natural-numeral : (m : ℕ) → m < 10 ^ 10 → natural_text m ≡ numeral_text (plain m)
unfolding numeral_text
natural-numeral m h = decimal-few m h
