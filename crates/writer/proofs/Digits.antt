-- The digits of a number: the last one, and those before it.
use Prim.Native.Nat.{ℕ, suc, zero, ◌+◌, ◌/◌, ◌%◌, ◌^◌, ◌≤◌, ◌<◌}
use mathlib.Core.List.{[], ◌∷◌, ◌++◌}
use mathlib.Core.Path.{◌≡◌, refl, sym, ◌∙◌}
use native.Mathlib.Nat.{add-suc, lt_of_lt_of_le, pow-le-pow_right}
use native.Mathlib.Omega.{arith}
use lib.Dec.{lit<}
use borrow.Author.Tests.{lt-ltb, le-ltb}
use Rattle.codelist.specs.Text.{decimal}
use Rattle.codelist.proofs.NumeralTexts.{decimal-room}
use Rattle.writer.specs.Texts.{natural_text}

-- One digit is its byte
pub decimal_digit : (k m : ℕ) → m < 10 → decimal k m ≡ (48 + m) ∷ []
unfolding decimal
decimal_digit zero m h = refl
decimal_digit (suc k) m h = simp (lt-ltb m 10 h)

-- More than one: the last is that of the remainder
decimal-more : (k m : ℕ) → 10 ≤ m → decimal (suc k) m ≡ decimal k (m / 10) ++ ((48 + m % 10) ∷ [])
unfolding decimal
decimal-more k m h = simp (le-ltb m 10 h)

-- Where the number has at most k + 1 digits, room for more changes nothing: numbers of 64 bits are written as a sheet's are
decimal-more-room : (k j m : ℕ) → m < 10 ^ suc k → decimal (k + j) m ≡ decimal k m
decimal-more-room k zero m h = let a : k + 0 ≡ k = omega arith in rw a
decimal-more-room k (suc j) m h = rw (add-suc k j) (decimal-room (k + j) m (lt_of_lt_of_le h more) ∙ decimal-more-room k j m h)
  where
    more : 10 ^ suc k ≤ 10 ^ suc (k + j)
    more = pow-le-pow_right {n = 10} (lit< tt) {i = suc k} {j = suc (k + j)} (omega arith)

pub decimal-few : (m : ℕ) → m < 10 ^ 10 → decimal 19 m ≡ decimal 9 m
decimal-few m h = decimal-more-room 9 10 m h

-- A number of 64 bits is its last digit after what is left of it, where there is more than one
pub natural-more : (m : ℕ) → 10 ≤ m → m < 2 ^ 64 → natural_text m ≡ natural_text (m / 10) ++ ((48 + m % 10) ∷ [])
natural-more m h f = sym (decimal-room 19 m (omega arith)) ∙ decimal-more 19 m h

pub natural-few : (m : ℕ) → m < 10 → natural_text m ≡ (48 + m % 10) ∷ []
natural-few m h = let e : m % 10 ≡ m = omega arith in rw e (decimal_digit 19 m h)
