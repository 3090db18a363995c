-- What the output tells: nothing of it is cut off, and what is printed of a result determines it. Statements; the proof is in
-- proofs/Faithful.antt.
use Rattle.std.specs.Prelude.{List, ◌≡◌, ℕ, ◌<◌, ℤ, take}
use Rattle.range.specs.Sums.{has, at}
use Rattle.rules.specs.declared.Limits.{Limits}
use Rattle.engine.specs.declared.Engine.{Engine}
use Rattle.engine.specs.InFull.{Accepted}
use Rattle.engine.specs.declared.Refusal.{Refusal}
use Rattle.engine.specs.Engine.{rated_of}
use Rattle.text.specs.Output.{limits_text, refusal_text}
use Rattle.text.specs.Answer.{answer_of, written, rating_text}

-- Results for n factors are the same in every field that is printed; of a set, which of the eight factors are in it
pub record Same (n : ℕ) (k l : Limits) : Type 0 where
  pub value : k.value ≡ l.value
  pub gradient : (a : ℕ) → a < n → at k.gradient a ≡ at l.gradient a
  pub support : (a : ℕ) → a < 8 → has k.support a ≡ has l.support a
  pub nonlinear : (a : ℕ) → a < 8 → has k.nonlinear a ≡ has l.nonlinear a
  pub spectrum : k.spectrum ≡ l.spectrum
  pub full : k.full ≡ l.full

pub record Faithful : Type 0 where
  -- the first `len` bytes of what `answer` gives, which the program writes, are the whole output
  pub whole : (s : List ℕ) → take (written (answer_of s)).len (written (answer_of s)).bytes ≡ answer_of s
  -- accepted results for the same number of factors that print alike are the same
  pub determined : (e f : Engine) (xs ys : List ℤ) → (rated_of e xs).outcome ≡ Accepted → (rated_of f ys).outcome ≡ Accepted
      → e.codelist.factors ≡ f.codelist.factors
      → rating_text e.codelist.factors (rated_of e xs) ≡ rating_text f.codelist.factors (rated_of f ys)
      → Same e.codelist.factors (rated_of e xs).limits (rated_of f ys).limits
  -- a refusal never prints as a result
  pub apart : (n : ℕ) (l : Limits) (r : Refusal) → limits_text n l ≡ refusal_text r → ⊥
