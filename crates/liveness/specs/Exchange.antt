-- 02, request 11: "Swapping the two references of any `add` or `mul` changes no field of any result, and no number or place of a refusal." Where a
-- sheet is tidied. A statement; the proof is in proofs/Exchange.antt.
use Rattle.std.specs.Prelude.{ℕ, List, ◌≡◌, length, take, drop}
use Rattle.codelist.specs.Exchange.{ExchangedText}
use Rattle.liveness.specs.InFull.{Written}
use Rattle.liveness.specs.Tidy.{tidy_of, buffer_of, answer_of}

pub record ExchangeTidy : Type 0 where
  -- the same answer: how many bytes were written, or the refusal, 13 among them
  pub answer : (s t : List ℕ) (k : ℕ) → ExchangedText s t → tidy_of s k ≡ tidy_of t k
  -- the two texts written differ in swapped references alone, and the bytes past them are the same
  pub written : (s t b : List ℕ) (n : ℕ) → ExchangedText s t → tidy_of s (length b) ≡ Written n
      → ExchangedText (take n (buffer_of s b)) (take n (buffer_of t b)) × (drop n (buffer_of s b) ≡ drop n (buffer_of t b))
  -- and so does what the program `tidy` prints
  pub printed : (s t : List ℕ) → ExchangedText s t → ExchangedText (answer_of s) (answer_of t)
