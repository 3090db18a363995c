-- 02, request 11: "Swapping the two references of any `add` or `mul` changes no field of any result, and no number or place of a refusal", of what the program
-- `rate` prints. Proved in proofs/Exchange.antt.
use Rattle.std.specs.Prelude.{List, ◌≡◌, ℕ, length}
use Rattle.codelist.specs.Exchange.{ExchangedText}
use Rattle.text.specs.Input.{box, sheet_of, after_line}
use Rattle.text.specs.Answer.{answer_of}

-- Two inputs of one length, whose sheets differ in swapped references alone and are followed by the same
pub record ExchangedInput (s t : List ℕ) : Type 0 where
  pub long : length s ≡ length t
  pub sheet : ExchangedText (sheet_of box s) (sheet_of box t)
  pub rest : after_line box s ≡ after_line box t

abbrev pub ExchangePrinted : Type 0
ExchangePrinted = (s t : List ℕ) → ExchangedInput s t → answer_of s ≡ answer_of t
