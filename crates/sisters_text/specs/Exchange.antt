-- 02, request 11: "Swapping the two references of any `add` or `mul` changes no field of any result, and no number or place of a refusal", of what the program
-- `sisters` prints. Proved in proofs/Exchange.antt.
use Rattle.std.specs.Prelude.{List, ◌≡◌, ℕ, length}
use Rattle.text.specs.Input.{sheet_of, after_line}
use Rattle.text.specs.Exchange.{ExchangedInput}
use Rattle.sisters_text.specs.Input.{boats}
use Rattle.sisters_text.specs.Answer.{answer_of}

-- Two inputs of one length with the same boat lines, whose sheets differ in swapped references alone and are followed by the same
pub record ExchangedSisters (s t : List ℕ) : Type 0 where
  pub long : length s ≡ length t
  pub input : ExchangedInput (sheet_of boats s) (sheet_of boats t)
  pub rest : after_line boats s ≡ after_line boats t

abbrev pub ExchangePrinted : Type 0
ExchangePrinted = (s t : List ℕ) → ExchangedSisters s t → answer_of s ≡ answer_of t
