-- 02, request 11: "Swapping the two references of any `add` or `mul` changes no field of any result, and no number or place of a refusal", of what the program
-- `cut` prints. Proved in proofs/Exchange.antt.
use Rattle.std.specs.Prelude.{List, ◌≡◌, ℕ, length}
use Rattle.text.specs.Exchange.{ExchangedInput}
use Rattle.cut_text.specs.Input.{depth_in, after_first}
use Rattle.cut_text.specs.Answer.{answer_of}

-- Two inputs of one length and with one depth, whose sheets differ in swapped references alone and are followed by the same
pub record ExchangedCut (s t : List ℕ) : Type 0 where
  pub long : length s ≡ length t
  pub depth : depth_in s ≡ depth_in t
  pub input : ExchangedInput (after_first s) (after_first t)

abbrev pub ExchangePrinted : Type 0
ExchangePrinted = (s t : List ℕ) → ExchangedCut s t → answer_of s ≡ answer_of t
