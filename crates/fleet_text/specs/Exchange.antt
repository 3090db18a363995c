-- 02, request 11: "Swapping the two references of any `add` or `mul` changes no field of any result, and no number or place of a refusal", of what the program
-- `fleet` prints. Proved in proofs/Exchange.antt.
use Rattle.std.specs.Prelude.{List, ◌≡◌, ℕ}
use Rattle.codelist.specs.Exchange.{ExchangedText}
use Rattle.fleet_text.specs.Input.{sheet_in, boats_in}
use Rattle.fleet_text.specs.Answer.{answer_of}

-- Two inputs with the same boats, whose sheets differ in swapped references alone
pub record ExchangedFleet (s t : List ℕ) : Type 0 where
  pub sheet : ExchangedText (sheet_in s) (sheet_in t)
  pub boats : boats_in s ≡ boats_in t

abbrev pub ExchangePrinted : Type 0
ExchangePrinted = (s t : List ℕ) → ExchangedFleet s t → answer_of s ≡ answer_of t
