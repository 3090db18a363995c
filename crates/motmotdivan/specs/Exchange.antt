-- 02, request 11: "Swapping the two references of any `add` or `mul` changes no field of any result, and no number or place of a refusal", of the two C
-- functions: of the bytes of one class, and of the desk. Statements; the proof is in proofs/Exchange.antt.
use Rattle.std.specs.Prelude.{◌≡◌, ℕ, true, List, length}
use Rattle.codelist.specs.Exchange.{Exchanged, ExchangedText}
use Rattle.encoding.specs.Decode.{lent_codelist}
use Rattle.classes.specs.Classes.{is_class}
use Rattle.motmotdivan.specs.Calls.{load_code, load_state, rate_code, rate_record}
use Rattle.motmotdivan.specs.Desk.{bytes_of, class_load_code, class_load_state, class_rate_code, class_rate_record}

-- Two desks of one length whose codelists differ in swapped references alone: two that hold none, and one beside itself, too
pub record ExchangedDesk (d f : List ℕ) : Type 0 where
  pub long : length d ≡ length f
  pub codelist : Exchanged (lent_codelist d) (lent_codelist f)

pub record ExchangeC : Type 0 where
  -- the same code, and such desks again
  pub load_code : (d f s t : List ℕ) → ExchangedDesk d f → ExchangedText s t → load_code d s ≡ load_code f t
  pub load-state : (d f s t : List ℕ) → ExchangedDesk d f → ExchangedText s t → ExchangedDesk (load_state d s) (load_state f t)
  -- the same code, and the same bytes of the result
  pub rate-code : (d f x r : List ℕ) → ExchangedDesk d f → rate_code d x r ≡ rate_code f x r
  pub rate-record : (d f x r : List ℕ) → ExchangedDesk d f → rate_record d x r ≡ rate_record f x r

-- Two desks of one length that are so in each class
pub record ExchangedDesks (d f : List ℕ) : Type 0 where
  pub long : length d ≡ length f
  pub each : (k : ℕ) → is_class k ≡ true → ExchangedDesk (bytes_of d k) (bytes_of f k)

-- the same of every class number
pub record ExchangeClasses : Type 0 where
  pub load_code : (k : ℕ) (d f s t : List ℕ) → ExchangedDesks d f → ExchangedText s t → class_load_code k d s ≡ class_load_code k f t
  pub load-state : (k : ℕ) (d f s t : List ℕ) → ExchangedDesks d f → ExchangedText s t → ExchangedDesks (class_load_state k d s) (class_load_state k f t)
  pub rate-code : (k : ℕ) (d f x r : List ℕ) → ExchangedDesks d f → class_rate_code k d x r ≡ class_rate_code k f x r
  pub rate-record : (k : ℕ) (d f x r : List ℕ) → ExchangedDesks d f → class_rate_record k d x r ≡ class_rate_record k f x r
