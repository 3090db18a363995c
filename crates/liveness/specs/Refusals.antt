-- What a call comes to, of the bytes s and a buffer of k bytes: 01's table of loading with a row more, and otherwise the text. 02, request 1.
use Rattle.std.specs.Prelude.{List, ◌≡◌, ℕ, ◌≤◌, ◌<◌, length}
use Rattle.codelist.specs.declared.Codelist.{Codelist}
use Rattle.codelist.specs.Load.{load_of, accepted}
use Rattle.codelist.specs.Write.{text_of}
use Rattle.engine.specs.Refusals.{LoadTable}
use Rattle.liveness.specs.InFull.{Outcome, Refused}
use Rattle.liveness.specs.declared.Refusal.{Refusal}
use Rattle.liveness.specs.Tidied.{tidied}
use Rattle.liveness.specs.Tidy.{number_of, place_of}

-- refused with a number at a place
pub record RefusedWith (o : Outcome) (number place : ℕ) : Type 0 where
  pub refusal : Refusal
  pub refused : o ≡ Refused refusal
  pub number_is : number_of refusal ≡ number
  pub place_is : place_of refusal ≡ place

-- the number and the place
pub data TidyTable (s : List ℕ) (k : ℕ) : ℕ → ℕ → Type 0 where
  -- 1 to 7, 15 and 17: the rows of loading
  loading : {number place : ℕ} → LoadTable s number place → TidyTable s k number place
  -- 13 | a buffer that is too short, "after all refusals of loading" | 0
  short : {c : Codelist} → load_of s ≡ accepted c → k < length (text_of (tidied c)) → TidyTable s k 13 0

-- n bytes are written: the sheet is accepted, and the text has so many and fits
pub record Wrote (s : List ℕ) (k n : ℕ) : Type 0 where
  pub codelist : Codelist
  pub loaded : load_of s ≡ accepted codelist
  pub long : length (text_of (tidied codelist)) ≡ n
  pub room : n ≤ k
