-- What is promised of the program `fleet`: proved in proofs/Promises.antt. That `answer` gives `answer_of` is its contract's to say, and what the
-- figures are is `FleetFigures`'s.
use Rattle.std.specs.Prelude.{◌≡◌, List, ℕ, ◌≤◌, ℤ, length, take}
use Rattle.std.proofs.Math.Option.{none, some}
use Rattle.engine.specs.declared.Engine.{Engine}
use Rattle.engine.specs.InFull.{Outcome}
use Rattle.engine.specs.InFull.{Accepted, Refused}
use Rattle.engine.specs.declared.Refusal.{Refusal}
use Rattle.engine.specs.Engine.{empty_engine, loaded_of}
use Rattle.writer.specs.Texts.{refused_text}
use Rattle.text.specs.Answer.{written}
use Rattle.text.specs.Output as text
use Rattle.boats.specs.Report.{report_of}
use Rattle.boats.specs.Promises.{Eights}
use Rattle.fleet_text.specs.Input.{sheet_in, boats_in}
use Rattle.fleet_text.specs.Output.{report_text}
use Rattle.fleet_text.specs.Answer.{answer_of}

-- the sheet of the text s is loaded with this outcome, into this engine
abbrev pub loads : List ℕ → Outcome
loads s = (loaded_of empty_engine (sheet_in s)).outcome

abbrev pub engine_of : List ℕ → Engine
engine_of s = (loaded_of empty_engine (sheet_in s)).engine

-- a page of these boats is printed: each has eight numbers, so that every one is counted (`FleetFigures.counts`), and they are few enough
pub record Printed (s : List ℕ) (bs : List (List ℤ)) : Type 0 where
  pub eights : Eights bs
  pub few : length bs ≤ 1000
  pub text : answer_of s ≡ report_text (length bs) (report_of (engine_of s) bs)

pub record FleetPrints : Type 0 where
  -- loading's refusals come first
  pub refused : (s : List ℕ) (r : Refusal) → loads s ≡ Refused r → answer_of s ≡ text.refusal_text r
  -- then 14 at 0, where the boats are not to be had
  pub no-boats : (s : List ℕ) → loads s ≡ Accepted → boats_in s ≡ none → answer_of s ≡ refused_text 14 0
  -- and else the report: no other refusal is printed
  pub reported : (s : List ℕ) (bs : List (List ℤ)) → loads s ≡ Accepted → boats_in s ≡ some bs → Printed s bs
  -- the first `len` bytes of what `answer` gives, which the program writes, are the whole output
  pub whole : (s : List ℕ) → take (written (answer_of s)).len (written (answer_of s)).bytes ≡ answer_of s
  -- the program reads 102,401 bytes at most: what follows them changes nothing
  pub reads-enough : (s : List ℕ) → answer_of (take 102401 s) ≡ answer_of s
