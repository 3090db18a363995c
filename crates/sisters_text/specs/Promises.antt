-- What is promised of the program `sisters`: proved in proofs/Promises.antt. That `answer` gives `answer_of` is its contract's to say, and what the
-- difference is of the boats' premiums is said of the call (`increments`).
use Rattle.std.specs.Prelude.{◌≡◌, List, [], ℕ, ◌≤◌, ℤ, length, take}
use Rattle.std.proofs.Math.Option.{Option, some}
use Rattle.range.specs.declared.Range.{Range}
use Rattle.engine.specs.declared.Engine.{Engine}
use Rattle.engine.specs.InFull.{Outcome}
use Rattle.engine.specs.InFull.{Accepted, Refused}
use Rattle.engine.specs.declared.Refusal.{Refusal}
use Rattle.engine.specs.Engine.{empty_engine, loaded_of, rated_of}
use Rattle.writer.specs.Texts.{refused_text}
use Rattle.text.specs.Input.{box, sheet_of, after_line, box_lines}
use Rattle.text.specs.Output.{refusal_text}
use Rattle.text.specs.Answer as rate
use Rattle.text.specs.Answer.{written}
use Rattle.increments.specs.InFull.{Difference}
use Rattle.sisters_text.specs.Input.{boats, boats_in}
use Rattle.sisters_text.specs.Output.{difference_line, difference_text}
use Rattle.sisters_text.specs.Answer.{answer_of}

-- `rate`'s input in the text s: what stands before its line `boats`
abbrev pub class_in : List ℕ → List ℕ
class_in s = sheet_of boats s

-- its sheet is loaded with this outcome, into this engine
abbrev pub loads : List ℕ → Outcome
loads s = (loaded_of empty_engine (sheet_of box (class_in s))).outcome

abbrev pub engine_of : List ℕ → Engine
engine_of s = (loaded_of empty_engine (sheet_of box (class_in s))).engine

-- and its box lines have these numbers
abbrev pub boxes_in : List ℕ → Option (List ℤ)
boxes_in s = box_lines 8 [] (after_line box (class_in s))

pub record SistersPrints : Type 0 where
  -- loading's refusals come first
  pub refused : (s : List ℕ) (r : Refusal) → length s ≤ 8192 → loads s ≡ Refused r → answer_of s ≡ refusal_text r
  -- then the class's: what `rate` refuses of the part before the line `boats` is refused alike, whatever the boat lines are
  pub class : (s : List ℕ) (r : Refusal) → length s ≤ 8192 → rate.answer_of (class_in s) ≡ refusal_text r → answer_of s ≡ refusal_text r
  -- then the boats': of a class that is rated, boat lines of another form or number are refusal 8
  pub no-boats : (s : List ℕ) (xs : List ℤ) → length s ≤ 8192 → loads s ≡ Accepted → boxes_in s ≡ some xs → (rated_of (engine_of s) xs).outcome ≡ Accepted
      → boats_in (engine_of s).codelist.factors (after_line boats s) ≡ [] → answer_of s ≡ refused_text 8 0
  -- the first `len` bytes of what `answer` gives, which the program writes, are the whole output
  pub whole : (s : List ℕ) → take (written (answer_of s)).len (written (answer_of s)).bytes ≡ answer_of s
  -- accepted answers that print alike have the same low and high
  pub determined : (d e : Difference) → d.outcome ≡ Accepted → e.outcome ≡ Accepted → difference_text d ≡ difference_text e
      → (d.low ≡ e.low) × (d.high ≡ e.high)
  -- a difference never prints as a refusal
  pub apart : (x : Range) (r : Refusal) → difference_line x ≡ refusal_text r → ⊥
  -- the program reads 8,193 bytes at most: what follows them changes nothing
  pub reads-enough : (s : List ℕ) → answer_of (take 8193 s) ≡ answer_of s
