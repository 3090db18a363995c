-- The program `sisters` as a function of the bytes that it reads.
use Rattle.std.specs.Prelude.{cond, List, [], ℕ, leb, ℤ, length}
use Rattle.std.proofs.Math.Option.{Option, none, some}
use Rattle.codelist.specs.declared.Refusal.TheVariants.{TooLong}
use Rattle.rules.specs.declared.Refusal.TheVariants.{RangeCount}
use Rattle.engine.specs.declared.Engine.{Engine}
use Rattle.engine.specs.InFull.{Loading}
use Rattle.engine.specs.declared.Refusal.TheVariants.{Load, Rate}
use Rattle.engine.specs.Engine.{empty_engine, loaded_of}
use Rattle.text.specs.Input.{box, sheet_of, after_line, box_lines}
use Rattle.text.specs.Output.{refusal_text}
use Rattle.text.specs.Answer.{unless_refused}
use Rattle.increments.specs.Call.{sisters_of}
use Rattle.sisters_text.specs.Input.{boats, boats_in}
use Rattle.sisters_text.specs.Output.{difference_text}

-- "box lines of another form or number are refusal 8" (01), before a refusal of the boats
abbrev pub sisters_text : Engine → Option (List ℤ) → List ℤ → List ℕ
sisters_text e (some xs) bs = difference_text (sisters_of e xs bs)
sisters_text e none bs = refusal_text (Rate RangeCount)

-- what a loading leads to, with the box lines s and the boat lines t: its refusal comes first
abbrev pub loading_text : Loading → List ℕ → List ℕ → List ℕ
loading_text l s t = unless_refused l.outcome (sisters_text l.engine (box_lines 8 [] s) (boats_in l.engine.codelist.factors t))

-- the parts of the input: `rate`'s input s, and the boat lines t
abbrev pub parts_text : List ℕ → List ℕ → List ℕ
parts_text s t = loading_text (loaded_of empty_engine (sheet_of box s)) (after_line box s) t

-- THE OUTPUT. "Input over 8,192 bytes is refusal 1" (01), the boat lines included
unfoldable pub answer_of : List ℕ → List ℕ
answer_of s = cond (leb (length s) 8192) (parts_text (sheet_of boats s) (after_line boats s)) (refusal_text (Load TooLong))
