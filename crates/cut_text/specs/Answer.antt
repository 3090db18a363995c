-- The program `cut` as a function of the bytes that it reads.
use Rattle.std.specs.Prelude.{cond, List, [], ℕ, leb, ℤ, length}
use Rattle.std.proofs.Math.Option.{Option, none, some}
use Rattle.codelist.specs.declared.Refusal.TheVariants.{TooLong}
use Rattle.rules.specs.declared.Refusal.TheVariants.{RangeCount}
use Rattle.engine.specs.declared.Engine.{Engine}
use Rattle.engine.specs.InFull.{Loading}
use Rattle.engine.specs.declared.Refusal.TheVariants.{Load}
use Rattle.engine.specs.Engine.{empty_engine, loaded_of}
use Rattle.text.specs.Input.{box, sheet_of, after_line, box_lines}
use Rattle.text.specs.Output as text
use Rattle.text.specs.Answer as text-answer
use Rattle.bisection.specs.declared.Refusal.{Refusal}
use Rattle.bisection.specs.declared.Refusal.TheVariants.{Depth, Rate}
use Rattle.bisection.specs.Cut.{is_depth, cut_of}
use Rattle.cut_text.specs.Input.{depth_in, after_first}
use Rattle.cut_text.specs.Output.{refusal_text, bisected_text}

-- "box lines of another form or number are refusal 8" (01), after 16
abbrev pub unreadable : ℤ → Refusal
unreadable d = cond (is_depth d) (Rate RangeCount) Depth

abbrev pub cut_text : Engine → ℤ → Option (List ℤ) → List ℕ
cut_text e d (some xs) = bisected_text e.codelist.factors (cut_of e xs d)
cut_text e d none = refusal_text (unreadable d)

-- what a loading leads to: its refusal comes before 16, and before one of the box lines
abbrev pub loading_text : Loading → ℤ → List ℕ → List ℕ
loading_text l d s = text-answer.unless_refused l.outcome (cut_text l.engine d (box_lines 8 [] s))

-- what follows the first line, at the depth d
abbrev pub rest_text : ℤ → List ℕ → List ℕ
rest_text d s = loading_text (loaded_of empty_engine (sheet_of box s)) d (after_line box s)

-- THE OUTPUT. "Input over 8,192 bytes is refusal 1" (01), the first line included
unfoldable pub answer_of : List ℕ → List ℕ
answer_of s = cond (leb (length s) 8192) (rest_text (depth_in s) (after_first s)) (text.refusal_text (Load TooLong))
