-- The program `rate` as a function of the bytes that it reads. 01, end of "Figures to hold it to".
use Rattle.std.specs.Prelude.{cond, List, [], ◌++◌, ℕ, ◌-◌, leb, ℤ, length, take, replicate}
use Rattle.std.proofs.Math.Option.{Option, none, some}
use Rattle.codelist.specs.declared.Refusal.TheVariants.{TooLong}
use Rattle.rules.specs.declared.Refusal.TheVariants.{RangeCount}
use Rattle.engine.specs.declared.Engine.{Engine}
use Rattle.engine.specs.InFull.{Loading}
use Rattle.engine.specs.InFull.{Outcome}
use Rattle.engine.specs.InFull.{Accepted, Refused}
use Rattle.engine.specs.InFull.{Rating}
use Rattle.engine.specs.declared.Refusal.TheVariants.{Load, Rate}
use Rattle.engine.specs.Engine.{empty_engine, loaded_of, rated_of}
use Rattle.text.specs.InFull.{Text}
use Rattle.text.specs.Input.{box, sheet_of, after_line, box_lines}
use Rattle.text.specs.Output.{limits_text, refusal_text}

-- A text where a call accepted, else the refusal's
abbrev pub unless_refused : Outcome → List ℕ → List ℕ
unless_refused Accepted t = t
unless_refused (Refused r) t = refusal_text r

-- the text of a rating for n factors
abbrev pub rating_text : ℕ → Rating → List ℕ
rating_text n r = unless_refused r.outcome (limits_text n r.limits)

-- "box lines of another form or number are refusal 8"
abbrev pub rated_text : Engine → Option (List ℤ) → List ℕ
rated_text e (some xs) = rating_text e.codelist.factors (rated_of e xs)
rated_text e none = refusal_text (Rate RangeCount)

-- what a loading leads to: its refusal comes before one of the box lines
abbrev pub loading_text : Loading → List ℕ → List ℕ
loading_text l s = unless_refused l.outcome (rated_text l.engine (box_lines 8 [] s))

-- THE OUTPUT. "Input over 8,192 bytes is refusal 1"
unfoldable pub answer_of : List ℕ → List ℕ
answer_of s =
    cond (leb (length s) 8192) (loading_text (loaded_of empty_engine (sheet_of box s)) (after_line box s)) (refusal_text (Load TooLong))

-- A text in an array of 1,024 bytes that it fills from the front, with zeros after it. No output is longer (Faithful: `whole`).
unfoldable pub written : List ℕ → Text
written t = record { bytes = take 1024 t ++ replicate (1024 - length t) 0; len = length (take 1024 t) }
