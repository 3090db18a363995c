-- No output has more than 1,024 bytes. Assumes nothing.
use Prim.Native.Nat.{ℕ, ◌≤◌}
use mathlib.Core.Bool.{Bool, true, false, cond}
use mathlib.Core.List.{List, []}
use mathlib.Core.Option.{Option, none, some}
use mathlib.Core.Path.{◌≡◌}
use native.Mathlib.Omega.{arith}
use lib.Dec.{leb}
use lib.IntN.{ℤ}
use lib.ListN.{length, take}
use Rattle.codelist.specs.declared.Refusal.TheVariants.{TooLong}
use Rattle.range.specs.Limit.{from_to}
use Rattle.engine.specs.declared.Engine.{Engine}
use Rattle.engine.specs.declared.Refusal.TheVariants.{Load}
use Rattle.engine.specs.Engine.{empty_engine, loaded_of}
use Rattle.text.specs.Input.{box, sheet_of, after_line, box_lines}
use Rattle.text.specs.Output.{refusal_text}
use Rattle.text.specs.Answer.{written}
use Rattle.text.proofs.Lengths.{range_length, refusal-length, unless-length, written-whole}
use Rattle.increments.specs.Call.{sisters_of}
use Rattle.sisters_text.specs.Input.{boats, boats_in}
use Rattle.sisters_text.specs.Answer.{sisters_text, parts_text, answer_of}

sisters-length : (e : Engine) (xs : Option (List ℤ)) (bs : List ℤ) → length (sisters_text e xs bs) ≤ 1024
sisters-length e (some xs) bs =
    let d = sisters_of e xs bs in
    unless-length d.outcome _ (λ a. omega (arith, range_length (from_to d.low d.high)))
sisters-length e none bs = refusal-length _

parts-length : (s t : List ℕ) → length (parts_text s t) ≤ 1024
parts-length s t =
    let l = loaded_of empty_engine (sheet_of box s) in
    unless-length l.outcome _ (λ a. sisters-length l.engine (box_lines 8 [] (after_line box s)) (boats_in l.engine.codelist.factors t))

answer-length : (s : List ℕ) → length (answer_of s) ≤ 1024
unfolding answer_of
answer-length s = go (leb (length s) 8192) _ (parts-length (sheet_of boats s) (after_line boats s))
  where
    go : (b : Bool) (t : List ℕ) → length t ≤ 1024 → length (cond b t (refusal_text (Load TooLong))) ≤ 1024
    go true t h = h
    go false t h = refusal-length (Load TooLong)

-- so nothing is cut off
pub answer-whole : (s : List ℕ) → take (written (answer_of s)).len (written (answer_of s)).bytes ≡ answer_of s
answer-whole s = written-whole (answer_of s) (answer-length s)
