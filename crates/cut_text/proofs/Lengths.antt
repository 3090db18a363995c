-- No output has more than 1,024 bytes. Assumes nothing.
use Prim.Native.Nat.{ℕ, ◌≤◌}
use mathlib.Core.Bool.{Bool, true, false, cond}
use mathlib.Core.List.{List, []}
use mathlib.Core.Option.{Option, none, some}
use mathlib.Core.Path.{◌≡◌}
use native.Mathlib.Omega.{arith}
use lib.Dec.{leb}
use lib.IntN.{ℤ}
use lib.ListN.{length, take}
use Rattle.codelist.specs.declared.Refusal.TheVariants.{TooLong}
use Rattle.engine.specs.declared.Engine.{Engine}
use Rattle.engine.specs.declared.Refusal.TheVariants.{Load}
use Rattle.engine.specs.Engine.{empty_engine, loaded_of}
use Rattle.engine.proofs.Demands.{demands}
use Rattle.writer.proofs.Lengths.{refused-length}
use Rattle.text.specs.Input.{box, sheet_of, after_line, box_lines}
use Rattle.text.specs.Output as text
use Rattle.text.specs.Answer.{written}
use Rattle.text.proofs.Lengths as Text
use Rattle.bisection.specs.InFull.{Outcome}
use Rattle.bisection.specs.InFull.{Accepted, Refused}
use Rattle.bisection.specs.declared.Refusal.{Refusal}
use Rattle.bisection.specs.Cut.{number_of, place_of, cut_of}
use Rattle.cut_text.specs.Input.{depth_in, after_first}
use Rattle.cut_text.specs.Output.{refusal_text, unless_refused}
use Rattle.cut_text.specs.Answer.{unreadable, cut_text, rest_text, answer_of}

refusal-length : (r : Refusal) → length (refusal_text r) ≤ 1024
unfolding refusal_text
refusal-length r = omega (arith, refused-length (number_of r) (place_of r))

unless-length : (o : Outcome) (t : List ℕ) → length t ≤ 1024 → length (unless_refused o t) ≤ 1024
unless-length Accepted t h = h
unless-length (Refused r) t h = refusal-length r

cut-length : (e : Engine) (d : ℤ) (xs : Option (List ℤ)) → e.codelist.factors ≤ 8 → length (cut_text e d xs) ≤ 1024
cut-length e d (some xs) h = let b = cut_of e xs d in unless-length b.outcome _ (Text.limits-length e.codelist.factors b.limits h)
cut-length e d none h = refusal-length (unreadable d)

rest-length : (d : ℤ) (s : List ℕ) → length (rest_text d s) ≤ 1024
rest-length d s =
    let l = loaded_of empty_engine (sheet_of box s) in
    Text.unless-length l.outcome _
    (λ a. cut-length l.engine d (box_lines 8 [] (after_line box s)) (demands.loaded-written empty_engine (sheet_of box s) a).0.factors.1)

answer-length : (s : List ℕ) → length (answer_of s) ≤ 1024
unfolding answer_of
answer-length s = go (leb (length s) 8192)
  where
    go : (b : Bool) → length (cond b (rest_text (depth_in s) (after_first s)) (text.refusal_text (Load TooLong))) ≤ 1024
    go true = rest-length (depth_in s) (after_first s)
    go false = Text.refusal-length (Load TooLong)

-- so nothing is cut off
pub answer-whole : (s : List ℕ) → take (written (answer_of s)).len (written (answer_of s)).bytes ≡ answer_of s
answer-whole s = Text.written-whole (answer_of s) (answer-length s)
