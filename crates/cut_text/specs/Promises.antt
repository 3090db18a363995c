-- What is promised of the program `cut`: proved in proofs/Promises.antt. That `answer` gives `answer_of` is its contract's to say, and what the limits are
-- is `CutSound`'s.
use Rattle.std.specs.Prelude.{◌≡◌, List, ◌∷◌, [], ◌++◌, ℕ, ◌≤◌, ℤ, length, take}
use Rattle.rules.specs.declared.Limits.{Limits}
use Rattle.engine.specs.declared.Engine.{Engine}
use Rattle.engine.specs.InFull.{Outcome}
use Rattle.engine.specs.InFull.{Accepted, Refused}
use Rattle.engine.specs.declared.Refusal.{Refusal}
use Rattle.engine.specs.Engine.{empty_engine, loaded_of}
use Rattle.writer.specs.Texts.{refused_text}
use Rattle.text.specs.Input.{box, sheet_of}
use Rattle.text.specs.Output as text
use Rattle.text.specs.Answer as rate
use Rattle.text.specs.Answer.{written}
use Rattle.text.specs.Faithful.{Same}
use Rattle.bisection.specs.InFull as bisected
use Rattle.bisection.specs.declared.Refusal as bisection
use Rattle.bisection.specs.Cut.{cut_of}
use Rattle.bisection.specs.Promises.{IsDepth}
use Rattle.cut_text.specs.Input.{depth→, depth_in, after_first}
use Rattle.cut_text.specs.Output.{refusal_text, bisected_text}
use Rattle.cut_text.specs.Answer.{answer_of}

-- the sheet of the text s, which follows its first line, is loaded with this outcome, into this engine
abbrev pub loads : List ℕ → Outcome
loads s = (loaded_of empty_engine (sheet_of box (after_first s))).outcome

abbrev pub engine_of : List ℕ → Engine
engine_of s = (loaded_of empty_engine (sheet_of box (after_first s))).engine

-- the first line of depth 0
abbrev pub depth→0 : List ℕ
depth→0 = depth→ ++ (48 ∷ 10 ∷ [])

pub record CutPrints : Type 0 where
  -- loading's refusals come first, their places counted from the line after the first
  pub refused : (s : List ℕ) (r : Refusal) → length s ≤ 8192 → loads s ≡ Refused r → answer_of s ≡ text.refusal_text r
  -- then 16 at 0, whatever the box lines are
  pub no-depth : (s : List ℕ) → length s ≤ 8192 → loads s ≡ Accepted → ¬ (IsDepth (depth_in s)) → answer_of s ≡ refused_text 16 0
  -- at depth 0 it prints what `rate` prints
  pub depth-zero : (s : List ℕ) → length s ≤ 8184 → answer_of (depth→0 ++ s) ≡ rate.answer_of s
  -- the first `len` bytes of what `answer` gives, which the program writes, are the whole output
  pub whole : (s : List ℕ) → take (written (answer_of s)).len (written (answer_of s)).bytes ≡ answer_of s
  -- accepted answers for the same number of factors that print alike are the same
  pub determined : (e f : Engine) (xs ys : List ℤ) (d g : ℤ) → (cut_of e xs d).outcome ≡ bisected.Accepted
      → (cut_of f ys g).outcome ≡ bisected.Accepted → e.codelist.factors ≡ f.codelist.factors
      → bisected_text e.codelist.factors (cut_of e xs d) ≡ bisected_text f.codelist.factors (cut_of f ys g)
      → Same e.codelist.factors (cut_of e xs d).limits (cut_of f ys g).limits
  -- a refusal never prints as a result
  pub apart : (n : ℕ) (l : Limits) (r : bisection.Refusal) → text.limits_text n l ≡ refusal_text r → ⊥
  -- the program reads 8,193 bytes at most: what follows them changes nothing
  pub reads-enough : (s : List ℕ) → answer_of (take 8193 s) ≡ answer_of s
