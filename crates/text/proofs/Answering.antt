-- The parts of the answer: what the calls of the code gave, put together.
use Prim.Native.Nat.{ℕ, ◌≤◌, ◌<◌}
use mathlib.Core.List.{List, []}
use mathlib.Core.Option.{Option, none, some}
use mathlib.Core.Path.{◌≡◌, refl, sym, ap, ◌∙◌}
use native.Mathlib.Omega.{arith}
use lib.IntN.{ℤ}
use lib.ListN.{length}
use borrow.Author.Tests.{le-leb, lt-leb}
use Rattle.std.specs.Prelude.{Ok, Err}
use Rattle.codelist.specs.Load as Load
use Rattle.codelist.specs.InFull as outcome
use Rattle.codelist.specs.declared.Codelist.{Codelist}
use Rattle.codelist.specs.declared.Refusal.TheVariants.{TooLong}
use Rattle.codelist.specs.Codelist.{WellFormed}
use Rattle.codelist.proofs.Accepted.{accepted-well-formed}
use Rattle.rules.specs.declared.Limits.{Limits}
use Rattle.rules.specs.declared.Refusal.TheVariants.{RangeCount}
use Rattle.engine.specs.declared.Engine.{Engine}
use Rattle.engine.specs.InFull.{Accepted}
use Rattle.engine.specs.InFull.{Rating}
use Rattle.engine.specs.declared.Refusal as refusal
use Rattle.engine.specs.declared.Refusal.{Refusal}
use Rattle.engine.specs.Engine as engine
use Rattle.engine.specs.Engine.{empty_engine, loaded_of, rated_of}
use Rattle.text.specs.Input.{box, sheet_of, after_line, box_lines}
use Rattle.text.specs.Output.{limits_text, refusal_text}
use Rattle.text.specs.Answer.{answer_of, rating_text, rated_text, loading_text}

pub too_long : (s : List ℕ) → 8192 < length s → refusal_text (refusal.TheVariants.Load TooLong) ≡ answer_of s
unfolding answer_of
too_long s h = simp (lt-leb (length s) 8192 h)

-- an accepted codelist has at most eight factors
pub few-factors : (o : Engine) (t : List ℕ) → (loaded_of o t).outcome ≡ Accepted → (loaded_of o t).engine.codelist.factors ≤ 8
unfolding loaded_of
few-factors o t a = let c = Load.load_of t in go c.outcome c.codelist (accepted-well-formed t) a
  where
    go : (x : outcome.Outcome) (c : Codelist) → (x ≡ outcome.Accepted → WellFormed c)
        → (engine.loaded o x c).outcome ≡ Accepted → (engine.loaded o x c).engine.codelist.factors ≤ 8
    go outcome.Accepted c w h = (w refl).factors.1
    go (outcome.Refused r) c w h = absurd (let z : ◌≡◌ {A = ℕ} 0 1 = cc h in omega arith)

-- What the code's calls gave of the input s, which is not too long: the engine after the loading of the sheet
module _ (s : List ℕ) (h : length s ≤ 8192) (e : Engine) where
  answered : answer_of s ≡ loading_text (loaded_of empty_engine (sheet_of box s)) (after_line box s)
  unfolding answer_of
  answered = simp (le-leb (length s) 8192 h)

  pub not-loaded : (r : Refusal) → engine.loading_in_full (Err r) e ≡ loaded_of empty_engine (sheet_of box s) → refusal_text r ≡ answer_of s
  not-loaded r l = sym (answered ∙ rw (← l))

  module _ (l : engine.loading_in_full (Ok tt) e ≡ loaded_of empty_engine (sheet_of box s)) where
    loaded : (b : Option (List ℤ)) → b ≡ box_lines 8 [] (after_line box s) → rated_text e b ≡ answer_of s
    loaded b q = sym (answered ∙ rw (← l, ← q))

    pub not-read : none ≡ box_lines 8 [] (after_line box s) → refusal_text (refusal.TheVariants.Rate RangeCount) ≡ answer_of s
    not-read q = loaded none q

    pub not-rated : (xs : List ℤ) (r : Refusal) → some xs ≡ box_lines 8 [] (after_line box s) → engine.in_full (Err r) ≡ rated_of e xs
        → refusal_text r ≡ answer_of s
    not-rated xs r q x = ap (λ (y : Rating). rating_text e.codelist.factors y) x ∙ loaded (some xs) q

    pub rated : (xs : List ℤ) (k : Limits) → some xs ≡ box_lines 8 [] (after_line box s) → engine.in_full (Ok k) ≡ rated_of e xs
        → limits_text e.codelist.factors k ≡ answer_of s
    rated xs k q x = ap (λ (y : Rating). rating_text e.codelist.factors y) x ∙ loaded (some xs) q
