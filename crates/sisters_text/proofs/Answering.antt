-- The parts of the answer: what the calls of the code gave, put together. Assumes nothing.
use Prim.Native.Nat.{ℕ, ◌+◌, ◌≤◌, ◌<◌}
use mathlib.Core.Bool.{true}
use mathlib.Core.List.{List, []}
use mathlib.Core.Option.{Option, none, some}
use mathlib.Core.Path.{◌≡◌, refl, sym, ap, ◌∙◌}
use native.Mathlib.Omega.{arith}
use lib.IntN.{ℤ}
use lib.ListN.{length, take, drop}
use borrow.Author.Tests.{le-leb, lt-leb}
use Rattle.codelist.specs.declared.Refusal.TheVariants.{TooLong}
use Rattle.std.specs.Prelude.{Result, Ok, Err}
use Rattle.range.specs.declared.Range.{Range}
use Rattle.rules.specs.declared.Refusal.TheVariants.{RangeCount}
use Rattle.engine.specs.declared.Engine.{Engine}
use Rattle.engine.specs.InFull.{Loading, Accepted, Refused}
use Rattle.engine.specs.declared.Refusal.{Refusal}
use Rattle.engine.specs.declared.Refusal.TheVariants.{Load, Rate}
use Rattle.engine.specs.Engine.{empty_engine, loaded_of, loading_in_full}
use Rattle.engine.proofs.Demands.{demands}
use Rattle.text.specs.Input.{box, sheet_length, sheet_of, after_line, box_lines}
use Rattle.text.specs.Output.{refusal_text}
use Rattle.increments.specs.Call.{sisters_of, in_full}
use Rattle.sisters_text.specs.Input.{boats, boats_in}
use Rattle.sisters_text.specs.Answer.{sisters_text, loading_text, parts_text, answer_of}
use Rattle.sisters_text.specs.Output.{difference_text}
use Rattle.sisters_text.specs.Views.{told}

pub too_long : (s : List ℕ) → 8192 < length s → refusal_text (Load TooLong) ≡ answer_of s
unfolding answer_of
too_long s h = simp (lt-leb (length s) 8192 h)

-- a loaded codelist has at most eight factors
pub few-factors : (e : Engine) (t : List ℕ) → loading_in_full (Ok tt) e ≡ loaded_of empty_engine t → e.codelist.factors ≤ 8
few-factors e t l = rw (ap (λ (x : Loading). x.engine.codelist.factors) l) (demands.loaded-written empty_engine t (ap (λ (x : Loading). x.outcome) (sym l))).0.factors.1

-- what is printed of the call's answer
as_told : (r : Result Range Refusal) → told r ≡ difference_text (in_full r)
as_told (Ok x) = refl
as_told (Err why) = refl

-- What calls gave of `rate`'s input s: where its sheet ends, an empty engine, and the loading of what stands before that end. The boat lines are t.
module _
    (s t : List ℕ) (end : ℕ) (p : end ≡ sheet_length box true s) (o : Engine) (n : o ≡ empty_engine)
    (l : Loading) (e : l ≡ loaded_of o (take end s)) where
  parted : parts_text s t ≡ loading_text l (drop (end + 4) s) t
  unfolding sheet_of after_line
  parted =
      let f : end + 3 + 1 ≡ end + 4 = omega arith in
      simp (← p, ← n, ← e, f)

  -- a loading that accepts leads to what the box lines and the boats give
  pub loaded : (xs : Option (List ℤ)) (bs : List ℤ) → l.outcome ≡ Accepted → xs ≡ box_lines 8 [] (drop (end + 4) s)
      → bs ≡ boats_in l.engine.codelist.factors t → sisters_text l.engine xs bs ≡ parts_text s t
  loaded xs bs a b c = rw (parted, a, b, c)

  -- and one that refuses gives its refusal
  pub not-loaded : (r : Refusal) → l.outcome ≡ Refused r → refusal_text r ≡ parts_text s t
  not-loaded r a = rw (parted, a)

-- What the code's calls gave of the text s, which is not too long: the engine after the loading of the class's sheet
module _ (s : List ℕ) (h : length s ≤ 8192) (e : Engine) where
  abbrev class : List ℕ
  class = sheet_of boats s

  answered : answer_of s ≡ loading_text (loaded_of empty_engine (sheet_of box class)) (after_line box class) (after_line boats s)
  unfolding answer_of
  answered = rw (le-leb (length s) 8192 h)

  pub load-refused : (r : Refusal) → loading_in_full (Err r) e ≡ loaded_of empty_engine (sheet_of box class) → refusal_text r ≡ answer_of s
  unfolding sheet_of
  load-refused r l = not-loaded class (after_line boats s) _ refl _ refl _ l r refl ∙ sym answered

  module _ (l : loading_in_full (Ok tt) e ≡ loaded_of empty_engine (sheet_of box class)) where
    with-box : (b : Option (List ℤ)) → b ≡ box_lines 8 [] (after_line box class)
        → sisters_text e b (boats_in e.codelist.factors (after_line boats s)) ≡ answer_of s
    with-box b q = sym (answered ∙ rw (← l, ← q))

    pub not-read : none ≡ box_lines 8 [] (after_line box class) → refusal_text (Rate RangeCount) ≡ answer_of s
    not-read q = with-box none q

    pub differ : (xs bs : List ℤ) (r : Result Range Refusal) → some xs ≡ box_lines 8 [] (after_line box class)
        → bs ≡ boats_in e.codelist.factors (after_line boats s) → in_full r ≡ sisters_of e xs bs → told r ≡ answer_of s
    differ xs bs r q b d = as_told r ∙ ap difference_text (d ∙ ap (sisters_of e xs) b) ∙ with-box (some xs) q
