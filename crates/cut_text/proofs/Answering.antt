-- The parts of the answer: what the calls of the code gave, put together. Assumes nothing.
use Prim.Native.Nat.{ℕ, ◌+◌, ◌-◌, ◌≤◌, ◌<◌}
use mathlib.Core.Bool.{Bool, true, false}
use mathlib.Core.List.{List, []}
use mathlib.Core.Option.{Option, none, some}
use mathlib.Core.Path.{◌≡◌, refl, sym, ap, ◌∙◌}
use native.Mathlib.Omega.{arith}
use lib.IntN.{ℤ}
use lib.ListN.{length, take, drop, length-drop}
use lib.Seq.{take_all}
use borrow.Author.Tests.{le-leb, lt-leb}
use Rattle.std.specs.Prelude.{Some, None, Ok, Err}
use Rattle.std.specs.Bool.{then_some}
use Rattle.codelist.specs.declared.Refusal.TheVariants.{TooLong}
use Rattle.codelist.specs.Codelist.{Ratable}
use Rattle.codelist.proofs.Ratable.{well-formed-ratable}
use Rattle.rules.specs.declared.Limits.{Limits}
use Rattle.rules.specs.declared.Refusal.TheVariants.{RangeCount}
use Rattle.rules.proofs.Passing.{refuted-iff}
use Rattle.engine.specs.declared.Engine.{Engine}
use Rattle.engine.specs.InFull.{Loading, Accepted, Refused}
use Rattle.engine.specs.declared.Refusal as engine
use Rattle.engine.specs.Engine.{empty_engine, loaded_of, loading_in_full}
use Rattle.engine.proofs.Demands.{demands}
use Rattle.text.specs.Input.{box, sheet_length, sheet_of, after_line, box_lines}
use Rattle.text.specs.Output as text
use Rattle.bisection.specs.InFull.{Outcome}
use Rattle.bisection.specs.declared.Refusal.{Refusal}
use Rattle.bisection.specs.declared.Refusal.TheVariants.{Depth, Rate}
use Rattle.bisection.specs.Cut.{is_depth, cut_of, in_full}
use Rattle.bisection.specs.Promises.{IsDepth}
use Rattle.bisection.proofs.Tested.{depth-iff}
use Rattle.bisection.proofs.CutSound.{cut-sound}
use Rattle.cut_text.specs.Input.{depth_in, first_length, after_first}
use Rattle.cut_text.specs.Output.{refusal_text, unless_refused, bisected_text}
use Rattle.cut_text.specs.Answer.{cut_text, loading_text, rest_text, answer_of}

pub too_long : (s : List ℕ) → 8192 < length s → text.refusal_text (engine.TheVariants.Load TooLong) ≡ answer_of s
unfolding answer_of
too_long s h = simp (lt-leb (length s) 8192 h)

-- with the depth and the first line's length that were read; what follows the line, as it is handed on
module _ (s : List ℕ) where
  pub in-length : length s ≤ 8192 → {d : ℤ} {n : ℕ} → d ≡ depth_in s → n ≡ first_length s → rest_text d (take (length s - n) (drop n s)) ≡ answer_of s
  unfolding answer_of after_first
  in-length h {d} {n} p q = rw (take_all (length s - n) (drop n s) (omega (arith, length-drop n s)), le-leb (length s) 8192 h, p, q)

-- What is known of the text s after the first line: where its sheet ends, an empty engine, and the loading of what stands before that end
module _
    (d : ℤ) (s : List ℕ) (end : ℕ) (p : end ≡ sheet_length box true s) (o : Engine) (n : o ≡ empty_engine)
    (l : Loading) (e : l ≡ loaded_of o (take end s)) where
  rested : rest_text d s ≡ loading_text l d (drop (end + 4) s)
  unfolding sheet_of after_line
  rested =
      let f : end + 3 + 1 ≡ end + 4 = omega arith in
      simp (← p, ← n, ← e, f)

  -- a sheet that is loaded is cut
  pub loaded : (xs : Option (List ℤ)) → l.outcome ≡ Accepted → xs ≡ box_lines 8 [] (drop (end + 4) s)
      → cut_text l.engine d xs ≡ rest_text d s
  loaded xs a b = rw (rested, a, b)

  -- and one that is not gives the loading's refusal
  pub not-loaded : (r : engine.Refusal) → l.outcome ≡ Refused r → text.refusal_text r ≡ rest_text d s
  not-loaded r a = rw (rested, a)

-- 16, of every codelist that can be rated
pub no-depth : (e : Engine) (d : ℤ) (b : Option (List ℤ)) → Ratable e.codelist → ¬ (IsDepth d) → cut_text e d b ≡ refusal_text Depth
no-depth e d (some xs) w n =
    ap (λ (o : Outcome). unless_refused o (text.limits_text e.codelist.factors (cut_of e xs d).limits))
    ((cut-sound.refused-listed e xs d Depth).1 (w, n))
no-depth e d none w n = let f : is_depth d ≡ false = (refuted-iff true (depth-iff d)).1 n in rw f

-- what was found of the depth
pub depth-none : (b : Bool) (d : ℤ) → None ≡ then_some b d → b ≡ false
depth-none true d e = absurd (let z : ◌≡◌ {A = ℕ} 0 1 = cc in omega arith)
depth-none false d e = refl

pub depth-some : (b : Bool) (d : ℤ) (x : ℤ) → Some x ≡ then_some b d → (b ≡ true) × (x ≡ d)
depth-some true d x e = (refl, cc)
depth-some false d x e = absurd (let z : ◌≡◌ {A = ℕ} 0 1 = cc in omega arith)

-- What the code's calls gave of the text s, which is not too long: the engine after the loading of the sheet
module _ (s : List ℕ) (h : length s ≤ 8192) (e : Engine) where
  abbrev sheet : List ℕ
  sheet = sheet_of box (after_first s)

  abbrev boxes : Option (List ℤ)
  boxes = box_lines 8 [] (after_line box (after_first s))

  answered : answer_of s ≡ loading_text (loaded_of empty_engine sheet) (depth_in s) (after_line box (after_first s))
  unfolding answer_of
  answered = rw (le-leb (length s) 8192 h)

  pub load-refused : (r : engine.Refusal) → loading_in_full (Err r) e ≡ loaded_of empty_engine sheet → text.refusal_text r ≡ answer_of s
  unfolding sheet_of
  load-refused r l = not-loaded (depth_in s) (after_first s) _ refl _ refl _ l r refl ∙ sym answered

  module _ (l : loading_in_full (Ok tt) e ≡ loaded_of empty_engine sheet) where
    loaded-answer : cut_text e (depth_in s) boxes ≡ answer_of s
    loaded-answer = sym (answered ∙ rw (← l))

    pub too-deep : is_depth (depth_in s) ≡ false → refusal_text Depth ≡ answer_of s
    too-deep d =
        let w : Ratable e.codelist = rw (ap (λ (x : Loading). x.engine.codelist) l)
        (well-formed-ratable (demands.loaded-written empty_engine sheet (ap (λ (x : Loading). x.outcome) (sym l))).0) in
        sym (no-depth e (depth_in s) boxes w ((refuted-iff true (depth-iff (depth_in s))).0 d)) ∙ loaded-answer

    pub not-read : is_depth (depth_in s) ≡ true → none ≡ boxes → refusal_text (Rate RangeCount) ≡ answer_of s
    not-read d b = ap refusal_text (rw d) ∙ ap (cut_text e (depth_in s)) b ∙ loaded-answer

    module _ (xs : List ℤ) (b : some xs ≡ boxes) where
      of_boxes : bisected_text e.codelist.factors (cut_of e xs (depth_in s)) ≡ answer_of s
      of_boxes = ap (cut_text e (depth_in s)) b ∙ loaded-answer

      pub not-cut : (r : Refusal) → in_full (Err r) ≡ cut_of e xs (depth_in s) → refusal_text r ≡ answer_of s
      not-cut r x = ap (bisected_text e.codelist.factors) x ∙ of_boxes

      pub cut : (k : Limits) → in_full (Ok k) ≡ cut_of e xs (depth_in s) → text.limits_text e.codelist.factors k ≡ answer_of s
      cut k x = ap (bisected_text e.codelist.factors) x ∙ of_boxes
