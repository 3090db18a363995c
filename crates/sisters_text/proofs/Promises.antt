-- What is promised of the program `sisters`: `sisters-prints`. Assumes nothing.
use Prim.Native.Nat.{ℕ, ◌*◌, ◌≤◌}
use mathlib.Core.Bool.{true}
use mathlib.Core.List.{List, [], append_cancel_left}
use mathlib.Core.Option.{Option, none, some}
use mathlib.Core.Path.{◌≡◌, sym, ap, ◌∙◌}
use native.Mathlib.Decide.{dec_le}
use native.Mathlib.Omega.{arith}
use lib.IntN.{ℤ}
use lib.ListN.{length, take, length-take}
use lib.Seq.{take_all, length-take-le}
use borrow.Author.Tests.{le-leb, ne_eqb}
use Rattle.range.specs.declared.Range.{Range}
use Rattle.range.specs.Limit.{from_to}
use Rattle.engine.specs.declared.Engine.{Engine}
use Rattle.engine.specs.InFull.{Outcome}
use Rattle.engine.specs.InFull.{Accepted, Refused}
use Rattle.engine.specs.declared.Refusal.{Refusal}
use Rattle.engine.specs.Engine.{empty_engine, loaded_of, rated_of}
use Rattle.engine.proofs.Demands.{demands}
use Rattle.writer.specs.Texts.{refused_text}
use Rattle.text.specs.Input.{box, sheet_length, sheet_of, after_line}
use Rattle.text.specs.Output.{limits_text, refusal_text}
use Rattle.text.specs.Answer as rate
use Rattle.text.specs.Answer.{unless_refused}
use Rattle.text.proofs.Faithful.{faithful}
use Rattle.increments.specs.InFull.{Difference}
use Rattle.increments.specs.Call as Call
use Rattle.increments.specs.Call.{boats_of, sisters_of}
use Rattle.sisters_text.specs.Input.{boats, boats_in}
use Rattle.sisters_text.specs.Output.{difference, difference_line, difference_text}
use Rattle.sisters_text.specs.Answer.{sisters_text, parts_text, answer_of}
use Rattle.sisters_text.specs.Promises.{class_in, loads, engine_of, boxes_in, SistersPrints}
use Rattle.sisters_text.proofs.Answering.{too_long}
use Rattle.sisters_text.proofs.Fields.{range-inv}
use Rattle.sisters_text.proofs.Lengths.{answer-whole}

-- an input that is not too long
in-length : (s : List ℕ) → length s ≤ 8192 → answer_of s ≡ parts_text (class_in s) (after_line boats s)
unfolding answer_of
in-length s h = rw (le-leb (length s) 8192 h)

-- ---- loading's refusals
refused-first : (s : List ℕ) (r : Refusal) → length s ≤ 8192 → loads s ≡ Refused r → answer_of s ≡ refusal_text r
refused-first s r h e = in-length s h ∙ rw e

-- ---- the class's
-- what stands before the line `boats` is not too long either
front-short : (s : List ℕ) → length (class_in s) ≤ length s
unfolding sheet_of
front-short s = let n = sheet_length boats true s in omega (arith, length-take n s)

rated-in-length : (s : List ℕ) → length s ≤ 8192
    → rate.answer_of (class_in s) ≡ rate.loading_text (loaded_of empty_engine (sheet_of box (class_in s))) (after_line box (class_in s))
unfolding rate.answer_of
rated-in-length s h = rw (le-leb (length (class_in s)) 8192 (omega (arith, h, front-short s)))

-- of ranges, and of box lines
ranges-refused : (e : Engine) (xs bs : List ℤ) (r : Refusal) → rate.rating_text e.codelist.factors (rated_of e xs) ≡ refusal_text r
    → difference_text (sisters_of e xs bs) ≡ refusal_text r
unfolding sisters_of
ranges-refused e xs bs r = go (rated_of e xs).outcome _
  where
    go : (o : Outcome) (d : Difference) → unless_refused o (limits_text e.codelist.factors (rated_of e xs).limits) ≡ refusal_text r
        → difference_text (Call.unless_refused o d) ≡ refusal_text r
    go Accepted d p = absurd (faithful.apart _ _ r p)
    go (Refused q) d p = p

boxes-refused : (e : Engine) (xs : Option (List ℤ)) (bs : List ℤ) (r : Refusal) → rate.rated_text e xs ≡ refusal_text r
    → sisters_text e xs bs ≡ refusal_text r
boxes-refused e (some xs) bs r p = ranges-refused e xs bs r p
boxes-refused e none bs r p = p

loading-refused : (o : Outcome) (x y z : List ℕ) → (x ≡ z → y ≡ z) → unless_refused o x ≡ z → unless_refused o y ≡ z
loading-refused Accepted x y z f p = f p
loading-refused (Refused q) x y z f p = p

class-refused : (s : List ℕ) (r : Refusal) → length s ≤ 8192 → rate.answer_of (class_in s) ≡ refusal_text r → answer_of s ≡ refusal_text r
class-refused s r h p =
    in-length s h ∙ loading-refused (loads s) _ _ _ (boxes-refused (engine_of s) (boxes_in s) _ r) (sym (rated-in-length s h) ∙ p)

-- ---- the boats'
no-numbers : (e : Engine) (xs : List ℤ) → 1 ≤ e.codelist.factors → (rated_of e xs).outcome ≡ Accepted
    → difference_text (sisters_of e xs []) ≡ refused_text 8 0
unfolding sisters_of boats_of refusal_text
no-numbers e xs h a = rw (a, ne_eqb 0 (2 * e.codelist.factors) (λ z. omega (arith, h, z)))

no-boats : (s : List ℕ) (xs : List ℤ) → length s ≤ 8192 → loads s ≡ Accepted → boxes_in s ≡ some xs → (rated_of (engine_of s) xs).outcome ≡ Accepted
    → boats_in (engine_of s).codelist.factors (after_line boats s) ≡ [] → answer_of s ≡ refused_text 8 0
no-boats s xs h l b a e =
    in-length s h
    ∙ rw (l, b, e) (no-numbers (engine_of s) xs (demands.loaded-written empty_engine (sheet_of box (class_in s)) l).0.factors.0 a)

-- ---- what the text tells
accepted-text : (d : Difference) → d.outcome ≡ Accepted → difference_text d ≡ difference_line (from_to d.low d.high)
accepted-text d a = ap (λ (o : Outcome). unless_refused o (difference_line (from_to d.low d.high))) a

determined : (d e : Difference) → d.outcome ≡ Accepted → e.outcome ≡ Accepted → difference_text d ≡ difference_text e
    → (d.low ≡ e.low) × (d.high ≡ e.high)
determined d e a b p =
    range-inv (from_to d.low d.high) (from_to e.low e.high)
    (append_cancel_left difference _ _ (sym (accepted-text d a) ∙ p ∙ accepted-text e b))

apart : (x : Range) (r : Refusal) → difference_line x ≡ refusal_text r → ⊥
unfolding refusal_text refused_text
apart x r e = let z : ◌≡◌ {A = ℕ} 100 114 = cc e in omega arith

-- ---- what follows the first 8,193 bytes
reads-enough : (s : List ℕ) → answer_of (take 8193 s) ≡ answer_of s
reads-enough s = go (dec_le (length s) 8193)
  where
    go : Dec (length s ≤ 8193) → answer_of (take 8193 s) ≡ answer_of s
    go (yes h) = ap answer_of (take_all 8193 s h)
    go (no h) =
        let n = length-take-le 8193 s (omega (arith, h)) in
        sym (too_long (take 8193 s) (omega (arith, n))) ∙ too_long s (omega (arith, h))

pub sisters-prints : SistersPrints
sisters-prints = record {
  refused = refused-first;
  class = class-refused;
  no-boats = no-boats;
  whole = answer-whole;
  determined = determined;
  apart = apart;
  reads-enough = reads-enough;
}
