-- What is promised of the program `cut`: `cut-prints`. Assumes nothing.
use Prim.Native.Nat.{ℕ, ◌≤◌}
use mathlib.Core.List.{List, [], ◌++◌}
use mathlib.Core.Option.{Option, none, some}
use mathlib.Core.Path.{◌≡◌, refl, sym, ap, ◌∙◌}
use native.Mathlib.Decide.{dec_le}
use native.Mathlib.Omega.{arith}
use lib.IntN.{ℤ, pos}
use lib.ListN.{length, take}
use lib.Seq.{take_all, length-take-le}
use borrow.Author.Tests.{le-leb}
use Rattle.codelist.specs.Load.{value_of}
use Rattle.codelist.specs.Read.{peek, rest, digit, positive, numeral, field, literal}
use Rattle.codelist.proofs.Ratable.{well-formed-ratable}
use Rattle.rules.specs.declared.Limits.{Limits}
use Rattle.rules.specs.InFull as rating
use Rattle.rules.specs.InFull.{Rating}
use Rattle.rules.specs.Rate.{rate_of}
use Rattle.engine.specs.declared.Engine.{Engine}
use Rattle.engine.specs.InFull as engine
use Rattle.engine.specs.declared.Refusal as engine-refusal
use Rattle.engine.specs.Engine.{empty_engine, loaded_of, as_rating, rated_of}
use Rattle.engine.proofs.Demands.{demands}
use Rattle.writer.specs.Texts.{refused_text}
use Rattle.text.specs.Input.{box, sheet_of, after_line, box_lines}
use Rattle.text.specs.Output as text
use Rattle.text.specs.Answer as rate
use Rattle.text.specs.Faithful.{Same}
use Rattle.text.proofs.Faithful.{limits-inv}
use Rattle.bisection.specs.InFull.{Bisected}
use Rattle.bisection.specs.InFull.{Outcome}
use Rattle.bisection.specs.InFull.{Accepted}
use Rattle.bisection.specs.declared.Refusal as bisection
use Rattle.bisection.specs.Cut.{answer_of, cut_of}
use Rattle.bisection.proofs.CutSound.{cut-valid, uncut}
use Rattle.cut_text.specs.Input.{depth_line, depth_in, first_length, after_first}
use Rattle.cut_text.specs.Output.{refusal_text, unless_refused, bisected_text}
use Rattle.cut_text.specs.Answer as cut
use Rattle.cut_text.specs.Answer.{unreadable, cut_text, rest_text}
use Rattle.cut_text.specs.Promises.{loads, engine_of, depth→0, CutPrints}
use Rattle.cut_text.proofs.Answering.{too_long, no-depth}
use Rattle.cut_text.proofs.Lengths.{answer-whole}

-- an input that is not too long
in-length : (s : List ℕ) → length s ≤ 8192 → cut.answer_of s ≡ rest_text (depth_in s) (after_first s)
unfolding cut.answer_of
in-length s h = rw (le-leb (length s) 8192 h)

-- ---- loading's refusals, and 16
refused-first : (s : List ℕ) (r : engine-refusal.Refusal) → length s ≤ 8192 → loads s ≡ engine.Refused r
    → cut.answer_of s ≡ text.refusal_text r
refused-first s r h e = in-length s h ∙ rw e

-- ---- depth 0
answer-text : (n : ℕ) (x : Rating) → bisected_text n (answer_of x) ≡ rate.rating_text n (as_rating x)
unfolding refusal_text text.refusal_text
answer-text n x = go x.outcome
  where
    go : (o : rating.Outcome) → bisected_text n (answer_of (record { outcome = o; limits = x.limits }))
        ≡ rate.rating_text n (as_rating (record { outcome = o; limits = x.limits }))
    go rating.Rated = refl
    go (rating.Refused r) = refl

same_text : (e : Engine) (xs : Option (List ℤ)) → cut_text e (pos 0) xs ≡ rate.rated_text e xs
unfolding rated_of refusal_text text.refusal_text
same_text e (some xs) = ap (bisected_text e.codelist.factors) (uncut e xs) ∙ answer-text e.codelist.factors (rate_of e.codelist xs)
same_text e none = refl

depth-zero : (s : List ℕ) → length s ≤ 8184 → cut.answer_of (depth→0 ++ s) ≡ rate.answer_of s
unfolding rate.answer_of depth_in depth_line value_of first_length after_first literal field numeral positive digit peek rest
depth-zero s h =
    let l = loaded_of empty_engine (sheet_of box s) in
    in-length (depth→0 ++ s) (omega arith)
    ∙ ap (rate.unless_refused l.outcome) (same_text l.engine (box_lines 8 [] (after_line box s)))
    ∙ rw (le-leb (length s) 8192 (omega arith))

-- ---- what the text tells
accepted-text : (n : ℕ) (b : Bisected) → b.outcome ≡ Accepted → bisected_text n b ≡ text.limits_text n b.limits
accepted-text n b a = ap (λ (o : Outcome). unless_refused o (text.limits_text n b.limits)) a

determined : (e f : Engine) (xs ys : List ℤ) (d g : ℤ) → (cut_of e xs d).outcome ≡ Accepted → (cut_of f ys g).outcome ≡ Accepted
    → e.codelist.factors ≡ f.codelist.factors
    → bisected_text e.codelist.factors (cut_of e xs d) ≡ bisected_text f.codelist.factors (cut_of f ys g)
    → Same e.codelist.factors (cut_of e xs d).limits (cut_of f ys g).limits
determined e f xs ys d g a b n p =
    limits-inv e.codelist.factors (cut_of e xs d).limits (cut_of f ys g).limits (cut-valid e xs d a) (cut-valid f ys g b)
    (sym (accepted-text _ (cut_of e xs d) a) ∙ p ∙ accepted-text _ (cut_of f ys g) b
    ∙ ap (λ (m : ℕ). text.limits_text m (cut_of f ys g).limits) (sym n))

apart : (n : ℕ) (l : Limits) (r : bisection.Refusal) → text.limits_text n l ≡ refusal_text r → ⊥
unfolding text.limits_text refusal_text refused_text
apart n l r e = let z : ◌≡◌ {A = ℕ} 118 114 = cc e in omega arith

-- ---- what follows the first 8,193 bytes
reads-enough : (s : List ℕ) → cut.answer_of (take 8193 s) ≡ cut.answer_of s
reads-enough s = go (dec_le (length s) 8193)
  where
    go : Dec (length s ≤ 8193) → cut.answer_of (take 8193 s) ≡ cut.answer_of s
    go (yes h) = ap cut.answer_of (take_all 8193 s h)
    go (no h) =
        let n = length-take-le 8193 s (omega (arith, h)) in
        sym (too_long (take 8193 s) (omega (arith, n))) ∙ too_long s (omega (arith, h))

pub cut-prints : CutPrints
unfolding refused_text refusal_text
cut-prints = record {
  refused = refused-first;
  no-depth = λ s h a n.
      in-length s h
      ∙ rw a
      (no-depth (engine_of s) (depth_in s) (box_lines 8 [] (after_line box (after_first s)))
      (well-formed-ratable (demands.loaded-written empty_engine (sheet_of box (after_first s)) a).0) n);
  depth-zero = depth-zero;
  whole = answer-whole;
  determined = determined;
  apart = apart;
  reads-enough = reads-enough;
}
