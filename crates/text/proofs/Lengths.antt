-- No output has more than 1,024 bytes.
use Prim.Native.Nat.{ℕ, suc, zero, ◌-◌, ◌*◌, ◌≤◌, ◌<◌}
use mathlib.Core.Bool.{Bool, true, false, cond}
use mathlib.Core.List.{List, []}
use mathlib.Core.Option.{Option, none, some}
use mathlib.Core.Path.{◌≡◌, refl}
use native.Mathlib.Omega.{arith}
use lib.Dec.{leb}
use lib.IntN.{ℤ, pos, negsuc}
use lib.ListN.{length, take, replicate, length-append}
use lib.Seq.{take_all, take_at}
use Rattle.codelist.specs.declared.Refusal.TheVariants.{TooLong}
use Rattle.codelist.proofs.Lengths.{decimal-length}
use Rattle.range.specs.declared.Range.{Range}
use Rattle.range.specs.Sums.{has, at}
use Rattle.rules.specs.declared.Limits.{Limits}
use Rattle.engine.specs.declared.Engine.{Engine}
use Rattle.engine.specs.InFull.{Loading}
use Rattle.engine.specs.InFull.{Outcome}
use Rattle.engine.specs.InFull.{Accepted, Refused}
use Rattle.engine.specs.declared.Refusal.{Refusal}
use Rattle.engine.specs.declared.Refusal.TheVariants.{Load}
use Rattle.engine.specs.Engine.{number_of, place_of, empty_engine, loaded_of, rated_of}
use Rattle.writer.proofs.Digits.{decimal_digit}
use Rattle.writer.proofs.Lengths.{refused-length}
use Rattle.text.specs.Input.{box, sheet_length, sheet_of, after_line, box_lines}
use Rattle.text.specs.Output.{natural_field, whole_field, range_fields, slope_lines, member_fields, set_fields, limits_text, refusal_text}
use Rattle.text.specs.Answer.{answer_of, written, unless_refused, rated_text, loading_text}
use Rattle.text.proofs.Answering.{few-factors}

digit-length : (m : ℕ) → m < 10 → length (natural_field m) ≡ 2
unfolding natural_field
digit-length m h = rw (decimal_digit 19 m h)

whole_length : (x : ℤ) → length (whole_field x) ≤ 22
unfolding whole_field
whole_length (pos m) = omega (arith, decimal-length 19 m)
whole_length (negsuc m) = omega (arith, decimal-length 19 (suc m))

pub range_length : (r : Range) → length (range_fields r) ≤ 45
unfolding range_fields
range_length r = simp length-append (omega (arith, whole_length r.low, whole_length r.high))

slopes-length : (n : ℕ) (g : List Range) → n ≤ 8 → length (slope_lines n g) ≤ n * 52
unfolding slope_lines
slopes-length zero g h = omega arith
slopes-length (suc a) g h =
    simp length-append (omega (arith, slopes-length a g (omega arith), digit-length (suc a) (omega arith), range_length (at g a)))

members-length : (n s : ℕ) → n ≤ 8 → length (member_fields n s) ≤ n * 2
unfolding member_fields
members-length zero s h = omega arith
members-length (suc a) s h = simp length-append (omega (arith, members-length a s (omega arith), field (has s a)))
  where
    field : (b : Bool) → length (cond b (natural_field (suc a)) []) ≤ 2
    field true = omega (arith, digit-length (suc a) (omega arith))
    field false = omega arith

set-length : (s : ℕ) → length (set_fields s) ≤ 17
unfolding set_fields
set-length s = simp length-append (omega (arith, members-length 8 s (omega arith)))

pub limits-length : (n : ℕ) (l : Limits) → n ≤ 8 → length (limits_text n l) ≤ 1024
unfolding limits_text
limits-length n l h =
    simp length-append
    (omega (
      arith,
      range_length l.value,
      slopes-length n l.gradient h,
      set-length l.support,
      set-length l.nonlinear,
      range_length l.spectrum,
      range_length l.full,
    ))

pub refusal-length : (r : Refusal) → length (refusal_text r) ≤ 1024
unfolding refusal_text
refusal-length r = omega (arith, refused-length (number_of r) (place_of r))

pub unless-length : (o : Outcome) (t : List ℕ) → (o ≡ Accepted → length t ≤ 1024) → length (unless_refused o t) ≤ 1024
unless-length Accepted t h = h refl
unless-length (Refused r) t h = refusal-length r

rated-length : (e : Engine) (xs : Option (List ℤ)) → e.codelist.factors ≤ 8 → length (rated_text e xs) ≤ 1024
rated-length e (some xs) h = unless-length (rated_of e xs).outcome _ (λ _. limits-length e.codelist.factors (rated_of e xs).limits h)
rated-length e none h = refusal-length _

loading-length : (l : Loading) (s : List ℕ) → (l.outcome ≡ Accepted → l.engine.codelist.factors ≤ 8)
    → length (loading_text l s) ≤ 1024
loading-length l s h =
    unless-length l.outcome (rated_text l.engine (box_lines 8 [] s)) (λ a. rated-length l.engine (box_lines 8 [] s) (h a))

answer-length : (s : List ℕ) → length (answer_of s) ≤ 1024
unfolding answer_of sheet_of
answer-length s =
    let end = sheet_length box true s in
    let l = loaded_of empty_engine (take end s) in
    go (leb (length s) 8192) _ (loading-length l (after_line box s) (few-factors empty_engine (take end s)))
  where
    go : (b : Bool) (t : List ℕ) → length t ≤ 1024 → length (cond b t (refusal_text (Load TooLong))) ≤ 1024
    go true t h = h
    go false t h = refusal-length (Load TooLong)

-- so nothing is cut off
pub written-whole : (t : List ℕ) → length t ≤ 1024 → take (written t).len (written t).bytes ≡ t
unfolding written
written-whole t h =
    let a : take 1024 t ≡ t = take_all 1024 t h in
    rw a (take_at t (replicate (1024 - length t) 0) (length t) refl)

pub answer-whole : (s : List ℕ) → take (written (answer_of s)).len (written (answer_of s)).bytes ≡ answer_of s
answer-whole s = written-whole (answer_of s) (answer-length s)
