-- What the program prints: the text that was written into its bytes, or the refusal's. Assumes nothing.
use Prim.Native.Nat.{ℕ, ◌≤◌}
use mathlib.Core.List.{List, ◌++◌}
use mathlib.Core.Path.{◌≡◌, refl, sym, ap, ap₂, ◌∙◌}
use native.Mathlib.Omega.{arith}
use lib.ListN.{length, take, drop, replicate}
use lib.Seq.{take_at}
use Rattle.std.proofs.Common.{length-append}
use Rattle.codelist.specs.InFull.{Loaded}
use Rattle.codelist.specs.Load.{load_of}
use Rattle.codelist.specs.Write.{text_of}
use Rattle.writer.specs.Lent.{Lent, lent, put_text}
use Rattle.writer.specs.Texts.{refused_text}
use Rattle.writer.proofs.Writing.{filled}
use Rattle.writer.proofs.Lengths.{refused-length}
use Rattle.liveness.specs.InFull.{Outcome, Written, Refused}
use Rattle.liveness.specs.declared.Refusal.{Refusal}
use Rattle.liveness.specs.Tidied.{tidied}
use Rattle.liveness.specs.Tidy.{number_of, place_of, tidy_of, buffer_after, buffer_of, printed, answer_of, answered}
use Rattle.liveness.specs.Refusals.{Wrote}
use Rattle.liveness.proofs.Calls.{was, leaves, written-exactly}

module _ (s : List ℕ) (o : Outcome) (h : o ≡ tidy_of s 4096) where
  answer-is : answer_of s ≡ printed o (text_of (tidied (load_of s).codelist))
  unfolding answer_of
  answer-is = ap (λ (x : Outcome). printed x (text_of (tidied (load_of s).codelist))) (sym h)

-- d are the bytes that the call leaves where it was lent 4,096
module _ (s d : List ℕ) (e : d ≡ buffer_of s (replicate 4096 0)) (n : ℕ) (h : Written n ≡ tidy_of s 4096) where
  wrote : Wrote s 4096 n
  wrote = was s (replicate 4096 0) n (sym h)

  left : d ≡ text_of (tidied wrote.codelist) ++ drop n (replicate 4096 0)
  left = e ∙ leaves s wrote.codelist wrote.loaded (replicate 4096 0) n (sym h)

  pub text_inside : n ≤ length d
  text_inside = omega (arith, wrote.long, simp length-append at (ap length left))

  pub text_printed : take n d ≡ answer_of s
  text_printed =
      ap (take n) left ∙ take_at (text_of (tidied wrote.codelist)) (drop n (replicate 4096 0)) n wrote.long
      ∙ sym (answer-is s (Written n) h ∙ ap (λ (x : Loaded). text_of (tidied x.codelist)) wrote.loaded)

pub refusal_printed : (s : List ℕ) (r : Refusal) → Refused r ≡ tidy_of s 4096 → refused_text (number_of r) (place_of r) ≡ answer_of s
refusal_printed s r h = sym (answer-is s (Refused r) h)

-- z are any 4,096 bytes lent, and d those after the call
module _ (s z d : List ℕ) (l : length z ≡ 4096) (e : d ≡ buffer_of s z) (o : Outcome) (h : o ≡ tidy_of s (length z)) where
  said : answer_of s ≡ printed o (text_of (tidied (load_of s).codelist))
  said = answer-is s o (h ∙ ap (tidy_of s) l)

  -- a text that was written there is the answer, put into z
  pub prints-text : (n : ℕ) → o ≡ Written n → lent d n ≡ put_text (lent z 0) (answer_of s)
  prints-text n g =
      let w = was s z n (sym h ∙ g) in
      let t = text_of (tidied w.codelist) in
      let text : answer_of s ≡ t = said ∙ ap (λ (x : Outcome). printed x (text_of (tidied (load_of s).codelist))) g
      ∙ ap (λ (x : Loaded). text_of (tidied x.codelist)) w.loaded in
      ap₂ lent
      (e ∙ leaves s w.codelist w.loaded z n (sym h ∙ g) ∙ ap (λ (m : ℕ). t ++ drop m z) (sym w.long))
      (sym w.long)
      ∙ sym (filled z t (omega (arith, w.long, w.room))) ∙ ap (put_text (lent z 0)) (sym text)

  -- and so is a refusal's, put into d, which is z still
  pub prints-refusal : (r : Refusal) (q : Lent) → o ≡ Refused r → q ≡ put_text (lent d 0) (refused_text (number_of r) (place_of r))
      → q ≡ put_text (lent z 0) (answer_of s)
  unfolding buffer_of
  prints-refusal r q g f =
      let kept : d ≡ z = e ∙ ap (λ (x : Outcome). buffer_after x (text_of (tidied (load_of s).codelist)) z) (sym h ∙ g) in
      let text = said ∙ ap (λ (x : Outcome). printed x (text_of (tidied (load_of s).codelist))) g in
      f ∙ ap₂ (λ (b t : List ℕ). put_text (lent b 0) t) kept (sym text)

-- nothing is cut off
answer-length : (s : List ℕ) → length (answer_of s) ≤ 4096
unfolding answer_of
answer-length s = go (tidy_of s 4096) refl
  where
    go : (o : Outcome) → tidy_of s 4096 ≡ o → length (printed o (text_of (tidied (load_of s).codelist))) ≤ 4096
    go (Written n) h =
        let w = (written-exactly s 4096 n).0 h in
        omega (arith, w.long, w.room, ap (λ (x : Loaded). length (text_of (tidied x.codelist))) w.loaded)
    go (Refused r) h = omega (arith, refused-length (number_of r) (place_of r))

pub whole : (s : List ℕ) → take (answered s).at (answered s).bytes ≡ answer_of s
whole s =
    let t = answer_of s in
    let f = filled (replicate 4096 0) t (omega (arith, answer-length s)) in
    ap (λ (o : Lent). take o.at o.bytes) f ∙ take_at t (drop (length t) (replicate 4096 0)) (length t) refl
