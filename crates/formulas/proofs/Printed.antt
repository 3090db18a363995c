-- What specs/Prints.antt promises of the program: each way in which it prints, that nothing is cut off, and that it reads enough.
use Prim.Native.Nat.{ℕ, ◌+◌, ◌-◌, ◌≤◌, ◌<◌}
use mathlib.Core.Bool.{Bool, true, false, cond}
use mathlib.Core.List.{List, [], ◌∷◌, ◌++◌, append_assoc}
use mathlib.Core.Path.{◌≡◌, refl, sym, ap, ◌∙◌}
use native.Mathlib.Decide.{dec_lt}
use native.Mathlib.Omega.{arith}
use lib.Dec.{lit<, leb}
use lib.ListN.{length, take, drop, replicate, length-append, take-append-drop}
use lib.Seq.{take_all, length-take-le, take-append_seam, take-append-add}
use borrow.Author.Tests.{le-leb, lt-leb}
use Rattle.codelist.specs.InFull.{Loaded}
use Rattle.codelist.specs.declared.Numeral.{Numeral}
use Rattle.codelist.specs.InFull as loading
use Rattle.codelist.specs.Load as load
use Rattle.codelist.specs.Read.{Read, good, bad, peek, rest, digit, literal, field}
use Rattle.codelist.specs.Text.{IsNumeral, factors→, decimal, numeral_text}
use Rattle.codelist.proofs.Lengths.{decimal-length}
use Rattle.codelist.proofs.LineTexts.{next-inv, literal-sound, field-sound, field-complete}
use Rattle.writer.specs.Texts.{refused_text}
use Rattle.writer.proofs.Lengths.{refused-length}
use Rattle.writer.proofs.Writing.{filled}
use Rattle.formulas.specs.declared.Refusal.{Refusal}
use Rattle.formulas.specs.Grammar.{longest}
use Rattle.formulas.specs.Load as Load
use Rattle.formulas.specs.Load.{given, refused, number_of, place_of, loaded_sheet, sheet_for, formula_of}
use Rattle.formulas.specs.Exactly.{Becomes}
use Rattle.formulas.specs.Answer.{count_line, count_in, sheet_printed, printed, is_ended, text_in, after_first, on_count, answer_of, in_bytes}
use Rattle.formulas.specs.Prints.{Input, FormulaPrints}
use Rattle.formulas.proofs.Answers.{accepted-short}
use Rattle.formulas.proofs.Exactly.{long}
use Rattle.formulas.proofs.Promises.{formulas-exactly}

-- ════ each way ════

-- a text over 1,024 bytes, whatever it is
long-refused : (t : List ℕ) (k : ℕ) → longest < length t → printed (sheet_for t k) ≡ refused_text 19 1025
unfolding sheet_for
long-refused t k h = rw (long t h)

long_after : (u : List ℕ) (k : ℕ) → longest < length (cond (is_ended u) (text_in u) u) → after_first k u ≡ refused_text 19 1025
long_after u k h = go (is_ended u) h
  where
    go : (b : Bool) → longest < length (cond b (text_in u) u)
        → cond b (printed (sheet_for (text_in u) k)) (cond (leb (length u) longest) (refused_text 2 2) (refused_text 19 1025))
        ≡ refused_text 19 1025
    go true g = long-refused (text_in u) k g
    go false g = rw (lt-leb (length u) longest g)

module _ (s : List ℕ) (w : Numeral) (u : List ℕ) (e : count_line s ≡ good w u) where
  after : answer_of s ≡ after_first (count_in w) u
  unfolding answer_of
  after = ap on_count e

  too_long : longest < length (cond (is_ended u) (text_in u) u) → answer_of s ≡ refused_text 19 1025
  too_long h = after ∙ long_after u (count_in w) h

  no_end : is_ended u ≡ false → length u ≤ longest → answer_of s ≡ refused_text 2 2
  no_end f h = after ∙ rw (f, le-leb (length u) longest h)

module _ (s t : List ℕ) (k : ℕ) (g : Input s k t) where
  prints : answer_of s ≡ printed (sheet_for t k)
  prints = after s g.numeral g.rest g.first ∙ rw (g.ended, g.text, g.count)

  not-converted : (r : Refusal) → formula_of t k ≡ refused r → answer_of s ≡ refused_text (number_of r) (place_of r)
  unfolding formula_of
  not-converted r e = prints ∙ go (sheet_for t k) e
    where
      go : (o : Load.Given (List ℕ)) → loaded_sheet o ≡ refused r → printed o ≡ refused_text (number_of r) (place_of r)
      go (given x) f = absurd (let z : ◌≡◌ {A = ℕ} 0 1 = cc f in omega arith)
      go (refused q) f = let d : q ≡ r = cc f in rw d

  module _ (x : List ℕ) (b : Becomes t k x) where
    sheet-for : sheet_for t k ≡ given x
    unfolding sheet_for
    sheet-for = rw ((formulas-exactly.written t b.formula).1 b.spells, b.sheet)

    printed-by : (l : Loaded) → load.load_of x ≡ l → answer_of s ≡ sheet_printed l.outcome x
    printed-by l e = prints ∙ ap printed sheet-for ∙ ap (λ (l : Loaded). sheet_printed l.outcome x) e

-- ════ nothing is cut off ════

answer-short : (s : List ℕ) → length (answer_of s) ≤ 4097
unfolding answer_of
answer-short s = by_count (count_line s)
  where
    by-outcome : (x : List ℕ) (o : loading.Outcome) → (load.load_of x).outcome ≡ o → length (sheet_printed o x) ≤ 4097
    by-outcome x loading.Accepted e = omega (arith, accepted-short x e)
    by-outcome x (loading.Refused r) e = omega (arith, refused-length (load.number_of r) (load.place_of r))

    by-sheet : (o : Load.Given (List ℕ)) → length (printed o) ≤ 4097
    by-sheet (given x) = by-outcome x (load.load_of x).outcome refl
    by-sheet (refused r) = omega (arith, refused-length (number_of r) (place_of r))

    by_length : (b : Bool) → length (cond b (refused_text 2 2) (refused_text 19 1025)) ≤ 4097
    by_length true = omega (arith, refused-length 2 2)
    by_length false = omega (arith, refused-length 19 1025)

    by_end : (b : Bool) (x y : List ℕ) → length x ≤ 4097 → length y ≤ 4097 → length (cond b x y) ≤ 4097
    by_end true x y h g = h
    by_end false x y h g = g

    by_count : (r : Read Numeral) → length (on_count r) ≤ 4097
    by_count (good w u) = by_end (is_ended u) _ _ (by-sheet (sheet_for (text_in u) (count_in w))) (by_length (leb (length u) longest))
    by_count bad = omega (arith, refused-length 2 1)

whole : (s : List ℕ) → take (in_bytes (answer_of s)).at (in_bytes (answer_of s)).bytes ≡ answer_of s
whole s =
    let t = answer_of s in
    rw (filled (replicate 4097 0) t (answer-short s)) (take-append_seam t (drop (length t) (replicate 4097 0)))

-- ════ it reads enough ════

-- a first line, as it is written
abbrev first_line : Numeral → List ℕ
first_line w = factors→ ++ (numeral_text w ++ (10 ∷ []))

count-sound : (s : List ℕ) (w : Numeral) (u : List ℕ) → count_line s ≡ good w u → IsNumeral w × (s ≡ first_line w ++ u)
unfolding count_line
count-sound s w u e =
    let (x, t, f, g) = next-inv (literal factors→ s) (λ _ t. field 10 t) w u e in
    let n = field-sound 10 t w u (lit< tt) g in
    (n.fine, literal-sound factors→ s x t refl f ∙ ap (λ (l : List ℕ). factors→ ++ l) (n.text ∙ sym (append_assoc (numeral_text w) (10 ∷ []) u)))

count-complete : (w : Numeral) (u : List ℕ) → IsNumeral w → count_line (first_line w ++ u) ≡ good w u
unfolding count_line literal peek rest digit
count-complete w u h = rw append_assoc (field-complete 10 w u h (omega arith))

first_short : (w : Numeral) → length (first_line w) ≤ 20
unfolding numeral_text
first_short w = go w.negative
  where
    go : (b : Bool) → length (factors→ ++ (cond b (45 ∷ decimal 9 w.magnitude) (decimal 9 w.magnitude) ++ (10 ∷ []))) ≤ 20
    go true = omega (arith, length-append (45 ∷ decimal 9 w.magnitude) (10 ∷ []), decimal-length 9 w.magnitude)
    go false = omega (arith, length-append (decimal 9 w.magnitude) (10 ∷ []), decimal-length 9 w.magnitude)

long-either : (u : List ℕ) → longest + 1 < length u → longest < length (cond (is_ended u) (text_in u) u)
long-either u h = go (is_ended u)
  where
    go : (b : Bool) → longest < length (cond b (text_in u) u)
    go true = omega (arith, length-take-le (length u - 1) u (omega arith))
    go false = omega arith

-- more than 1,026 bytes after the first line are as many
after-enough : (m : ℕ) (u : List ℕ) (k : ℕ) → longest + 2 ≤ m → after_first k (take m u) ≡ after_first k u
after-enough m u k h = go (dec_lt m (length u))
  where
    go : Dec (m < length u) → after_first k (take m u) ≡ after_first k u
    go (yes g) =
        let n = length-take-le m u (omega arith) in
        long_after (take m u) k (long-either (take m u) (omega (arith, n))) ∙ sym (long_after u k (long-either u (omega arith)))
    go (no g) = rw (take_all m u (omega arith))

reads-enough : (s : List ℕ) → answer_of (take 2048 s) ≡ answer_of s
unfolding answer_of
reads-enough s = go (count_line s) refl
  where
    fewer : (r : Read Numeral) → count_line (take 2048 s) ≡ r → count_line s ≡ bad → count_line (take 2048 s) ≡ bad
    fewer bad e f = e
    fewer (good w u) e f =
        let (n, t) = count-sound (take 2048 s) w u e in
        let g : count_line s ≡ good w (u ++ drop 2048 s)
        = ap count_line (sym (take-append-drop 2048 s) ∙ ap (λ (l : List ℕ). l ++ drop 2048 s) t ∙ append_assoc (first_line w) u (drop 2048 s))
        ∙ count-complete w (u ++ drop 2048 s) n in
        absurd (let z : ◌≡◌ {A = ℕ} 0 1 = cc (g, f) in omega arith)

    go : (r : Read Numeral) → count_line s ≡ r → answer_of (take 2048 s) ≡ answer_of s
    go bad e = ap on_count (fewer (count_line (take 2048 s)) refl e) ∙ sym (ap on_count e)
    go (good w u) e =
        let (n, t) = count-sound s w u e in
        let m = 2048 - length (first_line w) in
        let i : 2048 ≡ length (first_line w) + m = omega (arith, first_short w) in
        let f : count_line (take 2048 s) ≡ good w (take m u)
        = ap count_line (ap (λ (j : ℕ). take j s) i ∙ ap (take (length (first_line w) + m)) t ∙ take-append-add (first_line w) u m)
        ∙ count-complete w (take m u) n in
        after (take 2048 s) w (take m u) f ∙ after-enough m u (count_in w) (omega (arith, first_short w)) ∙ sym (after s w u e)

pub formula-prints : FormulaPrints
unfolding answer_of
formula-prints = record {
  no-count = λ s e. ap on_count e;
  too_long = too_long;
  no_end = no_end;
  not-converted = λ s t k r g e. not-converted s t k g r e;
  not-loaded = λ s t k x r g b e. printed-by s t k g x b (load.refused r) e;
  sheet = λ s t k x c g b e. printed-by s t k g x b (load.accepted c) e;
  whole = whole;
  reads-enough = reads-enough;
}
