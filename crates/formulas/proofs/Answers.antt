-- What the program prints: the first line, what follows it, and the sheet or the refusal in the bytes that hold it.
use Prim.Native.Nat.{ℕ, ◌+◌, ◌-◌, ◌≤◌, ◌<◌}
use mathlib.Core.Bool.{true, false, cond, ◌&&◌, true≢false}
use mathlib.Core.List.{List, [], ◌∷◌}
use mathlib.Core.Path.{◌≡◌, refl, sym, ap, ◌∙◌}
use native.Mathlib.Decide.{dec_lt}
use native.Mathlib.Omega.{arith}
use lib.Dec.{eqb, leb}
use lib.ListN.{length, take, drop, get_or, length-drop, drop_of_length-le}
use lib.Pointwise.{pointwise}
use lib.Seq.{get_or-drop, drop-append_seam}
use borrow.Author.Tests.{lt-leb, ne_eqb}
use Rattle.codelist.specs.InFull as loading
use Rattle.codelist.specs.declared.Codelist.{Codelist}
use Rattle.codelist.specs.InFull.{Loaded}
use Rattle.codelist.specs.declared.Refusal.{Refusal}
use Rattle.codelist.specs.Load.{load_of, accepted}
use Rattle.codelist.specs.Load as codelist
use Rattle.codelist.specs.Read.{Read, good, bad, is_good, peek, rest, next, literal, field}
use Rattle.codelist.specs.Text.{factors→}
use Rattle.codelist.proofs.LineTexts.{literal-sound}
use Rattle.std.specs.declared.result.Result.TheVariants.{Ok}
use Rattle.writer.specs.Lent.{Lent}
use Rattle.writer.specs.Texts.{refused_text}
use Rattle.formulas.specs.Answer.{count_line, sheet_printed, printed, is_ended, text_in, after_first, in_bytes}
use Rattle.formulas.specs.Load.{sheet_for}
use Rattle.formulas.specs.Views.{Drafts}
use Rattle.formulas.proofs.Sheets.{drafted-sheet, front, cut-loads}

-- ════ the first line ════

abbrev Bytes : List ℕ → Type 0
Bytes [] = Unit
Bytes (b ∷ w) = (b < 256) × Bytes w

-- whether a text begins with a word, as a literal is read and as slices are compared
begins : (w s : List ℕ) → Bytes w → is_good (literal w s) ≡ pointwise eqb (take (length w) s) w
unfolding literal peek rest
begins [] s h = refl
begins (c ∷ w) [] h = rw (ne_eqb 256 c (λ e. omega arith)) refl
begins (c ∷ w) (b ∷ s) h = elim (eqb b c) as (λ t. is_good (cond t (literal w s) bad) ≡ (t && pointwise eqb (take (length w) s) w)) [ true ↦ begins w s h.1 | false ↦ refl ]

module _ (s : List ℕ) where
  literal-then : (r : Read Unit) → literal factors→ s ≡ r → is_good r ≡ true → next r (λ _ t. field 10 t) ≡ field 10 (drop 8 s)
  literal-then (good x t) e h =
      ap (field 10) (sym (ap (drop 8) (literal-sound factors→ s x t refl e) ∙ drop-append_seam factors→ t))
  literal-then bad e h = absurd (let z : true ≡ false = sym h in let y : ◌≡◌ {A = ℕ} 0 1 = cc in omega arith)

  pub word-then : pointwise eqb (take 8 s) factors→ ≡ true → count_line s ≡ field 10 (drop 8 s)
  unfolding count_line
  word-then h = literal-then (literal factors→ s) refl (begins factors→ s (omega arith) ∙ h)

  pub no_word : pointwise eqb (take 8 s) factors→ ≡ false → bad ≡ count_line s
  unfolding count_line
  no_word h = go (literal factors→ s) (begins factors→ s (omega arith) ∙ h)
    where
      go : (r : Read Unit) → is_good r ≡ false → bad ≡ next r (λ _ t. field 10 t)
      go (good x t) g = absurd (let y : ◌≡◌ {A = ℕ} 0 1 = cc in omega arith)
      go bad g = refl

-- ════ what follows it ════

-- what stands from a place on, by its last byte and its length
module _ (s : List ℕ) (from : ℕ) where
  -- nothing stands past the end
  pub past_end : length s ≤ from → is_ended (drop from s) ≡ false
  past_end h = rw (drop_of_length-le s h)

  -- what ends with byte 10 begins in the text
  pub ended-inside : is_ended (drop from s) ≡ true → from < length s
  ended-inside e = go (dec_lt from (length s))
    where
      go : Dec (from < length s) → from < length s
      go (yes h) = h
      go (no h) = absurd (true≢false (sym e ∙ past_end (omega arith)))

  module _ (h : from < length s) where
    -- its last byte is the text's
    pub last_byte : eqb (get_or s (length s - 1) 0) 10 ≡ is_ended (drop from s)
    last_byte =
        let i : from + (length (drop from s) - 1) ≡ length s - 1 = omega (arith, length-drop from s) in
        ap (λ (b : ℕ). eqb b 10) (sym (get_or-drop from s (length (drop from s) - 1) 0 ∙ ap (λ (j : ℕ). get_or s j 0) i))

    text-part : take (length s - 1 - from) (drop from s) ≡ text_in (drop from s)
    text-part = let n : length s - 1 - from ≡ length (drop from s) - 1 = omega (arith, length-drop from s) in rw n

  -- where byte 10 ends it, the sheet of what stands before that is printed
  pub after-ended : (k : ℕ) → is_ended (drop from s) ≡ true → printed (sheet_for (take (length s - 1 - from) (drop from s)) k) ≡ after_first k (drop from s)
  after-ended k e = rw (text-part (ended-inside e), e)

  -- where it doesn't, a refusal is
  pub after-unended : (k : ℕ) → is_ended (drop from s) ≡ false
      → cond (leb (length s - from) 1024) (refused_text 2 2) (refused_text 19 1025) ≡ after_first k (drop from s)
  after-unended k e = rw (e, length-drop from s)

-- ════ the sheet ════

-- one that is accepted is not too long
pub accepted-short : (x : List ℕ) → (load_of x).outcome ≡ loading.Accepted → length x ≤ 4096
unfolding load_of
accepted-short x e = go (dec_lt 4096 (length x))
  where
    go : Dec (4096 < length x) → length x ≤ 4096
    go (yes h) =
        absurd (let z : ◌≡◌ {A = ℕ} 0 1 = cc (simp (lt-leb (length x) 4096 h) at e) in omega arith)
    go (no h) = omega arith

module _ (s : List ℕ) (k : ℕ) (d : Lent) (h : Drafts (sheet_for s k) (Ok d)) {bytes : List ℕ} (e : bytes ≡ take d.at d.bytes) where
  -- what is printed of a sheet, by what loading its bytes gives
  prints : (l : Loaded) → l ≡ load_of bytes → (x : List ℕ) × (d ≡ in_bytes x) × (printed (sheet_for s k) ≡ sheet_printed l.outcome x)
  prints l q =
      let x = drafted-sheet (sheet_for s k) d h in
      (x.0, x.2, ap printed x.1 ∙ ap (λ (m : Loaded). sheet_printed m.outcome x.0) (sym (q ∙ ap load_of (e ∙ front d x.0 x.2) ∙ cut-loads x.0)))

  pub prints-sheet : {c : Codelist} → accepted c ≡ load_of bytes → d ≡ in_bytes (printed (sheet_for s k))
  prints-sheet {c} q = let p = prints (accepted c) q in p.1 ∙ ap in_bytes (sym p.2)

  pub prints-refusal : (r : Refusal) → codelist.refused r ≡ load_of bytes
      → in_bytes (refused_text (codelist.number_of r) (codelist.place_of r)) ≡ in_bytes (printed (sheet_for s k))
  prints-refusal r q = ap in_bytes (sym (prints (codelist.refused r) q).2)
