-- Every text is that of a well formed codelist, which is loaded, or one that 01's table refuses, and is refused so.
use Prim.Native.Nat.{ℕ, ◌+◌, ◌-◌, ◌≤◌, ◌<◌}
use mathlib.Core.Bool.{Bool, true, false, cond}
use mathlib.Core.List.{List, [], ◌∷◌, ◌++◌, append-nil}
use mathlib.Core.Option.{Option, some, none}
use mathlib.Core.Path.{◌≡◌, refl, sym, ap, subst, ◌∙◌}
use native.Mathlib.Decide.{dec_lt}
use native.Mathlib.Nat.{add-zero}
use native.Mathlib.Omega.{arith}
use lib.Dec.{leb}
use lib.ListN.{length, replicate}
use lib.Seq.{take-append_seam, drop-append_seam}
use borrow.Author.Tests.{le-leb, lt-leb}
use Rattle.codelist.specs.declared.Codelist.{Codelist}
use Rattle.codelist.specs.declared.Entry.{Entry}
use Rattle.codelist.specs.Text.{TextLine}
use Rattle.codelist.specs.InFull.{Loaded}
use Rattle.codelist.specs.declared.Numeral.{Numeral}
use Rattle.codelist.specs.declared.Refusal.{Refusal}
use Rattle.codelist.specs.declared.Refusal.TheVariants.{TooLong, Malformed, FactorCount, UnknownYear, NoOperation}
use Rattle.codelist.specs.declared.Year.{Year}
use Rattle.codelist.specs.Text.{YearField, first_text, year_of, FirstAt, LineAt}
use Rattle.codelist.specs.Codelist.{blank, WellFormedOps, WellFormed}
use Rattle.codelist.specs.Write.{plain, ops_text, text_with, IsText}
use Rattle.codelist.specs.Conditions.{is_between}
use Rattle.codelist.specs.Read.{Read, good, bad, operation_line, first_line}
use Rattle.codelist.specs.Load.{refused, accepted, codelist_of, ended, on_year, on_first, operation_lines, load_of}
use Rattle.codelist.specs.Refused.{Upto, RefusedFor, too_long, no-first-line, malformed, factor-count, unknown-year, too-many-lines}
use Rattle.codelist.specs.Refused.{no-operation, reference, exponent, constant, multiplier}
use Rattle.codelist.proofs.Laws.{between-inv}
use Rattle.codelist.proofs.NumeralTexts.{never}
use Rattle.codelist.proofs.LineTexts.{line-sound, line-complete, first-sound, first-complete}
use Rattle.codelist.proofs.Checks.{plain-is, Broken, broken-reference, broken-exponent, broken-constant, broken-multiplier, fault-sound}
use Rattle.codelist.proofs.Traces.{Stop, at-end, at-bad, at-full, at-fault, Trace, trace}

-- The codelist of a year, n factors and well formed operations
module _ (y : Year) (n : ℕ) (xs : List Entry) where
  codelist-well-formed : (1 ≤ n) × (n ≤ 8) → 1 ≤ length xs → n + length xs ≤ 64 → WellFormedOps n xs → WellFormed (codelist_of y n xs)
  unfolding codelist_of
  codelist-well-formed f o m g = record {
    factors = f;
    some = o;
    few = m;
    each = subst (λ (ys : List Entry). WellFormedOps n ys) (sym (take-append_seam xs (replicate (64 - length xs) blank))) g;
    blanks = drop-append_seam xs (replicate (64 - length xs) blank);
  }

  codelist-text : (f : YearField) → text_with f (codelist_of y n xs) ≡ first_text (plain n) f ++ ops_text xs
  unfolding text_with codelist_of
  codelist-text f = rw take-append_seam

  codelist-is-text : (s : List ℕ) (f : YearField) → year_of f ≡ some y → s ≡ first_text (plain n) f ++ ops_text xs → IsText (codelist_of y n xs) s
  unfolding codelist_of
  codelist-is-text s f e t = record { field = f; names = e; text = t ∙ sym (codelist-text f) }

pub data Class (s : List ℕ) (result : Loaded) : Type 0 where
  kept : (c : Codelist) → result ≡ accepted c → WellFormed c → IsText c s → Class s result
  turned_down : (r : Refusal) → result ≡ refused r → RefusedFor s r → Class s result

module _ (s : List ℕ) (short : length s ≤ 4096) where
  -- after the first line
  module _ (n : ℕ) (f : (1 ≤ n) × (n ≤ 8)) (field : YearField) (y : Year) (names : year_of field ≡ some y) (t : List ℕ)
      (first : s ≡ first_text (plain n) field ++ t) where
    upto : (xs : List Entry) (left : ℕ) (rest : List ℕ) → t ≡ ops_text xs ++ rest → WellFormedOps (n + 0) xs → length xs + left ≡ 64 - n
        → Upto s n xs rest
    upto xs left rest e g m = record {
      short = short;
      factors = f;
      field = field;
      year = y;
      names = names;
      few = omega arith;
      each = subst (λ (k : ℕ). WellFormedOps k xs) (add-zero n) g;
      text = first ∙ ap (λ (u : List ℕ). first_text (plain n) field ++ u) e;
    }

    finished : (xs : List Entry) (rest : List ℕ) (result : Loaded) (u : Upto s n xs rest) → rest ≡ [] → result ≡ ended u.year n xs → Class s result
    finished [] rest result u z e = turned_down NoOperation e (no-operation (subst (λ (v : List ℕ). Upto s n [] v) z u))
    finished (x ∷ xs) rest result u z e =
        kept (codelist_of u.year n (x ∷ xs)) e (codelist-well-formed u.year n (x ∷ xs) f (omega arith) u.few u.each)
        (codelist-is-text u.year n (x ∷ xs) s u.field u.names
        (u.text ∙ ap (λ (v : List ℕ). first_text (plain n) u.field ++ v) (ap (λ (v : List ℕ). ops_text (x ∷ xs) ++ v) z ∙ append-nil (ops_text (x ∷ xs)))))

    broken : (xs : List Entry) (rest : List ℕ) (l : TextLine) (u : List ℕ) (r : Refusal) → Upto s n xs rest → LineAt rest l u
        → n + length xs < 64
        → Broken (length xs + 2) (n + length xs) l r → RefusedFor s r
    broken xs rest l u r p a h (broken-reference b) = reference (record { rest = rest; upto = p; line = a; room = h }) b
    broken xs rest l u r p a h (broken-exponent b c) = exponent (record { rest = rest; upto = p; line = a; room = h }) b c
    broken xs rest l u r p a h (broken-constant b c d) = constant (record { rest = rest; upto = p; line = a; room = h }) b c d
    broken xs rest l u r p a h (broken-multiplier b c d m) = multiplier (record { rest = rest; upto = p; line = a; room = h }) b c d m

    stopped : (xs : List Entry) (left : ℕ) (rest : List ℕ) (result : Loaded) (u : Upto s n xs rest) → length xs + left ≡ 64 - n
        → Stop u.year n left xs rest result → Class s result
    stopped xs left rest result u m (at-end z e) = finished xs rest result u z e
    stopped xs left rest result u m (at-bad z b e) =
        turned_down _ e (malformed u z (λ l v a. never l v (sym b ∙ ap operation_line a.text ∙ line-complete l v a.fine)))
    stopped xs left rest result u m (at-full z l v a e) = turned_down _ e (too-many-lines u (line-sound rest l v a) (omega arith))
    stopped xs left rest result u m (at-fault z l v r a b e) =
        turned_down r e (broken xs rest l v r u (line-sound rest l v a) (omega arith) (fault-sound _ _ l r b))

    traced : (result : Loaded) → Trace y n (64 - n) [] t result → Class s result
    unfolding upto
    traced result i = stopped i.xs i.left i.rest result (upto i.xs i.left i.rest i.text i.each i.few)
        i.few i.stop

  module _ (w : Numeral) (f : YearField) (t : List ℕ) (a : FirstAt s w f t) where
    abbrev operations : Year → Loaded
    operations y = operation_lines y w.magnitude (64 - w.magnitude) [] t

    with-year : is_between 1 8 w ≡ true → (o : Option Year) → year_of f ≡ o → Class s (on_year o operations)
    with-year q none e = turned_down UnknownYear refl (unknown-year short a q e)
    with-year q (some y) e =
        let v = between-inv 1 8 w q in
        traced w.magnitude (v.1, v.2) f y e t (a.text ∙ ap (λ (x : Numeral). first_text x f ++ t) (sym (plain-is w v.0))) _
        (trace y (64 - w.magnitude) w.magnitude [] t)

    in-range : (b : Bool) → is_between 1 8 w ≡ b → Class s (cond b (on_year (year_of f) operations) (refused FactorCount))
    in-range false q = turned_down FactorCount refl (factor-count short a q)
    in-range true q = with-year q (year_of f) refl

  at_first : (x : Read (Numeral × YearField)) → first_line s ≡ x → Class s (on_first x)
  at_first bad e =
      turned_down (Malformed 1) refl
      (no-first-line short (λ w f t a. never _ t (sym e ∙ ap first_line a.text ∙ first-complete w f t a.fine a.year)))
  at_first (good (w, f) t) e = in-range w f t (first-sound s (w, f) t e) (is_between 1 8 w) refl

-- EVERY TEXT, BY WHAT LOADING MAKES OF IT
pub classify : (s : List ℕ) → Class s (load_of s)
unfolding load_of
classify s = go (dec_lt 4096 (length s))
  where
    go : Dec (4096 < length s) → Class s (cond (leb (length s) 4096) (on_first (first_line s)) (refused TooLong))
    go (yes h) = rw (lt-leb (length s) 4096 h) (turned_down TooLong refl (too_long h))
    go (no h) = rw (le-leb (length s) 4096 (omega arith)) (at_first s (omega arith) (first_line s) refl)
