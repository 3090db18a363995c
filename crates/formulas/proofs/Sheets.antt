-- The sheet of a text: from what the readers leave to `sheet_for`, and the sheet as loading finds it.
use Prim.Native.Nat.{ℕ, ◌+◌, ◌-◌, ◌≤◌, ◌<◌}
use mathlib.Core.List.{List, [], ◌∷◌, ◌++◌}
use mathlib.Core.Option.{Option, none, some}
use mathlib.Core.Path.{◌≡◌, refl, sym, ap, ap₂, subst, ◌∙◌}
use native.Mathlib.Decide.{dec_lt}
use native.Mathlib.Omega.{arith}
use lib.ListN.{length, take, drop, replicate, length-append, length-take, length-drop, drop_of_length-le}
use lib.Seq.{take_all, length-take-le, take-append_seam}
use borrow.Author.Tests.{lt-leb}
use Rattle.std.specs.Borrow.{Bor}
use Rattle.std.specs.declared.option.Option.{Option as Maybe}
use Rattle.std.specs.declared.option.Option.TheVariants.{Some, None}
use Rattle.std.specs.declared.result.Result.{Result}
use Rattle.std.specs.declared.result.Result.TheVariants.{Ok, Err}
use Rattle.codelist.specs.Load.{load_of}
use Rattle.codelist.specs.Text.{absent, first_text}
use Rattle.codelist.specs.Write.{plain}
use Rattle.writer.specs.Lent.{Lent, lent, put_text}
use Rattle.writer.proofs.Writing.{put_text-append, cut_off, filled}
use Rattle.formulas.specs.declared.Refusal.{Refusal}
use Rattle.formulas.specs.declared.Refusal.TheVariants.{Text, Constants}
use Rattle.formulas.specs.declared.lines.Operand.{Operand as Held}
use Rattle.formulas.specs.declared.lines.Sheet.{Sheet}
use Rattle.formulas.specs.InFull as made
use Rattle.formulas.specs.InFull.{Converted}
use Rattle.formulas.specs.Grammar.{Tree, deepest, longest}
use Rattle.formulas.specs.Convert.{Conversion, operand, mixed, count_of, convert, lines_text, sheet_text, sheet_from, sheet_of}
use Rattle.formulas.specs.Read.{good, stuck, sum_at, atom_at, Parsed, tree, fault, ended, place_in, parse}
use Rattle.formulas.specs.Load.{Given, given, refused, from_sheet, from_parsed, sheet_for, loaded_sheet, formula_of, first_bytes, answered, converted_of, buffer_after, buffer_of}
use Rattle.formulas.specs.Answer.{in_bytes}
use Rattle.formulas.specs.Views.{Parses, Drafts, HoldsAll, Works, begun}
use Rattle.formulas.proofs.Exactly.{short, long}

-- ════ what was read ════

-- of a text that is not too long
module _ (s : List ℕ) (h : length s ≤ longest) where
  place-is : (k : ℕ) → k ≤ length s → fault (place_in (length s) (drop k s)) ≡ fault (k + 1)
  place-is k g = let n : length s - length (drop k s) ≡ k = omega (arith, length-drop k s) in ap (λ (i : ℕ). fault (i + 1)) n

  -- the reader stops at a byte: the text fails there
  pub parse-stuck : (k : ℕ) → k ≤ length s → sum_at (atom_at deepest) s ≡ stuck (drop k s) → parse s ≡ fault (k + 1)
  parse-stuck k g e = short s h ∙ ap (ended (length s)) e ∙ place-is k g

  ended_some : (n : ℕ) (t : Tree) (u : List ℕ) → 1 ≤ length u → ended n (good t u) ≡ fault (place_in n u)
  ended_some n t [] g = absurd (omega arith)
  ended_some n t (b ∷ u) g = refl

  -- it leaves bytes behind a tree: the text fails at the first of them
  pub parse-left : (k : ℕ) (t : Tree) → k < length s → sum_at (atom_at deepest) s ≡ good t (drop k s) → parse s ≡ fault (k + 1)
  parse-left k t g e =
      short s h ∙ ap (ended (length s)) e ∙ ended_some (length s) t (drop k s) (omega (arith, length-drop k s))
      ∙ place-is k (omega arith)

  -- it leaves none: the text is that tree's
  pub parse-whole : (k : ℕ) (t : Tree) → length s ≤ k → sum_at (atom_at deepest) s ≡ good t (drop k s) → parse s ≡ tree t
  parse-whole k t g e =
      short s h ∙ ap (ended (length s)) e ∙ ap (λ (u : List ℕ). ended (length s) (good t u)) (drop_of_length-le s g)

-- ════ what it gives ════

module _ (s : List ℕ) (k : ℕ) where
  drafted : (g : Given (List ℕ)) (r : Result Lent Refusal) → sheet_for s k ≡ g → Drafts g r → Drafts (sheet_for s k) r
  drafted g r e d = subst (λ (x : Given (List ℕ)). Drafts x r) (sym e) d

  faulty : (p : ℕ) → parse s ≡ fault p → Drafts (sheet_for s k) (Err (Text p))
  unfolding sheet_for
  faulty p e = drafted (refused (Text p)) (Err (Text p)) (ap (from_parsed k) e) refl

  pub is-long : longest < length s → Drafts (sheet_for s k) (Err (Text 1025))
  is-long h = faulty 1025 (long s h)

  sheet-for : (t : Tree) (o : Option (List ℕ)) → parse s ≡ tree t → sheet_of k t ≡ o → sheet_for s k ≡ from_sheet o
  unfolding sheet_for
  sheet-for t o e f = ap (from_parsed k) e ∙ ap from_sheet f

  module _ (n : ℕ) (after : Sheet) where
    -- the text is no formula
    pub halts : (u : Bor (List ℕ)) (p : Parsed) → parse s ≡ p → Parses (length s) (begun n) p after (Err u)
        → Drafts (sheet_for s k) (Err (Text (length s - length u.now + 1)))
    halts u (tree t) e d = absurd d
    halts u (fault p) e d = subst (λ (i : ℕ). Drafts (sheet_for s k) (Err (Text i))) d.0 (faulty p e)

    held : (x : Maybe Held) (t : Tree) → Works (begun n) t after x → HoldsAll (begun n).text after x (convert n t [])
    unfolding put_text
    held x t w = w (begun n).text [] (record { lines = refl; text = refl })

    sheet-is : (t : Tree) (o : Option (List ℕ)) → n ≡ count_of k → sheet_from n (convert n t []) ≡ o → sheet_of k t ≡ o
    unfolding sheet_of
    sheet-is t o e f = ap (λ (i : ℕ). sheet_from i (convert i t [])) (sym e) ∙ f

    without : (t : Tree) → parse s ≡ tree t → n ≡ count_of k → sheet_from n (convert n t []) ≡ none → Drafts (sheet_for s k) (Err Constants)
    without t e q f = drafted (refused Constants) (Err Constants) (sheet-for t none e (sheet-is t none q f)) refl

    -- constants met
    pub is-mixed : (p : Parsed) → parse s ≡ p → n ≡ count_of k → Parses (length s) (begun n) p after (Ok None) → Drafts (sheet_for s k) (Err Constants)
    is-mixed (fault p) e q w = absurd w
    is-mixed (tree t) e q w = without t e q (go (convert n t []) (held None t w))
      where
        go : (c : Conversion) → HoldsAll (begun n).text after None c → sheet_from n c ≡ none
        go (operand v ls) h = absurd h
        go mixed h = refl

    -- there is no operation
    pub is-empty : (y : Held) (p : Parsed) → parse s ≡ p → n ≡ count_of k → Parses (length s) (begun n) p after (Ok (Some y)) → after.lines ≡ 0
        → Drafts (sheet_for s k) (Err Constants)
    is-empty y (fault p) e q w z = absurd w
    is-empty y (tree t) e q w z = without t e q (go (convert n t []) (held (Some y) t w))
      where
        go : (c : Conversion) → HoldsAll (begun n).text after (Some y) c → sheet_from n c ≡ none
        go (operand v []) h = refl
        go (operand v (l ∷ ls)) h = absurd (omega (arith, h.draft.lines))
        go mixed h = absurd h

    -- there is one
    pub is-sheet : (y : Held) (p : Parsed) → parse s ≡ p → n ≡ count_of k → Parses (length s) (begun n) p after (Ok (Some y)) → (after.lines ≡ 0 → ⊥)
        → Drafts (sheet_for s k) (Ok after.text)
    unfolding sheet_text
    is-sheet y (fault p) e q w z = absurd w
    is-sheet y (tree t) e q w z = go (convert n t []) refl (held (Some y) t w)
      where
        go : (c : Conversion) → convert n t [] ≡ c → HoldsAll (begun n).text after (Some y) c → Drafts (sheet_for s k) (Ok after.text)
        go (operand v []) f h = absurd (z h.draft.lines)
        go (operand v (l ∷ ls)) f h =
            drafted (given (sheet_text n (l ∷ ls))) (Ok after.text)
            (sheet-for t (some (sheet_text n (l ∷ ls))) e (sheet-is t (some (sheet_text n (l ∷ ls))) q (ap (sheet_from n) f)))
            (h.draft.text ∙ put_text-append (lent (replicate 4097 0) 0) (first_text (plain n) absent) (lines_text (l ∷ ls)))
        go mixed f h = absurd h

-- behind the first line, which was written
pub behind_first : (m n : ℕ) (before after : Sheet) (p : Parsed) (r : Result (Maybe Held) (Bor (List ℕ))) → before ≡ begun n → Parses m before p after r
    → Parses m (begun n) p after r
behind_first m n before after p r e h = subst (λ (x : Sheet). Parses m x p after r) e h

-- ════ its first bytes ════

-- what stands there of a sheet
pub record Front (bytes : List ℕ) (len : ℕ) (x : List ℕ) : Type 0 where
  pub inside : len ≤ length bytes
  pub count : len ≡ length (first_bytes x)
  pub bytes-are : take len bytes ≡ first_bytes x

in-front : (bytes rest : List ℕ) (len : ℕ) (x : List ℕ) → bytes ≡ first_bytes x ++ rest → len ≡ length (first_bytes x) → Front bytes len x
in-front bytes rest len x b n = record {
  inside = omega (arith, n, simp length-append at (ap length b));
  count = n;
  bytes-are = rw (b, n) (take-append_seam (first_bytes x) rest);
}

-- in as many bytes as may be needed, all of them 0 before
pub front : (d : Lent) (x : List ℕ) → d ≡ in_bytes x → take d.at d.bytes ≡ first_bytes x
front d x e =
    let c = e ∙ cut_off (replicate 4097 0) x in
    (in-front d.bytes (drop (length x) (replicate 4097 0)) d.at x (ap (λ (o : Lent). o.bytes) c) (ap (λ (o : Lent). o.at) c)).bytes-are

-- a sheet that was cut is refused as the whole one is
pub cut-loads : (x : List ℕ) → load_of (first_bytes x) ≡ load_of x
unfolding load_of
cut-loads x = go (dec_lt 4097 (length x))
  where
    go : Dec (4097 < length x) → load_of (first_bytes x) ≡ load_of x
    go (yes h) =
        let n : length (first_bytes x) ≡ 4097 = length-take-le 4097 x (omega arith) in
        simp (lt-leb (length (first_bytes x)) 4096 (omega arith), lt-leb (length x) 4096 (omega arith))
    go (no h) = ap load_of (take_all 4097 x (omega arith))

pub front-loads : (bytes : List ℕ) (len : ℕ) (x : List ℕ) → Front bytes len x → load_of (take len bytes) ≡ load_of x
front-loads bytes len x f = ap load_of f.bytes-are ∙ cut-loads x

-- ════ what `convert` makes of a draft ════

pub drafted-sheet : (g : Given (List ℕ)) (d : Lent) → Drafts g (Ok d) → (x : List ℕ) × (g ≡ given x) × (d ≡ in_bytes x)
drafted-sheet (given x) d h = (x, refl, h)
drafted-sheet (refused r) d h = absurd h

pub drafted-refusal : (g : Given (List ℕ)) (why : Refusal) → Drafts g (Err why) → g ≡ refused why
drafted-refusal (given x) why h = absurd h
drafted-refusal (refused r) why h = ap refused (sym h)

module _ (s : List ℕ) (k : ℕ) where
  module _ (d : Lent) (h : Drafts (sheet_for s k) (Ok d)) where
    pub converts : (bytes : List ℕ) → bytes ≡ take d.at d.bytes → made.Sheet (length bytes) ≡ converted_of s k
    unfolding converted_of
    converts bytes e =
        let x = drafted-sheet (sheet_for s k) d h in
        ap (λ (l : List ℕ). made.Sheet (length l)) (e ∙ front d x.0 x.2) ∙ ap answered (sym x.1)

    pub fills : (bytes sheet : List ℕ) → bytes ≡ take d.at d.bytes → length sheet ≡ 4097 → bytes ++ drop (length bytes) sheet ≡ buffer_of s k sheet
    unfolding buffer_of
    fills bytes sheet e n =
        let x = drafted-sheet (sheet_for s k) d h in
        let t : length (first_bytes x.0) ≤ length sheet = omega (arith, length-take 4097 x.0) in
        ap (λ (l : List ℕ). l ++ drop (length l) sheet) (e ∙ front d x.0 x.2)
        ∙ ap (λ (o : Lent). o.bytes) (sym (filled sheet (first_bytes x.0) t))
        ∙ ap (λ (g : Given (List ℕ)). buffer_after g sheet) (sym x.1)

  pub refuses : (why : Refusal) → Drafts (sheet_for s k) (Err why)
      → (made.Refused why ≡ converted_of s k) × ((sheet : List ℕ) → sheet ≡ buffer_of s k sheet)
  unfolding converted_of buffer_of
  refuses why h =
      let e = drafted-refusal (sheet_for s k) why h in
      (ap answered (sym e), λ sheet. ap (λ (g : Given (List ℕ)). buffer_after g sheet) (sym e))

module _ (s : List ℕ) (k : ℕ) (after : List ℕ) where
  -- the front of a sheet, put into the buffer: what the call says, and what it leaves there
  pub converted : (len : ℕ) (x : List ℕ) → sheet_for s k ≡ given x → Front after len x → (before exit : List ℕ) (at : ℕ)
      → lent exit at ≡ put_text (lent before 0) (take len after) → (made.Sheet len ≡ converted_of s k) × (exit ≡ buffer_of s k before)
  unfolding converted_of buffer_of
  converted len x e f before exit at w = (
    ap made.Sheet f.count ∙ ap answered (sym e),
    ap (λ (o : Lent). o.bytes) (w ∙ ap (put_text (lent before 0)) f.bytes-are) ∙ ap (λ (g : Given (List ℕ)). buffer_after g before) (sym e),
  )

-- ════ what its caller finds, who lent 4,097 zeros ════

module _ (s : List ℕ) (k : ℕ) (after : List ℕ) (e : after ≡ buffer_of s k (replicate 4097 0)) (r : Converted) (c : r ≡ converted_of s k) where
  -- the sheet's first bytes, put into the zeros
  pub called-out : (len : ℕ) (x : List ℕ) → r ≡ made.Sheet len → sheet_for s k ≡ given x → lent after len ≡ put_text (lent (replicate 4097 0) 0) (first_bytes x)
  unfolding converted_of buffer_of
  called-out len x q h =
      let t : length (first_bytes x) ≤ 4097 = omega (arith, length-take 4097 x) in
      let w = filled (replicate 4097 0) (first_bytes x) t in
      let o : after ≡ (put_text (lent (replicate 4097 0) 0) (first_bytes x)).bytes = e ∙ ap (λ (g : Given (List ℕ)). buffer_after g (replicate 4097 0)) h in
      let n : made.Sheet len ≡ made.Sheet (length (first_bytes x)) = sym q ∙ c ∙ ap answered h in
      let m : len ≡ length (first_bytes x) = cc in
      ap₂ lent (o ∙ ap (λ (y : Lent). y.bytes) w) m ∙ sym w

  pub called-sheet : (len : ℕ) → r ≡ made.Sheet len → (x : List ℕ) × (sheet_for s k ≡ given x) × Front after len x
  unfolding converted_of
  called-sheet len q = go (sheet_for s k) refl
    where
      go : (g : Given (List ℕ)) → sheet_for s k ≡ g → (x : List ℕ) × (sheet_for s k ≡ given x) × Front after len x
      go (given x) h =
          let t : length (first_bytes x) ≤ 4097 = omega (arith, length-take 4097 x) in
          let b = called-out len x q h ∙ filled (replicate 4097 0) (first_bytes x) t in (
            x,
            h,
            in-front after (drop (length (first_bytes x)) (replicate 4097 0)) len x (ap (λ (o : Lent). o.bytes) b) (ap (λ (o : Lent). o.at) b),
          )
      go (refused why) h = absurd (let n : made.Sheet len ≡ made.Refused why = sym q ∙ c ∙ ap answered h in let z : ◌≡◌ {A = ℕ} 0 1 = cc in omega arith)

  pub called-refusal : (why : Refusal) → r ≡ made.Refused why → sheet_for s k ≡ refused why
  unfolding converted_of
  called-refusal why q = go (sheet_for s k) refl
    where
      go : (g : Given (List ℕ)) → sheet_for s k ≡ g → sheet_for s k ≡ refused why
      go (given x) h = absurd (let n : made.Sheet (length (first_bytes x)) ≡ made.Refused why = sym (ap answered h) ∙ sym c ∙ q in let z : ◌≡◌ {A = ℕ} 0 1 = cc in omega arith)
      go (refused r) h = let n : made.Refused r ≡ made.Refused why = sym (ap answered h) ∙ sym c ∙ q in let m : r ≡ why = cc in h ∙ ap refused m

-- and what is loaded then
pub loaded-given : (s : List ℕ) (k : ℕ) (x : List ℕ) → sheet_for s k ≡ given x → formula_of s k ≡ given (load_of x)
unfolding formula_of
loaded-given s k x e = ap loaded_sheet e

pub loaded-refused : (s : List ℕ) (k : ℕ) (why : Refusal) → sheet_for s k ≡ refused why → formula_of s k ≡ refused why
unfolding formula_of
loaded-refused s k why e = ap loaded_sheet e
