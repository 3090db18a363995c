-- The first line: its length, its word and depth, and what follows it. Assumes nothing.
use Prim.Native.Nat.{ℕ, suc, ◌+◌, ◌≤◌, ◌<◌}
use mathlib.Core.Bool.{Bool, true, false, cond, not, ◌&&◌}
use mathlib.Core.List.{List, [], ◌∷◌}
use mathlib.Core.Path.{◌≡◌, refl, sym}
use borrow.Author.Rules.{rules}
use native.Mathlib.Numerals.{add-one}
use native.Mathlib.Omega.{arith}
use lib.Dec.{eqb, leb, ltb}
use lib.IntN.{negsuc}
use lib.ListN.{length, get_or, take, drop, drop_of_length-le}
use lib.Seq.{drop-cons}
use borrow.Author.Tests.{eq-eqb, ne_eqb, leb-true, leb-false, ltb-false}
use Rattle.std.specs.Prelude.{Some, None}
use Rattle.std.specs.Cmp.Lexicographic.{pointwise}
use Rattle.std.specs.List as std
use Rattle.std.specs.List.{position, position_or_len}
use Rattle.codelist.specs.declared.Numeral.{Numeral}
use Rattle.codelist.specs.Load.{value_of}
use Rattle.codelist.specs.Read.{good, bad, peek, rest, digit, positive, numeral, field, literal}
use Rattle.cut_text.specs.Input.{depth→, depth_line, depth_in, first_length, after_first}

-- ---- its length, place by place
module _ (s : List ℕ) (at : ℕ) where
  module _ (h : at < length s) where
    pub first-here : get_or s at 0 ≡ 10 → first_length (drop at s) ≡ 1
    unfolding first_length
    first-here e = rw (drop-cons s at 0 h, eq-eqb (get_or s at 0) 10 e)

    pub first_next : ¬ (get_or s at 0 ≡ 10) → first_length (drop at s) ≡ suc (first_length (drop (at + 1) s))
    unfolding first_length
    first_next n = rw (drop-cons s at 0 h, ne_eqb (get_or s at 0) 10 n, add-one at)

  pub first-none : length s ≤ at → first_length (drop at s) ≡ 0
  unfolding first_length
  first-none h = rw (drop_of_length-le s h)

-- the text has as many bytes
pub first_fits : (s : List ℕ) → first_length s ≤ length s
unfolding first_length
first_fits [] = omega arith
first_fits (b ∷ s) = go (eqb b 10) (first_fits s)
  where
    go : (t : Bool) → first_length s ≤ length s → cond t 1 (suc (first_length s)) ≤ suc (length s)
    go true h = omega arith
    go false h = omega arith

-- ---- what follows it
after-first : (s : List ℕ) → after_first s ≡ std.after_first (λ b. eqb b 10) s
unfolding after_first first_length
after-first [] = refl
after-first (b ∷ s) = go (eqb b 10) (after-first s)
  where
    go : (t : Bool) → drop (first_length s) s ≡ drop (position_or_len (λ x. eqb x 10) s + 1) s
        → drop (cond t 1 (suc (first_length s))) (b ∷ s) ≡ drop (cond (not t) (1 + position_or_len (λ x. eqb x 10) s) 0 + 1) (b ∷ s)
    go true e = refl
    go false e = let n : 1 + position_or_len (λ x. eqb x 10) s + 1 ≡ suc (position_or_len (λ x. eqb x 10) s + 1) = omega arith in rw n e

pub found : (s : List ℕ) (at : ℕ) → Some at ≡ position (λ b. eqb b 10) s → drop (at + 1) s ≡ after_first s
found s at e = go (ltb (position_or_len (λ b. eqb b 10) s) (length s)) e
  where
    go : (t : Bool) → Some at ≡ cond t (Some (position_or_len (λ b. eqb b 10) s)) None → drop (at + 1) s ≡ after_first s
    go true h = let p : at ≡ position_or_len (λ b. eqb b 10) s = cc in rw p (sym (after-first s))
    go false h = absurd (let z : ◌≡◌ {A = ℕ} 0 1 = cc in omega arith)

pub unfound : (s : List ℕ) → None ≡ position (λ b. eqb b 10) s → [] ≡ after_first s
unfound s e = go (ltb (position_or_len (λ b. eqb b 10) s) (length s)) refl e
  where
    go : (t : Bool) → ltb (position_or_len (λ b. eqb b 10) s) (length s) ≡ t → None ≡ cond t (Some (position_or_len (λ b. eqb b 10) s)) None
        → [] ≡ after_first s
    go true p h = absurd (let z : ◌≡◌ {A = ℕ} 0 1 = cc in omega arith)
    go false p h =
        let n = ltb-false (position_or_len (λ b. eqb b 10) s) (length s) p in
        rw (after-first s) (sym (drop_of_length-le s {i = position_or_len (λ b. eqb b 10) s + 1} (omega (arith, n))))

-- ---- its word
abbrev pub Bytes : List ℕ → Type 0
Bytes [] = Unit {0}
Bytes (b ∷ w) = (b < 256) × Bytes w

pub literal-prefix : (w s : List ℕ) → Bytes w → literal w s ≡ cond (pointwise eqb (take (length w) s) w) (good tt (drop (length w) s)) bad
unfolding literal peek rest
literal-prefix [] s h = refl
literal-prefix (b ∷ w) [] h = rw (ne_eqb 256 b (λ e. omega (arith, h.0, e)))
literal-prefix (b ∷ w) (x ∷ s) h = go (eqb x b) (literal-prefix w s h.1)
  where
    go : (t : Bool) → literal w s ≡ cond (pointwise eqb (take (length w) s) w) (good tt (drop (length w) s)) bad
        → cond t (literal w s) bad ≡ cond (t && pointwise eqb (take (length w) s) w) (good tt (drop (length w) s)) bad
    go true e = e
    go false e = refl

-- ---- its depth
module _ (s : List ℕ) where
  -- where a numeral ends the line, there are bytes enough for the word
  pub word_fits : {d : Numeral} {t : List ℕ} → field 10 (drop 6 s) ≡ good d t → 6 ≤ length s
  unfolding field numeral positive digit peek
  word_fits e = go (leb 6 (length s)) refl
    where
      go : (b : Bool) → leb 6 (length s) ≡ b → 6 ≤ length s
      go true l = leb-true 6 (length s) l
      go false l =
          let z : drop 6 s ≡ [] = drop_of_length-le s {i = 6} (omega (arith, leb-false 6 (length s) l)) in
          absurd (let f : ◌≡◌ {A = ℕ} 0 1 = cc (rw z at e) in omega arith)

  -- with a numeral, the depth is its value, or none without the word
  pub depth-read : (w : Bool) {d : Numeral} {t : List ℕ} → literal depth→ s ≡ cond w (good tt (drop 6 s)) bad → field 10 (drop 6 s) ≡ good d t
      → depth_in s ≡ cond w (value_of d) (negsuc 0)
  unfolding depth_in depth_line
  depth-read true l e = rw (l, e)
  depth-read false l e = rw l

  -- and none without a numeral
  pub depth-unread : field 10 (drop 6 s) ≡ bad → depth_in s ≡ negsuc 0
  unfolding depth_in depth_line
  depth-unread e = go (pointwise eqb (take 6 s) depth→) (literal-prefix depth→ s (search rules))
    where
      go : (w : Bool) → literal depth→ s ≡ cond w (good tt (drop 6 s)) bad → depth_in s ≡ negsuc 0
      go true l = rw (l, e)
      go false l = rw l
