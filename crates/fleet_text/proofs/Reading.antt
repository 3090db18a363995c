-- The loops over a boat's numerals and over the boat lines: what each way through a turn is of `numbers` and of `boat_lines`. Assumes nothing.
use Rattle.std.proofs.Common.{◌≡◌, ℕ, zero, suc, ◌+◌, ◌-◌, ◌<◌, ◌≤◌, List, [], ◌∷◌, ◌++◌, length, take, set, refl, sym, ◌∙◌, arith, add-one}
use Rattle.std.proofs.Math.Seq.{take_all, take-suc-set}
use lib.IntN.{ℤ}
use mathlib.Core.List.{map-append}
use mathlib.Core.Option.{none, some}
use Rattle.codelist.specs.declared.Numeral.{Numeral}
use Rattle.codelist.specs.Load.{value_of, saturated}
use Rattle.codelist.specs.Read.{good, bad, field}
use Rattle.codelist.proofs.Laws.{saturated-few}
use Rattle.codelist.proofs.LineTexts.{field-sound}
use Rattle.boats.specs.declared.Boat.{Boat}
use Rattle.boats.specs.Boats.{numbers_of}
use Rattle.fleet_text.specs.Input.{byte_after, numbers, boat_lines}

-- ---- the numerals of a line
-- what stands behind one is a byte
pub byte_small : (k : ℕ) → byte_after k < 256
byte_small zero = omega arith
byte_small (suc k) = omega arith

pub byte-tab : (a : ℕ) → a < 7 → 9 ≡ byte_after (7 - a)
byte-tab a h = let n : 7 - a ≡ suc (6 - a) = omega arith in rw n

pub byte-end : (a : ℕ) → 7 ≤ a → 10 ≡ byte_after (7 - a)
byte-end a h = let n : 7 - a ≡ 0 = omega arith in rw n

-- a of them are read into xs; e is the byte after the next one
module _ (a : ℕ) (xs : List ℤ) (s : List ℕ) (e : ℕ) (h : a < 8) (b : e < 256) (p : e ≡ byte_after (7 - a)) where
  pub line-bad : bad ≡ field e s → bad ≡ numbers (8 - a) (take a xs) s
  unfolding numbers
  line-bad f = let n : 8 - a ≡ suc (7 - a) = omega arith in rw (n, ← p, ← f)

  pub line-turn : (w : Numeral) (x : ℤ) (t : List ℕ) → length xs ≡ 8 → good w t ≡ field e s → x ≡ saturated w
      → numbers (8 - (a + 1)) (take (a + 1) (set xs a x)) t ≡ numbers (8 - a) (take a xs) s
  unfolding numbers
  line-turn w x t l f q =
      let n : 8 - a ≡ suc (7 - a) = omega arith in
      let m : 8 - (a + 1) ≡ 7 - a = omega arith in
      let v : x ≡ value_of w = q ∙ saturated-few w (field-sound e s w t b (sym f)).fine.few in
      let more : take (a + 1) (set xs a x) ≡ take a xs ++ (x ∷ []) = rw (add-one a) (take-suc-set xs a x (omega (arith, l))) in
      rw (n, m, ← p, ← f, more, v)

pub line-end : (a : ℕ) (xs : List ℤ) (s : List ℕ) → length xs ≡ 8 → 8 ≤ a → good xs s ≡ numbers (8 - a) (take a xs) s
unfolding numbers
line-end a xs s l h = let n : 8 - a ≡ 0 = omega arith in rw (n, take_all a xs (omega arith))

-- ---- the lines, after the boats bs
pub lines-bad : (k : ℕ) (bs : List (List ℤ)) (s : List ℕ) → 0 < length s → bad ≡ numbers 8 [] s → none ≡ boat_lines k bs s
unfolding boat_lines
lines-bad k bs [] h e = absurd (omega arith)
lines-bad zero bs (b ∷ s) h e = refl
lines-bad (suc k) bs (b ∷ s) h e = rw (← e)

pub lines-full : (k : ℕ) (bs : List (List ℤ)) (s : List ℕ) → 0 < length s → k ≡ 0 → none ≡ boat_lines k bs s
unfolding boat_lines
lines-full k bs [] h e = absurd (omega arith)
lines-full k bs (b ∷ s) h e = rw e

pub lines-turn : (j k : ℕ) (bs : List Boat) (b : Boat) (s t : List ℕ) → 0 < length s → k ≡ suc j → good b.numbers t ≡ numbers 8 [] s
    → boat_lines j (numbers_of (bs ++ (b ∷ []))) t ≡ boat_lines k (numbers_of bs) s
unfolding boat_lines
lines-turn j k bs b [] t h p e = absurd (omega arith)
lines-turn j k bs b (c ∷ s) t h p e = rw (p, ← e, map-append (λ (x : Boat). x.numbers) bs (b ∷ []))

pub lines-end : (k : ℕ) (bs : List (List ℤ)) (s : List ℕ) → length s ≡ 0 → some bs ≡ boat_lines k bs s
unfolding boat_lines
lines-end zero bs [] h = refl
lines-end (suc k) bs [] h = refl
lines-end k bs (b ∷ s) h = absurd (omega arith)
