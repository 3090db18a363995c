-- Laws of the search for the line w that parts the input.
use Prim.Native.Nat.{ℕ, suc, ◌+◌, ◌≤◌, ◌<◌}
use mathlib.Core.Bool.{Bool, true, false, cond, ◌&&◌, and-false}
use mathlib.Core.List.{List, [], ◌∷◌}
use mathlib.Core.Logic.{inl, inr}
use mathlib.Core.Path.{◌≡◌, refl, sym, ap, ◌∙◌}
use native.Mathlib.Numerals.{add-one}
use native.Mathlib.Omega.{arith}
use lib.Dec.{eqb}
use lib.ListN.{length, get_or, drop, drop_of_length-le}
use lib.Seq.{drop-cons}
use native.Mathlib.Decide.{ℕ_discrete}
use Rattle.std.proofs.lemmas.Bool.Decides.{nat_tests}
use borrow.Author.Tests.{eq-eqb, ne_eqb}
use Rattle.std.specs.Borrow.{Bor}
use Rattle.std.specs.Prelude.{Option, Some, None}
use Rattle.std.specs.Option.{unwrap_or}
use Rattle.std.specs.List.{starts_with}
use Rattle.std.specs.Slice.{IsGetRangeResult}
use Rattle.std.proofs.lemmas.List.{take_rest}
use Rattle.codelist.specs.Read.{peek, rest}
use Rattle.codelist.proofs.Laws.{peek-in, rest-drop}
use Rattle.text.specs.Input.{is_line, sheet_length}

-- The line does not stand where no more bytes are left than its word has
pub line-short : (w s : List ℕ) → length s ≤ length w → is_line w s ≡ false
unfolding is_line peek rest
line-short [] [] h = refl
line-short [] (b ∷ s) h = absurd (omega arith)
line-short (c ∷ w) [] h = rw (line-short w [] (omega arith)) (and-false (eqb 256 c))
line-short (c ∷ w) (b ∷ s) h = rw (line-short w s (omega arith)) (and-false (eqb b c))

-- The line stands where a text begins with its word, and what follows with byte 10
pub line_is : (w s : List ℕ) → (starts_with eqb s w && starts_with eqb (drop (length w) s) (10 ∷ [])) ≡ is_line w s
unfolding is_line peek rest
line_is [] [] = refl
line_is [] (b ∷ s) = grind (arith, nat_tests)
line_is (c ∷ w) [] = rw (line-short w [] (omega arith)) (sym (and-false (eqb 256 c)))
line_is (c ∷ w) (b ∷ s) = elim (ℕ_discrete b c) [
  | yes e ↦ rw (e, eq-eqb c c refl) (line_is w s)
  | no n ↦ rw (ne_eqb b c n, ne_eqb c b (λ e. n (sym e)))
]

-- One byte of it: the word has no other there, and the line goes on behind it; behind the word stands byte 10
module _ (w s : List ℕ) (i j : ℕ) (h : j < length s) where
  module _ (g : i < length w) where
    -- another byte
    pub line-stop : (get_or s j 0 ≡ get_or w i 0 → ⊥) → false ≡ is_line (drop i w) (drop j s)
    unfolding is_line
    line-stop n = rw (drop-cons w i 0 g, peek-in s j h, ne_eqb (get_or s j 0) (get_or w i 0) n)

    -- the word's byte
    pub line-more : get_or s j 0 ≡ get_or w i 0 → is_line (drop (i + 1) w) (drop (j + 1) s) ≡ is_line (drop i w) (drop j s)
    unfolding is_line
    line-more e = rw (drop-cons w i 0 g, peek-in s j h, eq-eqb (get_or s j 0) (get_or w i 0) e, add-one i, ← rest-drop)

  -- behind the word
  pub line-end : length w ≤ i → eqb (get_or s j 0) 10 ≡ is_line (drop i w) (drop j s)
  unfolding is_line
  line-end g = rw (drop_of_length-le w g, peek-in s j h)

-- The sheet is no longer than the text
pub sheet_length-≤ : (w : List ℕ) (start : Bool) (s : List ℕ) → sheet_length w start s ≤ length s
unfolding sheet_length
sheet_length-≤ w start [] = omega arith
sheet_length-≤ w start (b ∷ s) = go (start && is_line w (b ∷ s)) (sheet_length w (eqb b 10) s) (sheet_length-≤ w (eqb b 10) s)
  where
    go : (c : Bool) (n : ℕ) → n ≤ length s → cond c 0 (suc n) ≤ suc (length s)
    go true n h = omega arith
    go false n h = omega arith

-- What stands from a place on, and nothing past the end
pub rest_from : (s : List ℕ) (i : ℕ) (r : Option (Bor (List ℕ))) (d x : Bor (List ℕ)) → d.now ≡ [] → IsGetRangeResult s i (length s) r
    → x ≡ unwrap_or r d → x.now ≡ drop i s
rest_from s i (Some y) d x e g p = ap (λ (z : Bor (List ℕ)). z.now) p ∙ g.0.2 ∙ take_rest s i
rest_from s i None d x e g p =
    ap (λ (z : Bor (List ℕ)). z.now) p ∙ e ∙ sym (drop_of_length-le s {i = i} (elim g.0 [ inl h ↦ omega arith | inr h ↦ omega arith ]))

-- After `at` bytes: what is before the line is these and what is before it in the rest
abbrev pub Searched : List ℕ → List ℕ → ℕ → Bool → Type 0
Searched w s at start = (at ≤ length s) × (at + sheet_length w start (drop at s) ≡ sheet_length w true s)

module _ (w s : List ℕ) (at : ℕ) (start : Bool) (i : Searched w s at start) where
  pub found : at < length s → (start && is_line w (drop at s)) ≡ true → at ≡ sheet_length w true s
  unfolding sheet_length
  found h e =
      let d = drop-cons s at 0 h in
      let z : sheet_length w start (drop at s) ≡ 0 = rw d (simp (rw d at e)) in
      omega (arith, i.1)

  pub passed : at < length s → (start && is_line w (drop at s)) ≡ false → Searched w s (at + 1) (eqb (get_or s at 0) 10)
  unfolding sheet_length
  passed h e =
      let d = drop-cons s at 0 h in
      let z : sheet_length w start (drop at s) ≡ suc (sheet_length w (eqb (get_or s at 0) 10) (drop (suc at) s)) = rw d (simp (rw d at e)) in
      (omega arith, rw (add-one at) (omega (arith, i.1)))

  pub ended : length s ≤ at → at ≡ sheet_length w true s
  unfolding sheet_length
  ended h =
      let z : sheet_length w start (drop at s) ≡ 0 = rw (drop_of_length-le s h) in
      omega (arith, i.1)
