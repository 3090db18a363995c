-- Every line of a formula of at most 1,024 bytes has numerals: there are at most two lines a byte, so that the lines' numbers have few digits, and
-- constants have few digits as they are written.
use Prim.Native.Nat.{ℕ, suc, zero, ◌+◌, ◌*◌, ◌^◌, ◌≤◌, ◌<◌}
use mathlib.Core.List.{List, [], ◌∷◌, ◌++◌}
use mathlib.Core.Path.{◌≡◌, ap}
use native.Mathlib.Omega.{arith}
use lib.ListN.{length, length-append}
use Rattle.codelist.specs.Text.{TextLine, HasNumerals}
use Rattle.codelist.proofs.Checks.{plain-numeral}
use Rattle.formulas.specs.Grammar.{Tree, bracket, power, join, Sign, plus, minus, times, over, sign_byte, text_of, Stands, sum, deepest}
use Rattle.formulas.specs.Convert.{Operand, fixed, line, Conversion, operand, mixed, next, one, joined, raised, convert, count_of}
use Rattle.formulas.specs.Exactly.{Spells, AllNumerals}
use Rattle.formulas.proofs.Conversions.{Parts, by_parts}
use Rattle.formulas.proofs.Numbers.{units_small, count_small, reference-small, minus-one-numeral, negated-numeral}

abbrev Short : Operand → Type 0
Short (fixed c) = c < 10 ^ 10
Short (line i) = i < 10 ^ 10

-- At most so many lines, of numerals
abbrev Numbered : ℕ → Conversion → Type 0
Numbered most (operand x ks) = AllNumerals ks × Short x × (length ks ≤ most)
Numbered most mixed = Unit

widen : (k m : ℕ) (c : Conversion) → k ≤ m → Numbered k c → Numbered m c
widen k m (operand x ks) h g = (g.0, g.1, omega (arith, g.2))
widen k m mixed h g = tt

numerals-more : (ls : List TextLine) (l : TextLine) → AllNumerals ls → HasNumerals l → AllNumerals (ls ++ (l ∷ []))
numerals-more [] l h g = (g, tt)
numerals-more (k ∷ ls) l h g = (h.0, numerals-more ls l h.1 g)

-- ════ two operands and a sign ════

module _ (n : ℕ) (js : List TextLine) (a : AllNumerals js) (few : n + length js + 2 < 10 ^ 10) where
  add-one : (l : TextLine) → HasNumerals l → Numbered (length js + 2) (one n js l)
  add-one l h = (numerals-more js l a h, omega arith, omega (arith, length-append js (l ∷ [])))

  -- the second line may refer to the first
  add-two : (l m : TextLine) → HasNumerals l → (next n js < 10 ^ 10 → HasNumerals m) → Numbered (length js + 2) (one n (js ++ (l ∷ [])) m)
  add-two l m h g =
      let e = length-append js (l ∷ []) in
      let ks = js ++ (l ∷ []) in
      (numerals-more ks m (numerals-more js l a h) (g (omega arith)), omega (arith, e), omega (arith, e, length-append ks (m ∷ [])))

  joined-numbered : (o : Sign) (x y : Operand) → Short x → Short y → Numbered (length js + 2) (joined n o x y js)
  joined-numbered plus (line i) (line j) p q = add-one _ (plain-numeral i p, plain-numeral j q)
  joined-numbered plus (line i) (fixed c) p q = add-one _ (plain-numeral i p, plain-numeral c q)
  joined-numbered plus (fixed c) (line j) p q = add-one _ (plain-numeral j q, plain-numeral c p)
  joined-numbered plus (fixed c) (fixed e) p q = tt
  joined-numbered minus (line i) (line j) p q =
      add-two _ _ (plain-numeral j q, minus-one-numeral) (λ h. (plain-numeral i p, plain-numeral _ h))
  joined-numbered minus (line i) (fixed c) p q = add-one _ (plain-numeral i p, negated-numeral c q)
  joined-numbered minus (fixed c) (line j) p q =
      add-two _ _ (plain-numeral j q, minus-one-numeral) (λ h. (plain-numeral _ h, plain-numeral c p))
  joined-numbered minus (fixed c) (fixed e) p q = tt
  joined-numbered times (line i) (line j) p q = add-one _ (plain-numeral i p, plain-numeral j q)
  joined-numbered times (line i) (fixed c) p q = add-one _ (plain-numeral i p, plain-numeral c q)
  joined-numbered times (fixed c) (line j) p q = add-one _ (plain-numeral j q, plain-numeral c p)
  joined-numbered times (fixed c) (fixed e) p q = tt
  joined-numbered over (line i) (line j) p q = add-two _ _ (plain-numeral j q) (λ h. (plain-numeral i p, plain-numeral _ h))
  joined-numbered over (line i) (fixed c) p q = tt
  joined-numbered over (fixed c) (line j) p q = add-two _ _ (plain-numeral j q) (λ h. (plain-numeral _ h, plain-numeral c p))
  joined-numbered over (fixed c) (fixed e) p q = tt

  raised-numbered : (x : Operand) (m : ℕ) → Short x → m ≤ 9 → Numbered (length js + 2) (raised n x m js)
  raised-numbered (line i) m p q = add-one _ (plain-numeral i p, plain-numeral m (omega arith))
  raised-numbered (fixed c) m p q = tt

-- ════ a tree ════

-- the lines after ls, at most two for each byte of the tree's text
abbrev most : List TextLine → Tree → ℕ
most ls t = length ls + 2 * length (text_of t)

abbrev Spelling : ℕ → Tree → List TextLine → Conversion → Type 0
Spelling n t ls c = (r room : ℕ) → Stands r room t → AllNumerals ls → n + most ls t < 10 ^ 10 → Numbered (most ls t) c

spelling-parts : (n : ℕ) → Parts n (Spelling n)
unfolding text_of
spelling-parts n = record {
  of-factor = λ i ls r room s a h. (a, omega (arith, reference-small n i, s.1), omega arith);
  of-constant = λ w d ls r room s a h. (a, units_small w d s.0 s.1, omega arith);
  of-bracket = λ t ls c f r room s a h. inside t ls c r room s (λ k g. f sum k g a (omega (arith, length-append (text_of t) (41 ∷ []))));
  of-power = λ t m ls ks x f r room s a h.
      let e = length-append (text_of t) (94 ∷ (48 + m) ∷ []) in
      let (b, p, k) = f 0 room s.1 a (omega (arith, e)) in
      widen (length ks + 2) (most ls (power t m)) (raised n x m ks) (omega (arith, e)) (raised-numbered n ks b (omega (arith, e)) x m p s.2);
  of-join = λ o t u ls ks js x y f g r room s a h.
      let e = length-append (text_of t) (sign_byte o ∷ text_of u) in
      let (b, p, k) = f _ room s.1 a (omega (arith, e)) in
      let (d, q, l) = g _ room s.2 b (omega (arith, e)) in
      widen (length js + 2) (most ls (join o t u)) (joined n o x y js) (omega (arith, e)) (joined-numbered n js d (omega (arith, e)) o x y p q);
  none-power = λ t m ls h r room s a k. tt;
  none_left = λ o t u ls h r room s a k. tt;
  none_right = λ o t u ls ks h r room s a k. tt;
}
  where
    inside : (t : Tree) (ls : List TextLine) (c : Conversion) (r room : ℕ) → Stands r room (bracket t)
        → ((k : ℕ) → Stands sum k t → Numbered (most ls t) c) → Numbered (most ls (bracket t)) c
    inside t ls c r zero s f = absurd s
    inside t ls c r (suc room) s f = widen (most ls t) (most ls (bracket t)) c (omega (arith, length-append (text_of t) (41 ∷ []))) (f room s)

pub spelled : (s : List ℕ) (k : ℕ) (t : Tree) (x : Operand) (ls : List TextLine) → Spells t s → convert (count_of k) t [] ≡ operand x ls
    → AllNumerals ls
spelled s k t x ls w e =
    let n = count_of k in
    let g = by_parts n (Spelling n) (spelling-parts n) t [] sum deepest w.writes.stands tt
    (omega (arith, count_small k, w.short, ap length w.writes.text)) in
    (rw e at g).0
