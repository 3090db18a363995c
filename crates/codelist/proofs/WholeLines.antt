-- The text of a line has its only byte 10 at its end. So it is the same line that is read, whatever follows the first byte 10. Assumes nothing.
use Prim.Native.Nat.{ℕ, suc, zero, ◌+◌, ◌/◌, ◌%◌}
use mathlib.Core.Bool.{Bool, true, false, cond, ◌&&◌, not, false≢true}
use mathlib.Core.List.{List, [], ◌∷◌, ◌++◌, append_assoc}
use mathlib.Core.Path.{◌≡◌, refl, sym, ap, ◌∙◌}
use native.Mathlib.Omega.{arith}
use lib.Dec.{ltb, eqb}
use borrow.Author.Tests.{eq-eqb}
use Rattle.codelist.specs.declared.Numeral.{Numeral}
use Rattle.codelist.specs.Text.{TextLine, Add, Mul, AddC, MulC, Pow, Inv, YearField, absent, written, decimal, numeral_text, first_text}
use Rattle.codelist.specs.Text.{two, line_text, factors→, add→, mul→, addc→, mulc→, pow→, inv→}
use Rattle.codelist.specs.Read.{Read, good}
use Rattle.codelist.specs.Exchange.{WithinLine}
use Rattle.codelist.proofs.Laws.{both_true}

-- The bytes p end with their only byte 10
pub record Whole (p : List ℕ) : Type 0 where
  pub front : List ℕ
  pub within : WithinLine front
  pub text : p ≡ front ++ (10 ∷ [])

within-append : (k l : List ℕ) → WithinLine k → WithinLine l → WithinLine (k ++ l)
within-append [] l h g = g
within-append (b ∷ k) l (n, h) g = (n, within-append k l h g)

after : (k p : List ℕ) → WithinLine k → Whole p → Whole (k ++ p)
after k p h w = record {
  front = k ++ w.front;
  within = within-append k w.front h w.within;
  text = ap (λ (l : List ℕ). k ++ l) w.text ∙ sym (append_assoc k w.front (10 ∷ []));
}

ending : Whole (10 ∷ [])
ending = record { front = []; within = tt; text = refl }

-- ---- words and numerals have no byte 10
abbrev no_ten : List ℕ → Bool
no_ten [] = true
no_ten (b ∷ w) = not (eqb b 10) && no_ten w

word-within : (w : List ℕ) → no_ten w ≡ true → WithinLine w
word-within [] e = tt
word-within (b ∷ w) e =
    let h = both_true (not (eqb b 10)) (no_ten w) e in
    (λ p. false≢true (rw (eq-eqb b 10 p) at h.0), word-within w h.1)

one-within : (d : ℕ) → WithinLine ((48 + d) ∷ [])
one-within d = (λ p. omega arith, tt)

decimal-within : (k m : ℕ) → WithinLine (decimal k m)
unfolding decimal
decimal-within zero m = one-within m
decimal-within (suc k) m = go (ltb m 10) (decimal-within k (m / 10))
  where
    go : (b : Bool) → WithinLine (decimal k (m / 10)) → WithinLine (cond b ((48 + m) ∷ []) (decimal k (m / 10) ++ ((48 + m % 10) ∷ [])))
    go true h = one-within m
    go false h = within-append (decimal k (m / 10)) ((48 + m % 10) ∷ []) h (one-within (m % 10))

numeral-within : (w : Numeral) → WithinLine (numeral_text w)
unfolding numeral_text
numeral-within w = go w.negative (decimal-within 9 w.magnitude)
  where
    go : (b : Bool) → WithinLine (decimal 9 w.magnitude) → WithinLine (cond b (45 ∷ decimal 9 w.magnitude) (decimal 9 w.magnitude))
    go true h = (λ p. omega arith, h)
    go false h = h

-- ---- the lines
numeral-then : (w : Numeral) (p : List ℕ) → Whole p → Whole (numeral_text w ++ p)
numeral-then w p = after (numeral_text w) p (numeral-within w)

tab-then : (w : Numeral) → Whole (9 ∷ (numeral_text w ++ (10 ∷ [])))
tab-then w = after (9 ∷ []) _ (word-within (9 ∷ []) refl) (numeral-then w _ ending)

two-whole : (k : List ℕ) → no_ten k ≡ true → (i j : Numeral) → Whole (two k i j)
two-whole k h i j = after k _ (word-within k h) (numeral-then i _ (tab-then j))

pub line-whole : (l : TextLine) → Whole (line_text l)
line-whole (Add i j) = two-whole add→ refl i j
line-whole (Mul i j) = two-whole mul→ refl i j
line-whole (AddC i c) = two-whole addc→ refl i c
line-whole (MulC i c) = two-whole mulc→ refl i c
line-whole (Pow i m) = two-whole pow→ refl i m
line-whole (Inv i) = after inv→ _ (word-within inv→ refl) (numeral-then i _ ending)

pub first-whole : (n : Numeral) (f : YearField) → Whole (first_text n f)
first-whole n absent = after factors→ _ (word-within factors→ refl) (numeral-then n _ ending)
first-whole n (written y) = two-whole factors→ refl n y

-- ---- a text has one first byte 10
cut : (k l s t : List ℕ) → WithinLine k → WithinLine l → k ++ (10 ∷ s) ≡ l ++ (10 ∷ t) → (k ≡ l) × (s ≡ t)
cut [] [] s t g h e = (refl, cc)
cut [] (b ∷ l) s t g h e = absurd (h.0 (cc))
cut (a ∷ k) [] s t g h e = absurd (g.0 (cc))
cut (a ∷ k) (b ∷ l) s t g h e =
    let (p, q) = cut k l s t g.1 h.1 (cc) in
    let r : a ≡ b = cc e in
    (λ i. r i ∷ p i, q)

-- A reader that finds exactly the lines of some form finds the same line, whatever follows its end
module _ {A : Type 0} (read : List ℕ → Read A) (text : A → List ℕ)
    (exact : (s : List ℕ) (x : A) (t : List ℕ) → read s ≡ good x t → (s ≡ text x ++ t) × ((u : List ℕ) → read (text x ++ u) ≡ good x u))
    (whole : (x : A) → Whole (text x)) where
  pub followed : (l s t : List ℕ) → WithinLine l → (x : A) (u : List ℕ) → read (l ++ (10 ∷ s)) ≡ good x u
      → (u ≡ s) × (read (l ++ (10 ∷ t)) ≡ good x t)
  followed l s t h x u e =
      let w = whole x in
      let (a, b) = exact (l ++ (10 ∷ s)) x u e in
      let (p, q) = cut l w.front s u h w.within (a ∙ followed-by x u) in
      (sym q, rw p (ap read (sym (followed-by x t)) ∙ b t))
    where
      followed-by : (y : A) (v : List ℕ) → text y ++ v ≡ (whole y).front ++ (10 ∷ v)
      followed-by y v = ap (λ (z : List ℕ). z ++ v) (whole y).text ∙ append_assoc (whole y).front (10 ∷ []) v
