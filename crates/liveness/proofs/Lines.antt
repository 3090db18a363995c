-- A number as the writer puts it is the sheet's numeral, and a line with it the sheet's line. Assumes nothing.
use Prim.Native.Nat.{ℕ, ◌^◌, ◌<◌}
use mathlib.Core.List.{List, [], ◌∷◌, ◌++◌}
use mathlib.Core.Path.{◌≡◌, sym, ap, ap₂, ◌∙◌}
use native.Mathlib.Omega.{arith}
use lib.Dec.{lit<}
use lib.IntN.{ℤ, nat_abs}
use Rattle.codelist.specs.declared.Op.{Op}
use Rattle.codelist.specs.Text.{numeral_text, two, line_text}
use Rattle.codelist.specs.Write.{plain, numeral_of, text_line_of}
use Rattle.writer.specs.Lent.{Lent, put_text}
use Rattle.writer.specs.Texts.{natural_text, whole_text, line_of_one, line_of_two}
use Rattle.writer.proofs.Signs.{natural-numeral, whole-numeral}

pub of_byte : (n : ℕ) → n < 256 → numeral_text (plain n) ≡ natural_text n
of_byte n h = sym (natural-numeral n (omega arith))

pub of_year : numeral_text (plain 2014) ≡ natural_text 2014
of_year = sym (natural-numeral 2014 (lit< tt))

pub of_constant : (x : ℤ) → nat_abs x < 10 ^ 10 → numeral_text (numeral_of x) ≡ whole_text x
of_constant x h = sym (whole-numeral x h)

-- ---- the line around it
-- a is the number i, of a byte
abbrev pub Byte : ℕ → ℕ → Type 0
Byte a i = (a ≡ i) × (a < 256)

byte-text : (a i : ℕ) → Byte a i → natural_text a ≡ numeral_text (plain i)
byte-text a i (e, h) = sym (of_byte a h) ∙ ap (λ (n : ℕ). numeral_text (plain n)) e

-- nothing after the number
pub single-text : (w : List ℕ) (a i : ℕ) → Byte a i → line_of_one w a ≡ w ++ (numeral_text (plain i) ++ (10 ∷ []))
single-text w a i x = ap (λ (l : List ℕ). w ++ (l ++ (10 ∷ []))) (byte-text a i x)

-- a text after the number
pub double-text : (w : List ℕ) (a i : ℕ) → Byte a i → {l m : List ℕ} → l ≡ m → line_of_two w a l ≡ w ++ (numeral_text (plain i) ++ (9 ∷ (m ++ (10 ∷ []))))
double-text w a i x e = ap₂ (λ (k n : List ℕ). w ++ (k ++ (9 ∷ (n ++ (10 ∷ []))))) (byte-text a i x) e

-- the line that was put is the operation's
module _ (t q : Lent) (w : List ℕ) (a i : ℕ) (o : Op) where
  -- of one number
  pub one_line : q ≡ put_text t (line_of_one w a) → Byte a i → line_text (text_line_of o) ≡ w ++ (numeral_text (plain i) ++ (10 ∷ []))
      → q ≡ put_text t (line_text (text_line_of o))
  one_line e x s = e ∙ ap (put_text t) (single-text w a i x ∙ sym s)

  -- of two
  pub two-line : (b j : ℕ) → q ≡ put_text t (line_of_two w a (natural_text b)) → Byte a i → Byte b j → line_text (text_line_of o) ≡ two w (plain i) (plain j)
      → q ≡ put_text t (line_text (text_line_of o))
  two-line b j e x y s =
      e ∙ ap (put_text t) (double-text w a i x (byte-text b j y) ∙ sym s)

  -- of a number and a constant, with its sign
  pub signed-line : (z : ℤ) → q ≡ put_text t (line_of_two w a (whole_text z)) → Byte a i → nat_abs z < 10 ^ 10
      → line_text (text_line_of o) ≡ two w (plain i) (numeral_of z) → q ≡ put_text t (line_text (text_line_of o))
  signed-line z e x h s =
      e ∙ ap (put_text t) (double-text w a i x (whole-numeral z h) ∙ sym s)
