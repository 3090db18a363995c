-- Lines that are written are the lines of the conversion.
use Prim.Native.Nat.{ℕ, suc, zero, ◌+◌, ◌^◌, ◌≤◌, ◌<◌, min}
use mathlib.Core.Bool.{true}
use mathlib.Core.List.{List, [], ◌∷◌, ◌++◌, append_assoc, append-nil}
use mathlib.Core.Path.{◌≡◌, refl, sym, ap, subst, ◌∙◌}
use native.Mathlib.Omega.{arith}
use lib.IntN.{ℤ, pos, negsuc, nat_abs, ◌-ℤ◌}
use mir.Syntax.{w64}
use lib.Signed.{mag}
use mir.Val.{to_z, of_z}
use Rattle.std.proofs.lemmas.Int.{ints}
use Rattle.std.proofs.Math.Facts.{to_z_pos, to_z-of_z}
use lib.ListN.{length, length-append}
use Rattle.std.specs.declared.option.Option.{Option as Maybe}
use Rattle.std.specs.declared.option.Option.TheVariants.{Some}
use Rattle.codelist.specs.Load.{saturated, value_of}
use Rattle.codelist.specs.Text.{TextLine, Inv, two, line_text, absent, first_text, factors→, inv→}
use Rattle.codelist.specs.Write.{plain, numeral_of}
use Rattle.writer.specs.Lent.{Lent, put_text}
use Rattle.writer.specs.Texts.{natural_text, whole_text, line_of_one, line_of_two}
use Rattle.writer.proofs.Signs.{natural-numeral, whole-numeral}
use Rattle.writer.proofs.Writing.{put_text-append}
use Rattle.formulas.specs.declared.lines.Operand as code
use Rattle.formulas.specs.declared.lines.Sheet.{Sheet}
use Rattle.formulas.specs.declared.lines.Sign as sign
use Rattle.formulas.specs.Convert.{line, joined, one, two as both, next as number_after, lines_text, negated}
use Rattle.formulas.specs.Views.{operand_of, next, with_line, Draft, Holds, Makes, Joined, sign_of}

-- ════ the text of a line, as `writer` puts it and as a sheet has it ════

pub first-text : (n : ℕ) → n ≤ 9 → line_of_one factors→ n ≡ first_text (plain n) absent
first-text n h = rw (natural-numeral n (omega arith))

pub inverse-text : (i : ℕ) → i < 10 ^ 10 → line_of_one inv→ i ≡ line_text (Inv (plain i))
inverse-text i h = rw (natural-numeral i h)

pub natural-text : (w : List ℕ) (i j : ℕ) → i < 10 ^ 10 → j < 10 ^ 10 → line_of_two w i (natural_text j) ≡ two w (plain i) (plain j)
natural-text w i j h g = rw (natural-numeral i h, natural-numeral j g)

pub whole-text : (w : List ℕ) (i : ℕ) (x : ℤ) → i < 10 ^ 10 → nat_abs x < 10 ^ 10 → line_of_two w i (whole_text x) ≡ two w (plain i) (numeral_of x)
whole-text w i x h g = rw (natural-numeral i h, whole-numeral x g)

minus-suc : (c : ℕ) → pos 0 -ℤ pos (suc c) ≡ negsuc c
minus-suc c = omega (arith, ints)

-- "a subtracted 0 is written `0`": an integer has one 0
pub subtracted : (c : ℕ) → c < 10 ^ 10 → (x : ℤ) → x ≡ saturated (record { negative = true; magnitude = c })
    → (numeral_of x ≡ negated c) × (nat_abs x < 10 ^ 10)
unfolding saturated value_of numeral_of negated
subtracted zero h x e = rw e (refl, h)
subtracted (suc c) h x e =
    let m : min (suc c) 9223372036854775807 ≡ suc c = omega arith in
    rw (e, m) (refl, h)

-- that value is what is left of 0
saturated-minus : (c : ℕ) → c < 10 ^ 10 → saturated (record { negative = true; magnitude = c }) ≡ pos 0 -ℤ pos c
unfolding saturated value_of
saturated-minus zero h = refl
saturated-minus (suc c) h =
    let m : min (suc c) 9223372036854775807 ≡ suc c = omega arith in
    rw m (sym (minus-suc c))

negation-fits : (c : ℕ) → c < 10 ^ 10 → mag (pos 0 -ℤ pos c) < 2 ^ 63
negation-fits zero h = omega arith
negation-fits (suc c) h = rw (minus-suc c) (omega arith)

negation : (c : ℕ) → c < 10 ^ 10 → to_z w64 (of_z w64 (pos 0 -ℤ to_z w64 c)) ≡ pos 0 -ℤ pos c
negation c h =
    ap (λ (y : ℤ). to_z w64 (of_z w64 (pos 0 -ℤ y))) (to_z_pos w64 {n = c} (omega arith))
    ∙ to_z-of_z {w = w64} {z = pos 0 -ℤ pos c} (record { sfits = negation-fits c h })

-- the same, as the code computes it
pub negative : (c : ℕ) → c < 10 ^ 10 → numeral_of (to_z w64 (of_z w64 (pos 0 -ℤ to_z w64 c))) ≡ negated c
negative c h = (subtracted c h _ (negation c h ∙ sym (saturated-minus c h))).0

-- ════ one line more ════

text-snoc : (ls : List TextLine) (l : TextLine) → lines_text (ls ++ (l ∷ [])) ≡ lines_text ls ++ line_text l
text-snoc [] l = append-nil (line_text l)
text-snoc (k ∷ ls) l = ap (λ (s : List ℕ). line_text k ++ s) (text-snoc ls l) ∙ sym (append_assoc (line_text k) (lines_text ls) (line_text l))

draft-more : (base : Lent) (h : Sheet) (ls : List TextLine) (l : TextLine) → Draft base h ls → Draft base (with_line h (line_text l)) (ls ++ (l ∷ []))
draft-more base h ls l d = record {
  lines = omega (arith, d.lines, length-append ls (l ∷ []));
  text = ap (λ (o : Lent). put_text o (line_text l)) d.text ∙ put_text-append base (lines_text ls) (line_text l)
      ∙ ap (put_text base) (sym (text-snoc ls l));
}

line-holds : (base : Lent) (h : Sheet) (ls : List TextLine) (l : TextLine) → Draft base h ls
    → Holds base (with_line h (line_text l)) (code.TheVariants.Line (next h)) (line (number_after h.factors ls)) (ls ++ (l ∷ []))
line-holds base h ls l d = record {
  operand = ap (λ (k : ℕ). line (h.factors + k + 1)) d.lines;
  draft = draft-more base h ls l d;
}

-- a line was written
pub one_line : {most : ℕ} {h after : Sheet} {i : ℕ} (l : TextLine) → 1 ≤ most → h.factors ≤ 9 → h.lines ≤ 3000
    → after ≡ with_line h (line_text l) → i ≡ next h → Makes most h (λ ls. one h.factors ls l) after (Some (code.TheVariants.Line i))
one_line {most} {h} {after} {i} l m f g e k = rw (e, k) (record {
  factors = refl;
  few = omega arith;
  short = omega arith;
  does = λ base ls d. line-holds base h ls l d;
})

-- two lines were, of which the second refers to the first
pub two-lines : {h mid after : Sheet} {i j : ℕ} (l : TextLine) (k : ℕ → TextLine) → h.factors ≤ 9 → h.lines ≤ 3000
    → mid ≡ with_line h (line_text l) → i ≡ next h → after ≡ with_line mid (line_text (k i)) → j ≡ next mid
    → Makes 2 h (λ ls. both h.factors ls l k) after (Some (code.TheVariants.Line j))
two-lines {h} {mid} {after} {i} {j} l k f g d p e q = rw (e, q, d, p) (record {
  factors = refl;
  few = omega arith;
  short = omega arith;
  does = λ base ls x.
      let n : next h ≡ h.factors + length ls + 1 = omega (arith, x.lines) in
      subst (λ (m : ℕ). Holds base (with_line (with_line h (line_text l)) (line_text (k (next h))))
      (code.TheVariants.Line (next (with_line h (line_text l)))) (line (number_after h.factors (ls ++ (l ∷ [])))) ((ls ++ (l ∷ [])) ++ (k m ∷ []))) n
      (line-holds base (with_line h (line_text l)) (ls ++ (l ∷ [])) (k (next h)) (draft-more base h ls l x));
})

-- the operands are known, and the sign
pub of_operands : {h after : Sheet} {o p : sign.Sign} {left right r : Maybe code.Operand} {x y : code.Operand} → left ≡ Some x → right ≡ Some y → o ≡ p
    → Makes 2 h (λ ls. joined h.factors (sign_of p) (operand_of x) (operand_of y) ls) after r → Joined h (sign_of o) left right after r
of_operands e f g m = rw (e, f, g) m
