-- Ranges of 0 alone: the test that code makes of the ends' bits, and that the products are 0 and the largest square adds nothing. Assumes nothing.
use mathlib.Core.Path.{◌≡◌, refl, sym, ap, ap₂, ◌∙◌}
use mathlib.Core.Bool.{Bool, true, false, ◌||◌}
use Prim.Native.Nat.{zero, suc}
use borrow.Author.Rules.{rules}
use native.Mathlib.Nat.{add-zero}
use native.Mathlib.Omega.{arith}
use borrow.Author.Tests.{eqb-true, ne_eqb}
use lib.Dec.{eqb}
use lib.IntN.{ℤ, pos, negsuc, nat_abs, ◌*ℤ◌, zero-*ℤ, *ℤ-zero}
use mir.Syntax.{w64}
use mir.Val.{SFits, of_z}
use Rattle.exact.proofs.Div.{floor_div, ceil_div}
use Rattle.range.specs.declared.Range.{Range}
use Rattle.range.specs.declared.sums.Squares.{Squares}
use Rattle.range.specs.Limit.{from_to, zero_range}
use Rattle.range.specs.Arithmetic.{scaled_of, ends_product}
use Rattle.range.specs.Sums.{largest_square}
use Rattle.range.specs.Steps.{is_zero, with_square}
use Rattle.range.proofs.Extremes.{least-product, greatest-product}
use Rattle.range.proofs.Fitting.{and_first, and_second}
use Rattle.std.specs.Ordering.{int_eq}

-- ---- the test: a number's bits are 0 where it is
-- the bits are 0 where the magnitude is
pub zero_bits : (z : ℤ) → SFits w64 z → eqb (of_z w64 z) 0 ≡ eqb (nat_abs z) 0
zero_bits (pos n) f = refl
zero_bits (negsuc n) f = ne_eqb (of_z w64 (negsuc n)) 0 (λ e. omega (arith, f.sfits)) ∙ sym (ne_eqb (suc n) 0 (λ e. omega arith))

-- a comparison with 0 is one of the magnitude
pub zero_eq : (z : ℤ) → int_eq z (pos 0) ≡ eqb (nat_abs z) 0
zero_eq (pos zero) = refl
zero_eq (pos (suc n)) = search rules
zero_eq (negsuc n) = search rules

abs-zero : (z : ℤ) → nat_abs z ≡ 0 → z ≡ pos 0
abs-zero (pos n) e = ap pos e
abs-zero (negsuc n) e = let g : ⊥ = omega (arith, e) in absurd g

pub is-zero_range : (r : Range) → is_zero r ≡ true → r ≡ zero_range
unfolding is_zero
is-zero_range r e =
    ap₂ from_to
    (abs-zero r.low (eqb-true _ 0 (and_first _ _ e)))
    (abs-zero r.high (eqb-true _ 0 (and_second (eqb (nat_abs r.low) 0) _ e)))

-- ---- the product with such a range, on either side: all four end products are 0
none_of : (a b : Range) → a.low *ℤ b.low ≡ pos 0 → a.low *ℤ b.high ≡ pos 0 → a.high *ℤ b.low ≡ pos 0 → a.high *ℤ b.high ≡ pos 0
    → zero_range ≡ ends_product a b
unfolding ends_product floor_div ceil_div
none_of a b ll lh hl hh =
    let is : ℤ → Type 0 = λ (z : ℤ). z ≡ pos 0 in
    sym (ap₂ (λ (l h : ℤ). scaled_of (from_to l h)) (least-product a b is ll lh hl hh) (greatest-product a b is ll lh hl hh))

either : {A : Type 0} (s t : Bool) → (s || t) ≡ true → (s ≡ true → A) → (t ≡ true → A) → A
either true t e f g = f refl
either false t e f g = g e

pub product-none : (a b : Range) → (is_zero a || is_zero b) ≡ true → zero_range ≡ ends_product a b
product-none a b e =
    either (is_zero a) (is_zero b) e
    (λ t.
    let l = zero-*ℤ b.low in
    let h = zero-*ℤ b.high in
    rw (is-zero_range a t) (none_of zero_range b l h l h))
    (λ t.
    let l = *ℤ-zero a.low in
    let h = *ℤ-zero a.high in
    rw (is-zero_range b t) (none_of a zero_range l l h h))

-- ---- and its largest square
pub square-none : (q : Squares) (r : Range) → is_zero r ≡ true → q ≡ with_square q (nat_abs (largest_square r))
unfolding largest_square
square-none q r e = rw (is-zero_range r e, add-zero q.whole, add-zero q.rest) refl
