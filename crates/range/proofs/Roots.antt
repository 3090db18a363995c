-- The root as the code finds it: the least number whose square is not below x, and the range from −β to β, made or `over`. Assumes nothing.
use mathlib.Core.Path.{◌≡◌, refl, sym, ap, ◌∙◌}
use mathlib.Core.Bool.{Bool, true, false, ◌&&◌, cond}
use Prim.Native.Nat.{ℕ, zero, suc, ◌≤◌, ◌<◌, ◌*◌, ◌/◌, ◌-◌}
use native.Mathlib.Omega.{arith}
use native.Mathlib.Nat.{lt_of_lt_of_le, le_trans, mul-le-mul, le_refl, div-mul-le_self, div-lt_iff_lt-mul}
use borrow.Author.Tests.{le-leb, lt-leb}
use lib.IntN.{pos, neg_ℤ, ◌-ℤ◌, +ℤ_idl}
use mir.Syntax.{w64}
use mir.Val.{Fits, SFits, to_z, of_z}
use mir.ValLaws.{to_z_pos, to_z-of_z}
use Rattle.range.proofs.Fitting.{neg-fits}
use lib.Signed.{le_z}
use Rattle.range.specs.declared.Range.{Range}
use Rattle.range.specs.Limit.{from_to, zero_range, over, least, most, is_valid, kept}
use Rattle.exact.proofs.Sqrt.{ceil_sqrt, ceil-root, ceil-root-unique, root-lt}

-- two numbers up to 3,000,000,000 have a product that fits
pub product-fits : (a b : ℕ) → a ≤ 3000000000 → b ≤ 3000000000 → Fits w64 (a * b)
product-fits a b h k = omega (arith, mul-le-mul h k)

pub root_none : (x : ℕ) → x ≡ 0 → 0 ≡ ceil_sqrt x
unfolding ceil_sqrt
root_none x e = rw e refl

pub not-zero : (x r : ℕ) → 1 ≤ x → x ≤ r * r → 1 ≤ r
not-zero x zero h k = omega arith
not-zero x (suc r) h k = omega arith

-- the square is not below x, and that of the number before it is
pub least-square : (x r : ℕ) → 1 ≤ r → x ≤ r * r → (r - 1) * (r - 1) < x → r ≡ ceil_sqrt x
least-square x r p h k =
    ceil-root-unique
    (record { high = h; least = λ s t. let b : r - 1 < s = root-lt (lt_of_lt_of_le k t) in omega arith })
    (ceil-root x)

-- ---- from −b to b
abbrev pub around_of : ℕ → Range
around_of b = from_to (neg_ℤ (pos b)) (pos b)

pub around-kept : (b : ℕ) → b ≤ 2000000000 → kept (around_of b) ≡ around_of b
unfolding kept is_valid
around-kept zero h = refl
around-kept (suc b) h = rw (le-leb b 1999999999 (omega arith), le-leb (suc b) 2000000000 h)

no_end : (s t u : Bool) → u ≡ false → (s && (t && u)) ≡ false
no_end false t u e = refl
no_end true false u e = refl
no_end true true u e = e

pub around-over : (b : ℕ) → 2000000000 < b → kept (around_of b) ≡ over
unfolding kept is_valid
around-over b h =
    ap (λ (t : Bool). cond t (around_of b) over)
    (no_end (le_z least (neg_ℤ (pos b))) (le_z (neg_ℤ (pos b)) (pos b)) (le_z (pos b) most) (lt-leb b 2000000000 h))

pub around-none : (n : ℕ) → n ≡ 0 → kept (around_of (ceil_sqrt n)) ≡ zero_range
unfolding kept is_valid ceil_sqrt
around-none n e = rw e refl

-- a root, as a signed number
pub root-read : (b : ℕ) → b ≤ 3000000000 → to_z w64 b ≡ pos b
root-read b h = to_z_pos w64 b (omega arith)

-- made of a number of 64 bits that is at most 2,000,000,000
module _ (b : ℕ) (h : b ≤ 2000000000) where
  read : to_z w64 b ≡ pos b
  read = root-read b (omega arith)

  pub minus-fits : SFits w64 (pos 0 -ℤ to_z w64 b)
  minus-fits = rw (read, +ℤ_idl (neg_ℤ (pos b))) (neg-fits (pos b) h)

  pub around-made : (n : ℕ) → b ≡ ceil_sqrt n → from_to (to_z w64 (of_z w64 (pos 0 -ℤ to_z w64 b))) (to_z w64 b) ≡ kept (around_of (ceil_sqrt n))
  around-made n e =
      rw (to_z-of_z w64 (pos 0 -ℤ to_z w64 b) minus-fits, read, +ℤ_idl (neg_ℤ (pos b))) (sym (around-kept b h))
      ∙ ap (λ (k : ℕ). kept (around_of k)) e

-- ---- whether the product of x and y is within the square of the limit, by a division
pub product-within : (x y : ℕ) → x ≤ 4000000000000000000 / y → x * y ≤ 4000000000000000000
product-within x y h = le_trans (mul-le-mul h (le_refl y)) (div-mul-le_self 4000000000000000000 y)

pub root-within : (n : ℕ) {b : ℕ} → b ≡ ceil_sqrt n → n ≤ 4000000000000000000 → b ≤ 2000000000
root-within n e h = rw e ((ceil-root n).least 2000000000 h)

pub root_over : (x y : ℕ) → 1 ≤ y → 4000000000000000000 / y < x → 2000000000 < ceil_sqrt (x * y)
root_over x y p h = root-lt (lt_of_lt_of_le ((div-lt_iff_lt-mul p).0 h) (ceil-root (x * y)).high)
