-- The ends of a valid range are small, so that what is computed of them fits an `i64`; and the two ways out of a test. Assumes nothing.
use mathlib.Core.Path.{◌≡◌, refl, ◌∙◌, sym}
use mathlib.Core.Bool.{Bool, true, false, ◌&&◌, cond}
use mathlib.Core.Logic.{◌⊎◌, inr}
use Prim.Native.Nat.{ℕ, ◌≤◌}
use native.Mathlib.Omega.{arith}
use native.Mathlib.Nat.{mul-le-mul}
use lib.IntN.{ℤ, pos, negsuc, nat_abs, neg_ℤ, ◌+ℤ◌, ◌*ℤ◌, +ℤ_idl}
use lib.Dec.{T}
use lib.Signed.{le_z, non_neg, ◌≤ℤ◌}
use Rattle.std.specs.Int.{int_max}
use borrow.Author.Rules.{rules}
use mir.Syntax.{w8, w32, w64}
use mir.Val.{Fits, SFits, to_z, of_z}
use mir.ValLaws.{to_z-of_z, to_z_pos}
use Rattle.algebra.proofs.Int.{ints, neg-dif, neg-abs, add-abs, within-abs, mul-abs}
use Rattle.exact.proofs.Machine.{fits-abs}
use Rattle.range.specs.declared.Range.{Range}
use Rattle.range.specs.Limit.{least, most, from_to, over, is_valid, both_valid, kept, sticky₁, sticky₂}
use Rattle.range.specs.Arithmetic.{greater_of, sum_of, ends_neg, neg_of, spread_of, ends_hull, hull_of}
use Rattle.range.specs.Steps.{Small}
use Rattle.range.proofs.Valid.{T_true, true-T, and_left, and_right, ends-of, valid-of, both_left, both-valid}
use Rattle.range.proofs.Valid.{both_right, kept-is, sticky₁-is, sticky₂-is, not-true, and-false, over-invalid}
use Rattle.range.proofs.Extremes.{lesser-left, lesser-any, greater-left, greater-any, least-product, greatest-product}

-- a number as 64 bits hold it: one that is computed, or passed on
abbrev pub held : ℤ → ℤ
held z = to_z w64 (of_z w64 z)

abbrev pub InLimit : ℤ → Type 0
InLimit z = nat_abs z ≤ 2000000000

pub in-limit : (z : ℤ) → least ≤ℤ z → z ≤ℤ most → InLimit z
in-limit = within-abs 2000000000

module _ (r : Range) (v : is_valid r ≡ true) where
  pub low-within : InLimit r.low
  low-within = let e = ends-of r (true-T v) in in-limit r.low e.above (omega ints)

  pub high-within : InLimit r.high
  high-within = let e = ends-of r (true-T v) in in-limit r.high (omega ints) e.below

  -- as a number that is passed on
  pub low_read : held r.low ≡ r.low
  low_read = to_z-of_z w64 r.low (fits-abs r.low (omega (arith, low-within)))

  pub high_read : held r.high ≡ r.high
  high_read = to_z-of_z w64 r.high (fits-abs r.high (omega (arith, high-within)))

  pub valid-small : Small r
  valid-small = record { low = omega (arith, low-within); high = omega (arith, high-within) }

module _ (a b : Range) (p : Small a) (q : Small b) where
  pub low-sum-fits : SFits w64 (a.low +ℤ b.low)
  low-sum-fits = fits-abs (a.low +ℤ b.low) (omega (arith, add-abs a.low b.low, p.low, q.low))

  pub high-sum-fits : SFits w64 (a.high +ℤ b.high)
  high-sum-fits = fits-abs (a.high +ℤ b.high) (omega (arith, add-abs a.high b.high, p.high, q.high))

pub neg-fits : (x : ℤ) → InLimit x → SFits w64 (neg_ℤ x)
neg-fits x h = fits-abs (neg_ℤ x) (omega (arith, neg-abs x))

abbrev Few : ℤ → Type 0
Few z = nat_abs z ≤ 4000000000000000000

product-few : (x y : ℤ) → InLimit x → InLimit y → Few (x *ℤ y)
product-few x y h k = omega (arith, mul-abs x y, mul-le-mul h k)

pub product-fits : (x y : ℤ) → InLimit x → InLimit y → SFits w64 (x *ℤ y)
product-fits x y h k = fits-abs (x *ℤ y) (omega (arith, product-few x y h k))

-- the least and the greatest of four products
pub spread-small : (a b : Range) → is_valid a ≡ true → is_valid b ≡ true → Small (spread_of a b)
spread-small a b v w =
    let ll = product-few a.low b.low (low-within a v) (low-within b w) in
    let lh = product-few a.low b.high (low-within a v) (high-within b w) in
    let hl = product-few a.high b.low (high-within a v) (low-within b w) in
    let hh = product-few a.high b.high (high-within a v) (high-within b w) in
    record { low = least-product a b Few ll lh hl hh; high = greatest-product a b Few ll lh hl hh }

-- of two valid ranges, each is. s is the flag that a test of both left
module _ (s : Bool) (a b : Range) (e : s ≡ both_valid a b) (p : s ≡ true) where
  pub first-valid : is_valid a ≡ true
  first-valid = T_true (both_left a b (true-T (sym e ∙ p)))

  pub second-valid : is_valid b ≡ true
  second-valid = T_true (both_right a b (true-T (sym e ∙ p)))

pub and_first : (s t : Bool) → (s && t) ≡ true → s ≡ true
and_first s t e = T_true (and_left s t (true-T e))

pub and_second : (s t : Bool) → (s && t) ≡ true → t ≡ true
and_second s t e = T_true (and_right s t (true-T e))

-- ---- results that are valid because the operands are
pub neg-valid : (a : Range) → is_valid a ≡ true → is_valid (ends_neg a) ≡ true
neg-valid a v =
    let e = ends-of a (true-T v) in
    T_true (valid-of (ends_neg a) (record {
      above = omega (ints, neg-dif a.high);
      order = omega (ints, neg-dif a.high, neg-dif a.low);
      below = omega (ints, neg-dif a.low);
    }))

pub neg-kept : (a z : Range) → is_valid a ≡ true → z ≡ ends_neg a → z ≡ kept (ends_neg a)
neg-kept a z v p = p ∙ sym (kept-is (ends_neg a) (true-T (neg-valid a v)))

pub neg_of-is : (a : Range) → is_valid a ≡ true → neg_of a ≡ ends_neg a
unfolding neg_of
neg_of-is a v = sticky₁-is ends_neg a (true-T v) (true-T (neg-valid a v))

pub neg_of-over : neg_of over ≡ over
unfolding neg_of is_valid
neg_of-over = refl

pub hull-valid : (a b : Range) → is_valid a ≡ true → is_valid b ≡ true → is_valid (ends_hull a b) ≡ true
hull-valid a b v w =
    let e = ends-of a (true-T v) in
    let f = ends-of b (true-T w) in
    let l = lesser-left a.low b.low in
    let h = greater-left a.high b.high in
    T_true (valid-of (ends_hull a b) (record {
      above = lesser-any a.low b.low (λ z. least ≤ℤ z) e.above f.above;
      order = omega ints;
      below = greater-any a.high b.high (λ z. z ≤ℤ most) e.below f.below;
    }))

pub hull-kept : (a b z : Range) → is_valid a ≡ true → is_valid b ≡ true → z ≡ ends_hull a b → z ≡ kept (ends_hull a b)
hull-kept a b z v w p = p ∙ sym (kept-is (ends_hull a b) (true-T (hull-valid a b v w)))

pub hull_of-is : (a b : Range) → is_valid a ≡ true → is_valid b ≡ true → hull_of a b ≡ ends_hull a b
unfolding hull_of
hull_of-is a b v w = sticky₂-is ends_hull a b (true-T v) (true-T w) (true-T (hull-valid a b v w))

pub over-sum_of : (a : Range) → sum_of over a ≡ over
unfolding sum_of both_valid is_valid
over-sum_of a = refl

pub over-hull_of : (a : Range) → hull_of over a ≡ over
unfolding hull_of both_valid is_valid
over-hull_of a = refl

pub hull_of-over : (a : Range) → hull_of a over ≡ over
unfolding hull_of both_valid
hull_of-over a = let y : is_valid a && is_valid over ≡ false = and-false (is_valid a) (is_valid over) (inr (not-true over-invalid)) in rw y

-- a byte, as a factor
pub byte-within : (k : ℕ) → Fits w8 k → k ≤ 2000000000
byte-within k h = omega arith

pub byte-read : (k : ℕ) → Fits w8 k → to_z w64 k ≡ pos k
byte-read k h = to_z_pos w64 k (omega arith)

-- a number that is not negative, as an unsigned one
pub nonneg-cast : (z : ℤ) → le_z (pos 0) z ≡ true → SFits w64 z → T (non_neg (held z)) × Fits w64 (nat_abs (held z))
nonneg-cast (pos n) p f = rw (to_z-of_z w64 (pos n) f) (tt, omega arith)
nonneg-cast (negsuc n) p f = let z : ◌≡◌ {A = ℕ} 0 1 = cc in let g : ⊥ = omega arith in absurd g

-- ---- numbers of 32 bits: an end of a valid range is one
module _ (z : ℤ) (f : SFits w32 z) where
  wide : SFits w64 z
  wide = record { sfits = omega (arith, f.sfits) }

  pub widened : SFits w64 (to_z w32 (of_z w32 z))
  widened = rw (to_z-of_z w32 z f) wide

  pub read-widened : to_z w64 (of_z w64 (to_z w32 (of_z w32 z))) ≡ z
  read-widened = rw (to_z-of_z w32 z f) (to_z-of_z w64 z wide)

pub fits-narrow : (z : ℤ) → InLimit z → SFits w32 z
fits-narrow (pos n) h = record { sfits = omega arith }
fits-narrow (negsuc n) h = record { sfits = omega arith }

-- ---- a number that was computed: its bits are read back
pub read : (x : ℤ) {y : ℤ} → SFits w64 x → x ≡ y → held x ≡ y
read x f p = to_z-of_z w64 x f ∙ p

-- ---- a range made of two numbers that were computed: their bits are read back
pub ends : (l h : ℤ) {x y : ℤ} → SFits w64 l → SFits w64 h → l ≡ x → h ≡ y → from_to (held l) (held h) ≡ from_to x y
ends l h f g p q = rw (to_z-of_z w64 l f, to_z-of_z w64 h g, p, q)

-- ---- branches: a test's flag s is what a callee ensures of it, t
pub passed : (s t : Bool) → s ≡ t → s ≡ true → t ≡ true
passed s t e p = sym e ∙ p

pub failed : (s t : Bool) → s ≡ t → s ≡ false → t ≡ false
failed s t e p = sym e ∙ p

pub pick_yes : {A : Type 0} (t : Bool) (x y z : A) → t ≡ true → z ≡ x → z ≡ cond t x y
pick_yes t x y z e p = rw e p

pub pick_no : {A : Type 0} (t : Bool) (x y z : A) → t ≡ false → z ≡ y → z ≡ cond t x y
pick_no t x y z e p = rw e p

-- what fits, of the ends of valid ranges
pub ruleset fitting = (neg-fits, product-fits, low-within, high-within, +ℤ_idl)

pub ruleset summing = (low-sum-fits, high-sum-fits)

-- a factor that is a byte
pub ruleset counting = (byte-within, byte-read)

-- what a branch's test tells
pub ruleset branching = (first-valid, second-valid, passed, failed, pick_yes, pick_no)

-- the library's greater of two numbers is 01's
pub max-greater : (x y : ℤ) → int_max x y ≡ greater_of x y
max-greater x y = search rules

-- ---- operations on ranges that were tested, and where one of them is none
module _ (f : Range → Range) (a : Range) where
  pub sticky₁-made : (z : Range) → is_valid a ≡ true → z ≡ kept (f a) → z ≡ sticky₁ f a
  sticky₁-made z v e = pick_yes (is_valid a) (kept (f a)) over z v e

  pub sticky₁-none : is_valid a ≡ false → over ≡ sticky₁ f a
  sticky₁-none v = pick_no (is_valid a) (kept (f a)) over over v refl

module _ (f : Range → Range → Range) (a b : Range) where
  pub sticky₂-made : (z : Range) → is_valid a ≡ true → is_valid b ≡ true → z ≡ kept (f a b) → z ≡ sticky₂ f a b
  sticky₂-made z v w e = pick_yes (both_valid a b) (kept (f a b)) over z (T_true (both-valid a b (true-T v) (true-T w))) e

  pub sticky₂-none : (is_valid a ≡ false) ⊎ (is_valid b ≡ false) → over ≡ sticky₂ f a b
  unfolding both_valid
  sticky₂-none v = pick_no (both_valid a b) (kept (f a b)) over over (and-false (is_valid a) (is_valid b) v) refl
