-- The ends of 01's arithmetic without a limit are in order where its operands' are, whether they pass the limit or not. Assumes nothing.
use mathlib.Core.Path.{◌≡◌, refl}
use mathlib.Core.Bool.{Bool, true, false, not, cond}
use mathlib.Core.List.Memᴰ
use mathlib.Core.List.{List, [], ◌∷◌, ◌++◌, Memᴰ}
use mathlib.Core.Logic.{⊎_elim}
use Prim.Native.Nat.{ℕ, zero, suc, zero-le}
use lib.Dec.{T, eqb}
use lib.IntN.{ℤ, pos, neg_ℤ}
use lib.Signed.{le_z, ◌≤ℤ◌, ◌<ℤ◌, ≤ℤ_refl, le_z_yes}
use Rattle.algebra.proofs.Ordered as Ord
use Rattle.algebra.proofs.Int.{ints, ℤ-ordered, neg-dif, +ℤ-mono, neg-anti, pos-≤, ≤ℤ-trans, le_z-no, <ℤ→≤ℤ}
use Rattle.exact.proofs.Div.{ceil-mono, floor≤ceil}
use Rattle.range.specs.declared.Range.{Range}
use Rattle.range.specs.Arithmetic.{greater_of, ends_sum, ends_neg, ends_times, spread_of, scaled_of, ends_product, ends_inverse, ends_hull, holds_zero}
use Rattle.range.specs.Power.{D, U, is_even, ends_pow, ups, ups_of}
use Rattle.range.specs.Sums.{at, ends_products, ends_squares, root_sum, ends_root}
use Rattle.range.specs.Steps.{up_to}
use Rattle.range.proofs.Valid.{true-T, false-T}
use Rattle.range.proofs.Extremes.{end-products, lesser-left, greater-left}
use Rattle.range.proofs.Powers.{ten-thousand, chain-low, chain-high, down-up, up_up}
use Rattle.range.proofs.Climbing.{neg-above}
use Rattle.exact.proofs.Div.{floor_quot≤ceil_quot}
use Rattle.range.proofs.Inverting.{one-sign}
use Rattle.range.proofs.SumOver.{sum_over-mono, square_sum-nonneg}

abbrev pub Ordered : Range → Type 0
Ordered r = r.low ≤ℤ r.high

-- ---- the operations
pub sum-ordered : (u v : Range) → Ordered u → Ordered v → Ordered (ends_sum u v)
sum-ordered u v o w = +ℤ-mono o w

pub neg-ordered : (u : Range) → Ordered u → Ordered (ends_neg u)
neg-ordered u o = neg-anti o

pub times-ordered : (k : ℕ) (u : Range) → Ordered u → Ordered (ends_times k u)
times-ordered k u o = Ord.mul-le-left ℤ-ordered (pos-≤ zero-le) o

pub spread-ordered : (u v : Range) → Ordered (spread_of u v)
spread-ordered u v = let e = end-products u v in ≤ℤ-trans e.low-1 e.high-1

pub scaled-ordered : (u : Range) → Ordered u → Ordered (scaled_of u)
scaled-ordered u o = ≤ℤ-trans (floor≤ceil u.low ten-thousand) (ceil-mono ten-thousand o)

pub product-ordered : (u v : Range) → Ordered (ends_product u v)
unfolding ends_product
product-ordered u v = scaled-ordered (spread_of u v) (spread-ordered u v)

pub hull-ordered : (u v : Range) → Ordered u → Ordered v → Ordered (ends_hull u v)
hull-ordered u v o w = ≤ℤ-trans (lesser-left u.low v.low) (≤ℤ-trans o (greater-left u.high v.high))

pub inverse-ordered : (u : Range) → T (not (holds_zero u)) → Ordered u → Ordered (ends_inverse u)
unfolding ends_inverse
inverse-ordered u n o = floor_quot≤ceil_quot (le_z_yes tt) o (one-sign u n)

pub products-ordered : (s : ℕ) (g h : List Range) → Ordered (ends_products s g h)
unfolding ends_products
products-ordered s g h = sum_over-mono ℤ-ordered s (λ a l t. product-ordered (at g a) (at h a))

pub root-ordered : (s : ℕ) (g h : List Range) → Ordered (ends_root s g h)
unfolding root_sum
root-ordered s g h = let p : pos 0 ≤ℤ root_sum s g h = pos-≤ zero-le in omega (ints, neg-dif (root_sum s g h))

pub squares-ordered : (s : ℕ) (g : List Range) → Ordered (ends_squares s g)
squares-ordered s g = square_sum-nonneg s g

-- ---- lists
abbrev pub AllOrdered : List Range → Type 0
AllOrdered rs = (r : Range) → Memᴰ r rs → Ordered r

pub none-ordered : AllOrdered []
none-ordered r i = absurd (Memᴰ.not-nil i)

pub append-ordered : (rs : List Range) {ss : List Range} → AllOrdered rs → AllOrdered ss → AllOrdered (rs ++ ss)
append-ordered rs f g r i = ⊎_elim (f r) (g r) (Memᴰ.append_cases rs i)

pub one-ordered : (u : Range) → Ordered u → AllOrdered (u ∷ [])
one-ordered u o r i = rw (Memᴰ.eq_of_singleton i) o

-- ---- powers, and their U values that count, each from 0
any_of : {A : Type 0} (P : A → Type 0) (c : Bool) (x y : A) → (c ≡ true → P x) → (c ≡ false → P y) → P (cond c x y)
any_of P true x y f g = f refl
any_of P false x y f g = g refl

U-nonneg : {m : ℤ} → pos 0 ≤ℤ m → (e : ℕ) → pos 0 ≤ℤ U m e
U-nonneg {m} p e = chain-low up_up p (≤ℤ_refl m) e

ups-ordered : {m : ℤ} → pos 0 ≤ℤ m → (e : ℕ) → AllOrdered (ups m e)
unfolding ups
ups-ordered p zero = none-ordered
ups-ordered {m} p (suc e) = append-ordered (ups m e) (ups-ordered p e) (one-ordered (up_to (U m (suc e))) (U-nonneg p (suc e)))

module _ (r : Range) (o : Ordered r) (e : ℕ) where
  -- the magnitudes whose powers count
  above : le_z (pos 0) r.low ≡ true → pos 0 ≤ℤ r.low
  above s = le_z_yes (true-T s)

  below : le_z (pos 0) r.low ≡ false → pos 0 ≤ℤ neg_ℤ r.low
  below s = let l : r.low <ℤ pos 0 = le_z-no (false-T s) in omega (ints, neg-dif r.low)

  beyond : le_z r.high (pos 0) ≡ false → pos 0 ≤ℤ r.high
  beyond s = <ℤ→≤ℤ (le_z-no (false-T s))

  across : le_z (pos 0) r.low ≡ false → pos 0 ≤ℤ greater_of (neg_ℤ r.low) r.high
  across s = ≤ℤ-trans (below s) (greater-left (neg_ℤ r.low) r.high)

  turned : le_z r.high (pos 0) ≡ true → D (neg_ℤ r.high) e ≤ℤ U (neg_ℤ r.low) e
  turned s = chain-high down-up (le_z_yes (true-T (neg-above r s))) (neg-anti o) e

  pub power-ordered : Ordered (ends_pow r e)
  unfolding ends_pow
  power-ordered =
      any_of Ordered (eqb e 0) _ _ (λ z. ≤ℤ_refl (pos 10000))
      (λ z. any_of Ordered (le_z (pos 0) r.low) _ _ (λ s. chain-high down-up (above s) o e)
      (λ s. any_of Ordered (le_z r.high (pos 0)) _ _ (λ t. any_of Ordered (is_even e) _ _ (λ i. turned t) (λ i. neg-anti (turned t)))
      (λ t. any_of Ordered (is_even e) _ _ (λ i. U-nonneg (across s) e)
      (λ i. let l = U-nonneg (below s) e in let u = U-nonneg (beyond t) e in omega (ints, neg-dif (U (neg_ℤ r.low) e))))))

  pub ups_of-ordered : AllOrdered (ups_of r e)
  unfolding ups_of
  ups_of-ordered =
      any_of AllOrdered (le_z (pos 0) r.low) _ _ (λ s. ups-ordered (≤ℤ-trans (above s) o) e)
      (λ s. any_of AllOrdered (le_z r.high (pos 0)) _ _ (λ t. ups-ordered (below s) e)
      (λ t. any_of AllOrdered (is_even e) _ _ (λ i. ups-ordered (across s) e)
      (λ i. append-ordered (ups (neg_ℤ r.low) e) (ups-ordered (below s) e) (ups-ordered (beyond t) e))))
