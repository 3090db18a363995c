-- Powers of magnitudes: D and U are not negative, D is below U, and both grow with the magnitude. Assumes nothing.
use mathlib.Core.Path.{◌≡◌, refl, ap}
use Prim.Native.Nat.{ℕ, zero, suc, ◌<◌}
use lib.Dec.{T, lit<}
use lib.IntN.{ℤ, pos, zero-*ℤ, *ℤ-zero}
use lib.Signed.{le_z, ◌≤ℤ◌, ≤ℤ_refl, le_z_yes}
use Rattle.algebra.proofs.Ordered as Ord
use Rattle.algebra.proofs.Int.{ℤ-ordered, ≤ℤ-trans, *ℤ-nonneg}
use Rattle.exact.proofs.Div.{floor_div, ceil_div, floor-iff, floor-mono, ceil-mono, floor≤ceil}
use Rattle.range.specs.Limit.{most}
use Rattle.range.specs.Power.{chain, D, U, ups_within}
use Rattle.range.proofs.Valid.{and_right}

pub ten-thousand : zero < 10000
ten-thousand = lit< tt

-- Two chains of which the second's steps and magnitude are the greater.
pub record Grows (f g : ℤ → ℤ) : Type 0 where
  pub low : (x : ℤ) → pos 0 ≤ℤ x → pos 0 ≤ℤ f x
  pub high : (x y : ℤ) → pos 0 ≤ℤ x → x ≤ℤ y → f x ≤ℤ g y

module _ {f g : ℤ → ℤ} (s : Grows f g) {l h : ℤ} (p : pos 0 ≤ℤ l) (o : l ≤ℤ h) where
  pub chain-low : (e : ℕ) → pos 0 ≤ℤ chain f l e
  unfolding chain
  chain-low zero = le_z_yes tt
  chain-low (suc zero) = p
  chain-low (suc (suc e)) = s.low _ (*ℤ-nonneg (chain-low (suc e)) p)

  pub chain-high : (e : ℕ) → chain f l e ≤ℤ chain g h e
  unfolding chain
  chain-high zero = ≤ℤ_refl (pos 10000)
  chain-high (suc zero) = o
  chain-high (suc (suc e)) =
      s.high _ _ (*ℤ-nonneg (chain-low (suc e)) p) (Ord.mul_mono ℤ-ordered (chain-low (suc e)) (chain-high (suc e)) p o)

pub floor-nonneg : (x : ℤ) → pos 0 ≤ℤ x → pos 0 ≤ℤ floor_div x 10000
floor-nonneg x h = (floor-iff (pos 0) x ten-thousand).1 (rw (zero-*ℤ (pos 10000)) h)

pub down-down : Grows (λ z. floor_div z 10000) (λ z. floor_div z 10000)
down-down = record { low = floor-nonneg; high = λ x y p h. floor-mono ten-thousand h }

pub down-up : Grows (λ z. floor_div z 10000) (λ z. ceil_div z 10000)
down-up = record { low = floor-nonneg; high = λ x y p h. ≤ℤ-trans (floor≤ceil x ten-thousand) (ceil-mono ten-thousand h) }

pub up_up : Grows (λ z. ceil_div z 10000) (λ z. ceil_div z 10000)
up_up = record { low = λ x p. ≤ℤ-trans (floor-nonneg x p) (floor≤ceil x ten-thousand); high = λ x y p h. ceil-mono ten-thousand h }

-- the powers of 0
pub D-zero : (e : ℕ) → D (pos 0) (suc e) ≡ pos 0
unfolding chain floor_div
D-zero zero = refl
D-zero (suc e) = ap (λ (z : ℤ). floor_div z 10000) (*ℤ-zero (D (pos 0) (suc e)))

-- where every U counts, the last one does
pub ups-last : (m : ℤ) (e : ℕ) → T (ups_within m (suc e)) → U m (suc e) ≤ℤ most
unfolding ups_within
ups-last m e t = le_z_yes (and_right (ups_within m e) (le_z (U m (suc e)) most) t)
