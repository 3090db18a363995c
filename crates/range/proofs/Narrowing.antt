-- Of ends inside ends: a multiple of them, and the nearest and the farthest magnitude. Assumes nothing.
use Prim.Native.Nat.{ℕ, zero-le}
use lib.IntN.{ℤ, pos, neg_ℤ, ◌*ℤ◌}
use lib.Signed.{◌≤ℤ◌}
use Rattle.algebra.proofs.Ordered as Ord
use Rattle.algebra.proofs.Int.{ints, ℤ-ordered, neg-anti, pos-≤, ≤ℤ-trans}
use Rattle.range.specs.declared.Range.{Range}
use Rattle.range.specs.Arithmetic.{ends_times}
use Rattle.range.proofs.Extremes.{greater-any, greater-left, greater-right}
use Rattle.range.proofs.PowerForms.{nearest, farthest, above-mono, below-anti, nearest-farthest}
use Rattle.range.proofs.Within.{Within}

module _ {a c : Range} (w : Within a c) where
  pub times-within : (k : ℕ) → Within (ends_times k a) (ends_times k c)
  times-within k = record { low = scaled w.low; order = scaled w.order; high = scaled w.high }
    where
      scaled : {x y : ℤ} → x ≤ℤ y → (pos k *ℤ x) ≤ℤ (pos k *ℤ y)
      scaled h = Ord.mul-le-left ℤ-ordered (pos-≤ zero-le) h

  pub nearest-anti : nearest c ≤ℤ nearest a
  nearest-anti = omega (ints, above-mono w.low, below-anti w.high)

  pub farthest-mono : farthest a ≤ℤ farthest c
  farthest-mono =
      greater-any (neg_ℤ a.low) a.high (λ z. z ≤ℤ farthest c)
      (≤ℤ-trans (neg-anti w.low) (greater-left (neg_ℤ c.low) c.high))
      (≤ℤ-trans w.high (greater-right (neg_ℤ c.low) c.high))

  pub ordered : nearest a ≤ℤ farthest a
  ordered = nearest-farthest a.low a.high w.order

  pub farthest-nonneg : pos 0 ≤ℤ farthest a
  farthest-nonneg = ≤ℤ-trans (pos-≤ zero-le) ordered
