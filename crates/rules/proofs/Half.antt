-- Twice an end passes the limit where the end passes half of it: `half-iff`. Assumes nothing.
use mathlib.Core.Logic.{◌⊎◌, inl, inr}
use lib.IntN.{ℤ, pos, ◌*ℤ◌}
use Rattle.algebra.proofs.Int.{ints, mul-dif}
use Rattle.rules.specs.Overflow.{Beyond}
use Rattle.rules.specs.Sharper.{BeyondHalf, HalfExactly}

module _ (z : ℤ) where
  halved : Beyond (pos 2 *ℤ z) → BeyondHalf z
  halved (inl h) = inl (omega (ints, h, mul-dif (pos 2) z))
  halved (inr h) = inr (omega (ints, h, mul-dif (pos 2) z))

  twice : BeyondHalf z → Beyond (pos 2 *ℤ z)
  twice (inl h) = inl (omega (ints, h, mul-dif (pos 2) z))
  twice (inr h) = inr (omega (ints, h, mul-dif (pos 2) z))

either : {A B C D : Type 0} → (A → C) → (B → D) → A ⊎ B → C ⊎ D
either f g (inl a) = inl (f a)
either f g (inr b) = inr (g b)

pub half-iff : HalfExactly
half-iff r = (either (halved r.low) (halved r.high), either (twice r.low) (twice r.high))
