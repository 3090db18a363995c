-- The inverse of a range holds the reciprocals of the numbers that the range holds, none of which is 0 where the inverse is valid.
-- Assumes nothing.
use mathlib.Core.Path.{◌≡◌}
use mathlib.Core.Bool.{Bool, true, false, cond}
use lib.Dec.{T}
use lib.IntN.{pos}
use lib.Signed.{le_z}
use Rattle.exact.proofs.Rat.{ℚ, ◌*ℚ◌, 0ℚ, 1ℚ}
use Rattle.range.specs.declared.Range.{Range}
use Rattle.range.specs.Limit.{over, is_valid, sticky₁}
use Rattle.range.specs.Arithmetic.{holds_zero, ends_inverse, inverse_of}
use Rattle.range.specs.Inclusion.{◌∈◌}
use Rattle.range.proofs.Valid.{and_both, over-invalid, sticky₁-of}
use Rattle.exact.proofs.Units.{in-recip, nonneg-units, nonpos-units}
use Rattle.range.proofs.Inverting.{one-sign}
use Rattle.range.proofs.Holds.{InRange, over-∈, either-∈, sticky₁-∈}

pub inverse-∈ : {a : Range} {x y : ℚ} → x ∈ a → x *ℚ y ≡ 1ℚ → y ∈ inverse_of a
unfolding inverse_of ends_inverse
inverse-∈ {a} h e =
    either-∈ (holds_zero a)
    (λ t. over-∈)
    (λ n. sticky₁-∈ ends_inverse a (λ t. in-recip (one-sign a n) (h.between t) e))

pub divisor-nonzero : {a : Range} {x : ℚ} → T (is_valid (inverse_of a)) → x ∈ a → ¬ (x ≡ 0ℚ)
unfolding inverse_of
divisor-nonzero {a} {x} v h e = go (holds_zero a) (both-sides a) v
  where
    both-sides : (a : Range) → InRange 0ℚ a → T (holds_zero a)
    both-sides a i = and_both (le_z a.low (pos 0)) (le_z (pos 0) a.high) (nonpos-units i.low).le (nonneg-units i.high).le

    go : (c : Bool) → (InRange 0ℚ a → T c) → T (is_valid (cond c over (sticky₁ ends_inverse a))) → ⊥
    go true f t = over-invalid t
    go false f t = f (rw e at (h.between (sticky₁-of ends_inverse a t).operand))
