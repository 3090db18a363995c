-- Fractions of integers, with positive denominators, before equal ones are identified: the operations, the order and the reciprocal.
-- The crate exact makes the rational numbers of them. That equal fractions give equal results is proved in proofs/Frac.antt.
use Rattle.std.specs.Prelude.{◌≡◌, Bool, ℕ, zero, suc, ◌*◌, ◌<◌, ℤ, pos, negsuc, neg_ℤ, ◌+ℤ◌, ◌*ℤ◌}
use Rattle.std.proofs.Math.Option.{Option, none, some}
use Rattle.std.proofs.Math.Nat as N
use Rattle.std.specs.Int.Signed.{le_z}

-- num / den
pub record Frac : Type 0 where
  pub num : ℤ
  pub den : ℕ
  pub den_pos : zero < den

-- the denominator, as an integer
abbrev pub d_ℤ : Frac → ℤ
d_ℤ x = pos x.den

-- equal fractions: the cross products are equal
infix 4 ◌≃◌
pub record ◌≃◌ (x y : Frac) : Type 0 where
  pub cross : x.num *ℤ d_ℤ y ≡ y.num *ℤ d_ℤ x

-- the test of x ≤ y: so are the cross products
abbrev pub le_f : Frac → Frac → Bool
le_f x y = le_z (x.num *ℤ d_ℤ y) (y.num *ℤ d_ℤ x)

abbrev pub add : Frac → Frac → Frac
add x y = record { num = x.num *ℤ d_ℤ y +ℤ y.num *ℤ d_ℤ x; den = x.den * y.den; den_pos = N.mul-pos x.den_pos y.den_pos }

abbrev pub mul : Frac → Frac → Frac
mul x y = record { num = x.num *ℤ y.num; den = x.den * y.den; den_pos = N.mul-pos x.den_pos y.den_pos }

abbrev pub neg : Frac → Frac
neg x = record { num = neg_ℤ x.num; den = x.den; den_pos = x.den_pos }

abbrev pub whole : ℤ → Frac
whole z = record { num = z; den = 1; den_pos = N.zero-lt-suc zero }

-- the reciprocal of a / d: none at 0; the sign stays with the numerator
abbrev pub flip : ℤ → (d : ℕ) → zero < d → Option Frac
flip (pos zero) d p = none
flip (pos (suc n)) d p = some (record { num = pos d; den = suc n; den_pos = N.zero-lt-suc n })
flip (negsuc n) d p = some (record { num = neg_ℤ (pos d); den = suc n; den_pos = N.zero-lt-suc n })

abbrev pub inverted : Frac → Option Frac
inverted x = flip x.num x.den x.den_pos
