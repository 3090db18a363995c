-- The rational numbers ℚ: fractions of integers, with equal ones identified, so that equality is `≡`; operations, order, reciprocal.
-- An operation on ℚ is that on fractions, together with the proof that equal fractions give equal results (algebra's proofs/Frac.antt).
-- A closed term computes where its operations unfold: `unfolding ratio ◌+ℚ◌ le_q`. proofs/Rat proves that ℚ is an ordered field.
use Rattle.std.specs.Prelude.{◌≡◌, Bool, not, ℕ, zero, ◌<◌, T, ℤ, pos}
use Rattle.std.proofs.Common.{ap}
use Rattle.std.proofs.Math.Bool.{Bool-set}
use Rattle.std.proofs.Math.Option.{Option, none, some, is_set}
use mathlib.Core.Quot
use mathlib.Core.Quot.Quotient
use mathlib.Core.Quot.{Setoid, Quot-set, lift, Quotient}
use Rattle.algebra.specs.Ring.{power}
use Rattle.algebra.specs.Sum.{sum_below}
use Rattle.algebra.specs.Frac as F
use Rattle.algebra.specs.Frac.{Frac, ◌≃◌, whole}
use Rattle.algebra.proofs.Frac as L

abbrev pub Frac-setoid : Setoid {0, 0} Frac
Frac-setoid = record { r = ◌≃◌; iseqv = L.≃-equivalence }

abbrev pub ℚ : Type 0
ℚ = Quotient Frac-setoid

pub ℚ-set : IsSet ℚ
ℚ-set = Quot-set

-- the number that a fraction stands for
abbrev pub mk : Frac → ℚ
mk x = Quot.mk x

pub sound : {x y : Frac} → x ≃ y → mk x ≡ mk y
sound p = Quot.sound p

-- ════ the numbers and the operations ════

-- a / d, for a positive natural number d
unfoldable pub ratio : ℤ → (d : ℕ) → zero < d → ℚ
ratio a d p = mk (record { num = a; den = d; den_pos = p })

unfoldable pub from_ℤ : ℤ → ℚ
from_ℤ z = mk (whole z)

infixl 6 ◌+ℚ◌ ◌-ℚ◌
infixl 7 ◌*ℚ◌
unfoldable pub ◌+ℚ◌ : ℚ → ℚ → ℚ
unfolding Quotient.lift₂
x +ℚ y = Quotient.lift₂ Frac-setoid Frac-setoid Quot-set (λ a b. mk (F.add a b)) (λ a b c d p q. sound (L.add_cong p q)) x y

unfoldable pub ◌*ℚ◌ : ℚ → ℚ → ℚ
unfolding Quotient.lift₂
x *ℚ y = Quotient.lift₂ Frac-setoid Frac-setoid Quot-set (λ a b. mk (F.mul a b)) (λ a b c d p q. sound (L.mul-cong p q)) x y

unfoldable pub neg_ℚ : ℚ → ℚ
neg_ℚ x = lift Quot-set (λ a. mk (F.neg a)) (λ a b p. sound (L.neg-cong p)) x

abbrev pub ◌-ℚ◌ : ℚ → ℚ → ℚ
x -ℚ y = x +ℚ neg_ℚ y

abbrev pub 0ℚ : ℚ
0ℚ = from_ℤ (pos 0)

abbrev pub 1ℚ : ℚ
1ℚ = from_ℤ (pos 1)

-- x · x · .. · x, e times; x ^ℚ 0 is 1
infixr 80 ◌^ℚ◌
abbrev pub ◌^ℚ◌ : ℚ → ℕ → ℚ
x ^ℚ e = power 1ℚ ◌*ℚ◌ x e

-- f 0 + .. + f (n − 1)
abbrev pub sum_ℚ : ℕ → (ℕ → ℚ) → ℚ
sum_ℚ n f = sum_below 0ℚ ◌+ℚ◌ n f

-- ════ the order ════

-- the test of x ≤ y, and the two orders that it decides: a/d ≤ b/e where a·e ≤ b·d
unfoldable pub le_q : ℚ → ℚ → Bool
unfolding Quotient.lift₂
le_q x y = Quotient.lift₂ Frac-setoid Frac-setoid Bool-set F.le_f L.le_f-cong x y

infix 4 ◌≤ℚ◌ ◌<ℚ◌
pub record ◌≤ℚ◌ (x y : ℚ) : Type 0 where
  pub le : T (le_q x y)

pub record ◌<ℚ◌ (x y : ℚ) : Type 0 where
  pub lt : T (not (le_q y x))

-- ════ the reciprocal ════

abbrev pub mkᵒ : Option Frac → Option ℚ
mkᵒ none = none
mkᵒ (some a) = some (mk a)

-- 1/x, which has no value at 0
unfoldable pub recip : ℚ → Option ℚ
recip x = lift (is_set ℚ-set) (λ a. mkᵒ (F.inverted a)) (L.inverted-cong mkᵒ (λ a b p. ap some (sound p))) x

-- what it is, as `recip-law` proves: no value says that x is 0, and a value y that x * y is 1
abbrev pub Recip : ℚ → Option ℚ → Type 0
Recip x none = x ≡ 0ℚ
Recip x (some y) = x *ℚ y ≡ 1ℚ
