-- What a formula is worth at a point. 02, request 12: "Wherever the formula is defined, the sheet's exact premium equals it".
use Rattle.std.specs.Prelude.{◌-◌, pos}
use Rattle.std.proofs.Math.Option.{Option, none, some}
use Rattle.exact.specs.Rat.{ℚ, ◌+ℚ◌, ◌-ℚ◌, ◌*ℚ◌, ◌^ℚ◌, recip}
use Rattle.exact.specs.Units.{units}
use Rattle.rules.specs.Exact.{Point, coordinate, Jet}
use Rattle.formulas.specs.Grammar.{Tree, factor, constant, bracket, power, join, Sign, plus, minus, times, over}
use Rattle.formulas.specs.Units.{units_of}

-- none where an operand has no value
abbrev pub also : Option ℚ → (ℚ → Option ℚ) → Option ℚ
also none f = none
also (some x) f = f x

-- Two operands and the sign between them: x / y is x times the reciprocal of y, and none where y is 0
abbrev pub combined : Sign → ℚ → ℚ → Option ℚ
combined plus x y = some (x +ℚ y)
combined minus x y = some (x -ℚ y)
combined times x y = some (x *ℚ y)
combined over x y = also (recip y) (λ z. some (x *ℚ z))

-- THE VALUE of a formula at a point: none where it is not defined, which is where a divisor is 0
unfoldable pub value_of : Tree → Point → Option ℚ
value_of (factor i) p = some (coordinate p (i - 1))
value_of (constant w d) p = some (units (pos (units_of w d)))
value_of (bracket t) p = value_of t p
value_of (power t m) p = also (value_of t p) (λ x. some (x ^ℚ m))
value_of (join o t u) p = also (value_of t p) (λ x. also (value_of u p) (λ y. combined o x y))

-- The value of an exact premium, where there is one (01, "The exact side")
abbrev pub premium_value : Option Jet → Option ℚ
premium_value none = none
premium_value (some j) = some j.value
