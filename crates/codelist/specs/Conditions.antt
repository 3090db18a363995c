-- The conditions of 01's refusals 3, 5, 6 and 7, and of 02's refusal 15, on numbers as they are written.
use Rattle.std.specs.Prelude.{ℕ, Bool, true, false, cond, ◌&&◌, leb}
use Rattle.codelist.specs.Text.{TextLine}
use Rattle.codelist.specs.Text.{Add, Mul, AddC, MulC, Pow, Inv}
use Rattle.codelist.specs.declared.Numeral.{Numeral}
use Rattle.exact.specs.Units.{limit}

-- low ≤ w ≤ high, for bounds that are not negative
unfoldable pub is_between : ℕ → ℕ → Numeral → Bool
is_between low high w = cond w.negative false (leb low w.magnitude && leb w.magnitude high)

-- 5: every reference is to one of the e codelist lines before
unfoldable pub refers_back : ℕ → TextLine → Bool
refers_back e (Add i j) = is_between 1 e i && is_between 1 e j
refers_back e (Mul i j) = is_between 1 e i && is_between 1 e j
refers_back e (AddC i c) = is_between 1 e i
refers_back e (MulC i c) = is_between 1 e i
refers_back e (Pow i m) = is_between 1 e i
refers_back e (Inv i) = is_between 1 e i

-- 6: an exponent is 2 to 8
unfoldable pub exponent_fits : TextLine → Bool
exponent_fits (Pow i m) = is_between 2 8 m
exponent_fits (Add i j) = true
exponent_fits (Mul i j) = true
exponent_fits (AddC i c) = true
exponent_fits (MulC i c) = true
exponent_fits (Inv i) = true

-- 7: a constant is not beyond the limit
unfoldable pub constant_fits : TextLine → Bool
constant_fits (AddC i c) = leb c.magnitude limit
constant_fits (MulC i c) = leb c.magnitude limit
constant_fits (Add i j) = true
constant_fits (Mul i j) = true
constant_fits (Pow i m) = true
constant_fits (Inv i) = true

-- 15: "`mulc` with the constant 0 is to be refused at loading" (02, request 5). A numeral 0 has one spelling, without a minus: its magnitude tells
unfoldable pub multiplier_fits : TextLine → Bool
multiplier_fits (MulC i c) = leb 1 c.magnitude
multiplier_fits (Add i j) = true
multiplier_fits (Mul i j) = true
multiplier_fits (AddC i c) = true
multiplier_fits (Pow i m) = true
multiplier_fits (Inv i) = true
