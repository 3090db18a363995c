-- 01, "The exact side": from the codelist and a point alone, each line's value and derivatives, as rational numbers.
use Rattle.std.specs.Prelude.{cond, List, [], ◌∷◌, ◌++◌, ℕ, zero, suc, ◌*◌, ◌-◌, eqb, ℤ, get_or}
use Rattle.std.proofs.Math.Option.{Option, none, some}
use Rattle.codelist.specs.declared.Op.{Op}
use Rattle.codelist.specs.declared.Op.TheVariants.{Add, Mul, AddC, MulC, Pow, Inv}
use Rattle.codelist.specs.declared.Entry.{Entry}
use Rattle.codelist.specs.declared.Codelist.{Codelist}
use Rattle.exact.specs.Rat.{ℚ, ◌+ℚ◌, ◌-ℚ◌, ◌*ℚ◌, ◌^ℚ◌, neg_ℚ, 0ℚ, 1ℚ, recip}
use Rattle.exact.specs.Units.{units}
use Rattle.range.specs.Inclusion.{num}
use Rattle.rules.specs.Run.{operations}

-- "A point gives each factor a fraction, its coordinate": factors are counted from 0 here, and a coordinate that is not listed is 0.
abbrev pub Point : Type 0
Point = List ℚ

abbrev pub coordinate : Point → ℕ → ℚ
coordinate p i = get_or p i 0ℚ

-- "a value, a first derivative per factor a and a second one per pair of factors a, b"
pub record Jet : Type 0 where
  pub value : ℚ
  pub first : ℕ → ℚ
  pub second : ℕ → ℕ → ℚ

-- ════ the table ════
-- In each row "value | first | second", as 01 has them.

-- factor i: "coordinate i | 1 at i, else 0 | 0"
unfoldable pub factor_jet : Point → ℕ → Jet
factor_jet p i = record {
  value = coordinate p i;
  first = λ a. cond (eqb a i) 1ℚ 0ℚ;
  second = λ a b. 0ℚ;
}

-- add: "x + y | x_a + y_a | x_ab + y_ab"
unfoldable pub add_jet : Jet → Jet → Jet
add_jet x y = record {
  value = x.value +ℚ y.value;
  first = λ a. x.first a +ℚ y.first a;
  second = λ a b. x.second a b +ℚ y.second a b;
}

-- addc: "x + c/10,000 | x_a | x_ab"
unfoldable pub addc_jet : Jet → ℤ → Jet
addc_jet x c = record {
  value = x.value +ℚ units c;
  first = x.first;
  second = x.second;
}

-- mulc: "x·c/10,000 | x_a·c/10,000 | x_ab·c/10,000"
unfoldable pub mulc_jet : Jet → ℤ → Jet
mulc_jet x c = record {
  value = x.value *ℚ units c;
  first = λ a. x.first a *ℚ units c;
  second = λ a b. x.second a b *ℚ units c;
}

-- mul: "x·y | x·y_a + y·x_a | x·y_ab + y·x_ab + x_a·y_b + x_b·y_a"
unfoldable pub mul_jet : Jet → Jet → Jet
mul_jet x y = record {
  value = x.value *ℚ y.value;
  first = λ a. x.value *ℚ y.first a +ℚ y.value *ℚ x.first a;
  second = λ a b. x.value *ℚ y.second a b +ℚ y.value *ℚ x.second a b +ℚ x.first a *ℚ y.first b +ℚ x.first b *ℚ y.first a;
}

-- pow: "x^m | m·x^(m−1)·x_a | m·x^(m−1)·x_ab + m(m−1)·x^(m−2)·x_a·x_b"; "x^0 is 1"
unfoldable pub pow_jet : Jet → ℕ → Jet
pow_jet x m = record {
  value = x.value ^ℚ m;
  first = λ a. num m *ℚ x.value ^ℚ (m - 1) *ℚ x.first a;
  second = λ a b. num m *ℚ x.value ^ℚ (m - 1) *ℚ x.second a b +ℚ num (m * (m - 1)) *ℚ x.value ^ℚ (m - 2) *ℚ x.first a *ℚ x.first b;
}

-- inv: "1/x | −x_a/x² | 2·x_a·x_b/x³ − x_ab/x²", with y for 1/x: x_a/x² is x_a·y²
unfoldable pub inv_jet : Jet → ℚ → Jet
inv_jet x y = record {
  value = y;
  first = λ a. neg_ℚ (x.first a *ℚ y ^ℚ 2);
  second = λ a b. num 2 *ℚ x.first a *ℚ x.first b *ℚ y ^ℚ 3 -ℚ x.second a b *ℚ y ^ℚ 2;
}

-- ════ the lines ════

-- "where one is 0, its line and those that use it, directly or through others, have neither value nor derivatives"
abbrev pub using1 : (Jet → Option Jet) → Option Jet → Option Jet
using1 f none = none
using1 f (some x) = f x

abbrev pub using2 : (Jet → Jet → Jet) → Option Jet → Option Jet → Option Jet
using2 f none o = none
using2 f (some x) none = none
using2 f (some x) (some y) = some (f x y)

abbrev pub invert : Jet → Option ℚ → Option Jet
invert x none = none
invert x (some y) = some (inv_jet x y)

-- what a reference to no line gives: no ratable codelist has one
unfoldable pub no_jet : Jet
no_jet = record { value = 0ℚ; first = λ a. 0ℚ; second = λ a b. 0ℚ }

abbrev pub jet : List (Option Jet) → ℕ → Option Jet
jet js i = get_or js (i - 1) (some no_jet)

unfoldable pub exact_next : Op → List (Option Jet) → Option Jet
exact_next (Add i j) js = using2 add_jet (jet js i) (jet js j)
exact_next (Mul i j) js = using2 mul_jet (jet js i) (jet js j)
exact_next (AddC i c) js = using1 (λ x. some (addc_jet x c)) (jet js i)
exact_next (MulC i c) js = using1 (λ x. some (mulc_jet x c)) (jet js i)
exact_next (Pow i m) js = using1 (λ x. some (pow_jet x m)) (jet js i)
exact_next (Inv i) js = using1 (λ x. invert x (recip x.value)) (jet js i)

-- n factors, of which i is the first
unfoldable pub factor_jets : Point → ℕ → ℕ → List (Option Jet)
factor_jets p i zero = []
factor_jets p i (suc n) = some (factor_jet p i) ∷ factor_jets p (suc i) n

unfoldable pub exact_ops : List Entry → List (Option Jet) → List (Option Jet)
exact_ops [] js = js
exact_ops (o ∷ os) js = exact_ops os (js ++ (exact_next o.op js ∷ []))

-- ALL LINES of a codelist at a point
unfoldable pub exact_lines : Codelist → Point → List (Option Jet)
exact_lines c p = exact_ops (operations c) (factor_jets p 0 c.factors)

unfoldable pub last_jet : List (Option Jet) → Option Jet
last_jet [] = none
last_jet (o ∷ []) = o
last_jet (o ∷ u ∷ os) = last_jet (u ∷ os)

-- "The exact premium, first derivatives and Hessian H are the last line's."
unfoldable pub premium_of : Codelist → Point → Option Jet
premium_of c p = last_jet (exact_lines c p)
