-- How large the numbers of a formula's lines are: a constant has fewer than 10^10 units, and a numeral at most ten digits.
use Prim.Native.Nat.{ℕ, suc, zero, ◌+◌, ◌-◌, ◌*◌, ◌^◌, ◌≤◌, ◌<◌}
use mathlib.Core.Bool.{Bool, true, false, cond, ◌&&◌}
use mathlib.Core.List.{List, [], ◌∷◌}
use mathlib.Core.Path.{◌≡◌, refl}
use native.Mathlib.Nat.{add-zero, add-suc, le_refl, mul_assoc, mul-le-mul_right, pow-succ', pow-le-pow_right}
use native.Mathlib.Omega.{arith}
use lib.Dec.{leb}
use lib.ListN.{length}
use borrow.Author.Tests.{leb-true}
use Rattle.codelist.specs.Text.{IsNumeral}
use Rattle.codelist.proofs.Checks.{plain-numeral}
use Rattle.formulas.specs.Grammar.{Each, Digits}
use Rattle.formulas.specs.Units.{number_from, units_of}
use Rattle.formulas.specs.Convert.{count_of, reference, minus_one, negated}

-- Digits after the number m, and then j zeros
number-below : (ds : List ℕ) (m j : ℕ) → Each ds → (number_from m ds + 1) * 10 ^ j ≤ (m + 1) * 10 ^ (j + length ds)
unfolding number_from
number-below [] m j e = rw add-zero (le_refl _)
number-below (d ∷ ds) m j e =
    let x : ℕ = 10 ^ (j + length ds) in
    let h : (m * 10 + d + 1) * x ≤ (m + 1) * 10 * x = mul-le-mul_right x (omega (arith, e.0)) in
    rw (add-suc j (length ds), pow-succ') (omega (arith, number-below ds (m * 10 + d) j e.1, mul_assoc (m + 1) 10 x))

pub units_small : (w p : List ℕ) → Digits 1 6 w → Digits 0 4 p → units_of w p < 10 ^ 10
unfolding units_of
units_small w p i j =
    let k : ℕ = 4 - length p in
    let four : k + length p ≡ 4 = omega (arith, j.1) in
    let low : (number_from 0 p + 1) * 10 ^ k ≤ (0 + 1) * 10 ^ 4 = rw four at (number-below p 0 k j.2) in
    omega (
      arith,
      low,
      number-below w 0 0 i.2,
      pow-le-pow_right {n = 10} (omega arith) {i = 0 + length w} {j = 6} (omega (arith, i.1)),
      pow-le-pow_right {n = 10} (omega arith) {i = 0} {j = k} (omega arith),
    )

pub count_small : (k : ℕ) → count_of k ≤ 9
unfolding count_of
count_small k = go (leb 1 k) (leb k 8) refl
  where
    go : (a b : Bool) → leb k 8 ≡ b → cond (a && b) k 9 ≤ 9
    go true true e = omega (arith, leb-true k 8 e)
    go true false e = omega arith
    go false b e = omega arith

pub reference-small : (n i : ℕ) → reference n i ≤ i
unfolding reference
reference-small n i = go (leb i n)
  where
    go : (b : Bool) → cond b i 0 ≤ i
    go true = omega arith
    go false = omega arith

pub minus-one-numeral : IsNumeral minus_one
minus-one-numeral = record { few = omega arith; some = λ e. omega arith }

pub negated-numeral : (c : ℕ) → c < 10 ^ 10 → IsNumeral (negated c)
unfolding negated
negated-numeral zero h = plain-numeral 0 h
negated-numeral (suc c) h = record { few = h; some = λ e. omega arith }
