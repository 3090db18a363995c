-- The spectra of rows: the last step of each is an operation, so that the order of its ends tells whether it is valid. Assumes nothing.
use mathlib.Core.Path.{◌≡◌, sym, subst}
use Prim.Native.Nat.{ℕ}
use Rattle.range.specs.declared.Range.{Range}
use Rattle.range.proofs.Valid.{by-test}
use Rattle.rules.specs.declared.Line.{Line}
use Rattle.rules.specs.Formula.{sticky}
use Rattle.rules.specs.Table.{singles, mul_row, pow_row, inv_row}
use Rattle.bounds.specs.Terms.{Told}
use Rattle.bounds.proofs.Operands.{told-sum, told-times, told-product, told-star}

module _ (x : Line) (r : Range) where
  pub told-mul : (y : Line) → r ≡ sticky (mul_row x y).spectrum → Told r
  unfolding mul_row
  told-mul y e = subst Told (sym e) (by-test Told (singles x y) (λ _. told-star _ _ _) (λ _. told-sum _ _))

  pub told-pow : (m : ℕ) → r ≡ sticky (pow_row x m).spectrum → Told r
  unfolding pow_row
  told-pow m e = subst Told (sym e) (told-times m _)

  pub told-inv : r ≡ sticky (inv_row x).spectrum → Told r
  unfolding inv_row
  told-inv e = subst Told (sym e) (told-product _ _)
