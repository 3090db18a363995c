-- `boats::totals::with_number` meets its contract. Assumes nothing.
use mathlib.Core.Path.{refl}
use native.Mathlib.Omega.{arith}
use Rattle.boats.proofs.Adding.{number-made, number-passed, low-back, high-back}
use Rattle.boats.proofs.totals.with_number.Goals as goal

pub returns-in-9 : goal.returns-in-9
returns-in-9 c =
    let a = c.args in
    number-made a.sum.report a.number (rw c.in-9.is refl) (rw c.in-9.is (omega arith)) (rw c.in-9.is (omega arith))
    (low-back a.k a.sum c.requires) (high-back a.k a.sum c.requires)

pub returns-in-11 : goal.returns-in-11
returns-in-11 c =
    let a = c.args in
    number-made a.sum.report a.number (rw c.in-11.is (omega arith)) (rw c.in-11.is refl) (rw c.in-11.is (omega arith))
    (low-back a.k a.sum c.requires) (high-back a.k a.sum c.requires)

pub returns-in-12 : goal.returns-in-12
returns-in-12 c =
    let a = c.args in
    number-made a.sum.report a.number (rw c.in-12.is (omega arith)) (rw c.in-12.is (omega arith)) (rw c.in-12.is refl)
    (low-back a.k a.sum c.requires) (high-back a.k a.sum c.requires)

pub returns-in_default : goal.returns-in_default
returns-in_default c = number-passed c.args.sum.report c.args.number (λ e. omega (arith, e)) (λ e. omega (arith, e)) (λ e. omega (arith, e))
