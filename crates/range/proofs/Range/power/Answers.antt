-- `range::Range::power` meets its contract. Assumes nothing.
use mathlib.Core.Path.{sym}
use borrow.Author.Rules.{rules}
use borrow.Author.Tests.{eq-eqb, ne_eqb}
use Rattle.range.specs.Power.{pow_of}
use Rattle.range.proofs.Fitting.{branching}
use Rattle.range.proofs.Range.power.Goals as goal

pub returns-in_default : goal.returns-in_default
unfolding pow_of
returns-in_default c = let v = rw c.in_default.is at c.checked.ensures.none in search (rules, branching, v)

pub returns-then-e-eq0 : goal.returns-then-e-eq0
unfolding pow_of
returns-then-e-eq0 c =
    let a = c.in-Some.a in
    rw (sym (rw c.in-Some.is at c.checked.ensures.some)) (search (rules, branching, eq-eqb, a.valid))

pub returns-else-e-eq0 : goal.returns-else-e-eq0
unfolding pow_of
returns-else-e-eq0 c =
    let a = c.in-Some.a in
    rw (sym (rw c.in-Some.is at c.checked.ensures.some)) (search (rules, branching, ne_eqb, a.valid, c.power.ensures))
