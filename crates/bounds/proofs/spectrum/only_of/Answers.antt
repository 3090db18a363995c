-- `bounds::spectrum::only_of` meets its contract. Assumes nothing.
use mathlib.Core.Path.{sym}
use Prim.Native.Nat.{◌≤◌}
use native.Mathlib.Omega.{arith}
use lib.Count.{trailing_le}
use lib.ListN.{get_or-eq_default}
use Rattle.range.specs.Limit.{zero_range}
use Rattle.rules.specs.Sets.{only}
use Rattle.bounds.specs.Table.{gradient_at}
use Rattle.bounds.proofs.spectrum.only_of.Goals as goal

pub overflow_cast-a : goal.overflow_cast-a
overflow_cast-a c = omega (arith, trailing_le 8 c.args.set)

pub returns-then-a-lt8 : goal.returns-then-a-lt8
unfolding only
returns-then-a-lt8 c = c.slope.ensures

pub returns-else-a-lt8 : goal.returns-else-a-lt8
unfolding only
returns-else-a-lt8 c =
    let past : 8 ≤ only c.args.set = omega (arith, c.if-a-lt8.false) in
    sym (get_or-eq_default (gradient_at c.args.t.now c.args.i) zero_range past)
