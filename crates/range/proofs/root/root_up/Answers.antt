-- `range::root::root_up` meets its contract. Assumes nothing.
use native.Mathlib.Omega.{arith}
use Rattle.range.proofs.Roots.{root_none}
use Rattle.range.proofs.root.root_up.Goals as goal

pub returns-then-x-eq0 : goal.returns-then-x-eq0
returns-then-x-eq0 c = record { value = root_none c.args.x c.if-x-eq0.true; upper_bound = omega arith }
