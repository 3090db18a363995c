use mathlib.Core.Path.{ap₂}
use mathlib.Core.Logic.{inl}
use Prim.Native.Nat.{◌+◌}
use lib.IntN.{ℤ}
use lib.ListN.{set}
use Rattle.bounds.proofs.Narrow.{ends-within, narrow, narrowed}
use Rattle.bounds.proofs.table.put.Goals as goal

pub overflow_cast-numbers : goal.overflow_cast-numbers
overflow_cast-numbers c = narrow c.args.r.low (ends-within c.args.r (inl c.requires.r_value)).0

pub overflow_cast-numbers-2 : goal.overflow_cast-numbers-2
overflow_cast-numbers-2 c = narrow c.args.r.high (ends-within c.args.r (inl c.requires.r_value)).1

pub returns : goal.returns
returns c =
    let m = c.args.m in
    let small = ends-within c.args.r (inl c.requires.r_value) in
    ap₂ (λ (l h : ℤ). set (set c.args.numbers.now m l) (m + 1) h)
    (narrowed c.args.r.low small.0)
    (narrowed c.args.r.high small.1)
