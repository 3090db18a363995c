-- `range::root::first_near` meets its contract. Assumes nothing.
use Prim.Native.Nat.{◌+◌, ◌*◌, ◌/◌, ◌%◌, ◌^◌, ◌≤◌}
use native.Mathlib.Nat.{div-le_self}
use native.Mathlib.Omega.{arith}
use lib.Pow.{pow_mono}
use Rattle.range.proofs.root.first_near.Goals.{After-half_digits-h}

-- the power and the quotient, with room for their sum
sum_bound : (c : After-half_digits-h)
    → let p = 2 ^ c.half_digits-h.result in 1 * p % 18446744073709551616 + c.args.x / p ≤ 9000000004294967296
sum_bound c =
    let h = c.half_digits-h.result in
    omega (arith, pow_mono {i = h} {j = 32} c.half_digits-h.ensures, div-le_self c.args.x (2 ^ h))
