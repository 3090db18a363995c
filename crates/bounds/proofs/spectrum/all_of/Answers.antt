-- `bounds::spectrum::all_of` meets its contract. Assumes nothing.
use mathlib.Core.Path.{◌≡◌, ap}
use native.Mathlib.Omega.{arith}
use Prim.Native.Nat.{ℕ, ◌-◌, ◌≤◌, ◌^◌, ◌*◌, ◌%◌}
use lib.Dec.{lit<}
use lib.Pow.{pow_pos, pow_mono}
use Rattle.bounds.proofs.Factors.{shifted}
use Rattle.bounds.proofs.spectrum.all_of.Goals as goal

-- the shifted one keeps all its bits
kept : (n : ℕ) → n ≤ 8 → 1 * 2 ^ n % 65536 ≡ 2 ^ n
kept n h = shifted n 8 65536 h (lit< tt)

pub overflow_sub-result : goal.overflow_sub-result
overflow_sub-result c = rw (kept _ c.requires) (pow_pos c.args.n)

pub overflow_cast-result-2 : goal.overflow_cast-result-2
overflow_cast-result-2 c = rw (kept _ c.requires) (omega (arith, pow_mono {i = c.args.n} {j = 8} c.requires))

pub returns : goal.returns
returns c = ap (λ (m : ℕ). m - 1) (kept _ c.requires)
