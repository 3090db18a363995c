-- The ends of what an operation gives, a valid range or `over`, as numbers of 32 bits. Assumes nothing.
use mathlib.Core.Path.{◌≡◌, ◌∙◌}
use mathlib.Core.Logic.{inl, inr}
use native.Mathlib.Omega.{arith}
use lib.IntN.{ℤ}
use mir.Syntax.{w32, w64}
use mir.Val.{SFits, to_z, of_z}
use mir.ValLaws.{to_z-of_z}
use Rattle.exact.proofs.Machine.{fits-abs}
use Rattle.range.specs.declared.Range.{Range}
use Rattle.range.specs.Laws.{Settled}
use Rattle.range.proofs.Fitting.{InLimit, low-within, high-within, fits-narrow}

pub ends-within : (r : Range) → Settled r → InLimit r.low × InLimit r.high
ends-within r (inl v) = (low-within r v, high-within r v)
ends-within r (inr e) = rw e (omega arith, omega arith)

module _ (z : ℤ) (h : InLimit z) where
  read : to_z w64 (of_z w64 z) ≡ z
  read = to_z-of_z w64 z (fits-abs z (omega (arith, h)))

  pub narrow : SFits w32 (to_z w64 (of_z w64 z))
  narrow = rw read (fits-narrow z h)

  -- as it is read from the table
  pub narrowed : to_z w32 (of_z w32 (to_z w64 (of_z w64 z))) ≡ z
  narrowed = to_z-of_z w32 (to_z w64 (of_z w64 z)) narrow ∙ read
