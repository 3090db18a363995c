-- How long the texts are. Assumes nothing.
use Prim.Native.Nat.{ℕ, ◌≤◌}
use native.Mathlib.Omega.{arith}
use lib.ListN.{length, length-append}
use Rattle.codelist.proofs.Lengths.{decimal-length}
use Rattle.writer.specs.Texts.{refused_text}

pub refused-length : (number place : ℕ) → length (refused_text number place) ≤ 50
unfolding refused_text
refused-length number place = simp length-append (omega (arith, decimal-length 19 number, decimal-length 19 place))
