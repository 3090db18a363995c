-- What falls in the cycle of readers is six times the bytes that are left, and a number: 0 for an atom, 1 for a power, and so on up to 5 for a sum.
use Rattle.std.proofs.Common.{ℕ, ◌+◌, ◌*◌, length}
use Rattle.formulas.specs.declared.reader.Rank as rank
use Rattle.formulas.specs.Read.{atom_at}
use Rattle.formulas.specs.Views.{signs, operands}
use Rattle.formulas.proofs.ReaderSteps.{Loop}
use Rattle.formulas.proofs.reader.+readers.Given as goal

abbrev height : rank.Rank → ℕ
height rank.TheVariants.Product = 2
height rank.TheVariants.Sum = 4

abbrev pub decreases-atom : goal.decreases-atom
decreases-atom l = 6 * length l.s.now

abbrev pub decreases-powered : goal.decreases-powered
decreases-powered l = 6 * length l.s.now + 1

abbrev pub decreases-part : goal.decreases-part
decreases-part l = 6 * length l.s.now + height l.rank

abbrev pub decreases-joined : goal.decreases-joined
decreases-joined l = 6 * length l.s.now + (height l.rank + 1)

abbrev pub invariant-joined-loop-sign : goal.invariant-joined-loop-sign
invariant-joined-loop-sign l =
    Loop (signs l.rank) (operands l.rank (atom_at l.room)) l.initial.sheet l.initial.left l.initial.rest l.sheet l.left l.rest

abbrev pub decreases-joined-loop-sign : goal.decreases-joined-loop-sign
decreases-joined-loop-sign l = length l.rest
