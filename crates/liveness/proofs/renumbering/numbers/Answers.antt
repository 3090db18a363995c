use native.Mathlib.Omega.{arith}
use Rattle.liveness.proofs.Tables.{counted_start, counted_factor, counted_used, counted_unused}
use Rattle.liveness.proofs.renumbering.numbers.Goals as goal
use Rattle.liveness.proofs.renumbering.numbers.Goals.{then-i-from, then-i-from-via-then-i-from, then-i-from-via-else-i-from+then-used-i, else-i-from+else-used-i}

pub loop-i-init : goal.loop-i-init
loop-i-init c = counted_start _

pub loop-i-preserved : goal.loop-i-preserved
loop-i-preserved c =
    let i = c.loop-i.invariant in
    let h = c.loop-i-test.true in
    elim c.if-i-from.branch [
      | then-i-from w ↦ rw w.next-is (elim w.then-i-from.branch [
        | then-i-from-via-then-i-from v ↦ counted_factor _ _ _ _ _ i h (omega arith)
        | then-i-from-via-else-i-from+then-used-i v ↦ counted_used _ _ _ _ _ i h v.if-used-i.true
      ])
      | else-i-from+else-used-i w ↦ rw w.next-is (counted_unused _ _ _ _ _ i h (omega arith) w.if-used-i.false)
    ]
