use native.Mathlib.Omega.{arith}
use Rattle.codelist.specs.Codelist.{blank}
use Rattle.liveness.proofs.Tables.{seen_start, seen_unused}
use Rattle.liveness.proofs.marks.used_lines.Goals as goal

pub loop-k-init : goal.loop-k-init
loop-k-init c = rw (c.from-n.ensures, c.from-count.ensures) (seen_start c.args.c.now c.requires)

pub loop-k-preserved : goal.loop-k-preserved
loop-k-preserved c = seen_unused c.args.c.now c.requires c.loop-k.used c.loop-k.k c.loop-k.invariant (omega arith) blank _ (omega arith) c.if-used-n.false
