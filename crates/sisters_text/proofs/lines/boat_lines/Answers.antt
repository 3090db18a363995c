-- `lines::boat_lines` meets its contract: each way through a turn (`Reading`). Assumes nothing.
use Rattle.std.proofs.Common.{◌≡◌, get_or, rules, arith, ap, ◌∙◌, length-set}
use Rattle.sisters_text.specs.Input.{boat_ends, boats_in, whole_of}
use Rattle.sisters_text.proofs.Reading.{byte-last, byte-inner, fields-bad, fields-turn, fields-done, read}
use Rattle.sisters_text.proofs.lines.boat_lines.Goals as goal
use Rattle.sisters_text.proofs.lines.boat_lines.Goals.{then-a-n-eq0, else-a-n-eq0}

pub returns-in_err-w-clause-read : goal.returns-in_err-w-clause-read
unfolding boats_in
returns-in_err-w-clause-read c =
    let e : c.if-a-n-eq0.end ≡ get_or (boat_ends c.args.n) c.loop-a.a 0 =
    elim c.if-a-n-eq0.branch [
      | then-a-n-eq0 w ↦ w.end-is ∙ byte-last _ _ c.loop-a-test.true w.if-a-n-eq0.true
      | else-a-n-eq0 w ↦ w.end-is ∙ byte-inner _ _ c.loop-a-test.true w.if-a-n-eq0.false
    ] in
    rw c.from_residual.ensures (ap whole_of (fields-bad _ _ _ _ _ c.loop-a-test.true (search rules) e c.in_err-w.ensures ∙ c.loop-a.invariant.same))

pub loop-a-preserved : goal.loop-a-preserved
loop-a-preserved c =
    let e : c.if-a-n-eq0.end ≡ get_or (boat_ends c.args.n) c.loop-a.a 0 =
    elim c.if-a-n-eq0.branch [
      | then-a-n-eq0 w ↦ w.end-is ∙ byte-last _ _ c.loop-a-test.true w.if-a-n-eq0.true
      | else-a-n-eq0 w ↦ w.end-is ∙ byte-inner _ _ c.loop-a-test.true w.if-a-n-eq0.false
    ] in
    record {
      whole = length-set _ _ _ ∙ c.loop-a.invariant.whole;
      same = fields-turn _ _ _ _ _ c.loop-a-test.true (search rules) e _ _ _ c.requires c.loop-a.invariant.whole c.in_ok-w.ensures (search rules)
          ∙ c.loop-a.invariant.same;
    }

pub returns-clause-read : goal.returns-clause-read
unfolding boats_in
returns-clause-read c =
    rw (c.then_some.ensures, c.is_empty.ensures)
    (read c.args.n c.loop-a.rest.now c.loop-a.values ∙ ap whole_of (fields-done _ _ _ _ (omega arith) ∙ c.loop-a.invariant.same))
