-- `lines::boat_line` meets its contract: each way through a turn (`Reading`). Assumes nothing.
use Rattle.std.proofs.Common.{◌≡◌, ◌-◌, rules, ◌∙◌, length-set}
use Rattle.fleet_text.specs.Input.{byte_after}
use Rattle.fleet_text.proofs.Reading.{byte-tab, byte-end, line-bad, line-turn, line-end}
use Rattle.fleet_text.proofs.lines.boat_line.Goals as goal
use Rattle.fleet_text.proofs.lines.boat_line.Goals.{then-a-lt7, else-a-lt7}

pub returns-in_err-w : goal.returns-in_err-w
returns-in_err-w c =
    let e : c.if-a-lt7.end ≡ byte_after (7 - c.loop-a.a) =
    elim c.if-a-lt7.branch [ then-a-lt7 w ↦ w.end-is ∙ byte-tab _ w.if-a-lt7.true | else-a-lt7 w ↦ w.end-is ∙ byte-end _ w.if-a-lt7.false ] in
    rw c.from_residual.ensures (line-bad _ _ _ _ c.loop-a-test.true (search rules) e c.in_err-w.ensures ∙ c.loop-a.invariant.same)

pub loop-a-preserved : goal.loop-a-preserved
loop-a-preserved c =
    let e : c.if-a-lt7.end ≡ byte_after (7 - c.loop-a.a) =
    elim c.if-a-lt7.branch [ then-a-lt7 w ↦ w.end-is ∙ byte-tab _ w.if-a-lt7.true | else-a-lt7 w ↦ w.end-is ∙ byte-end _ w.if-a-lt7.false ] in
    record {
      whole = length-set _ _ _ ∙ c.loop-a.invariant.whole;
      same = line-turn _ _ _ _ c.loop-a-test.true (search rules) e _ _ _ c.loop-a.invariant.whole c.in_ok-w.ensures (search rules) ∙ c.loop-a.invariant.same;
    }

pub returns : goal.returns
returns c = line-end _ _ _ c.loop-a.invariant.whole c.loop-a-test.false ∙ c.loop-a.invariant.same
