-- `lines::boat_lines` meets its contract: each way through a turn (`Reading`). Assumes nothing.
use Rattle.std.proofs.Common.{[], ◌∷◌, rules, arith, ◌∙◌, length-append}
use Rattle.fleet_text.proofs.Reading.{lines-bad, lines-full, lines-turn, lines-end}
use Rattle.fleet_text.proofs.lines.boat_lines.Goals as goal

pub returns-in_err-boat : goal.returns-in_err-boat
returns-in_err-boat c = rw c.from_residual.ensures (lines-bad _ _ _ (search rules) c.in_err-boat.ensures ∙ c.loop-rest.invariant.same)

pub returns-in_err-push : goal.returns-in_err-push
returns-in_err-push c =
    rw c.from_residual-in_err-push.ensures (lines-full _ _ _ (search rules) (omega (arith, c.in_err-push.ensures)) ∙ c.loop-rest.invariant.same)

pub loop-rest-preserved : goal.loop-rest-preserved
loop-rest-preserved c =
    let p = c.in_ok-push.ensures in
    let n = length-append c.loop-rest.boats (c.in_ok-boat.boat ∷ []) in
    record {
      few = rw p.1 (omega (arith, p.0, n));
      same = rw p.1 (lines-turn _ _ c.loop-rest.boats c.in_ok-boat.boat _ _ (search rules) (omega (arith, p.0, n)) c.in_ok-boat.ensures)
          ∙ c.loop-rest.invariant.same;
    }

pub returns : goal.returns
returns c = lines-end _ _ _ (search rules) ∙ c.loop-rest.invariant.same
