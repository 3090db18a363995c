-- `reader::digits` meets its contract: each turn of the loop reads one digit more, as `digits_up_to` does.
use Rattle.std.proofs.Common.{arith, refl}
use Rattle.formulas.proofs.Digits.{run-start, run_more, Stopped, run-stop, run-full, run-none, run-some}
use Rattle.formulas.proofs.reader.digits.Goals as goal
use Rattle.formulas.proofs.reader.digits.Goals.{else-loop-count-test, then-loop-count-test+in_default}

pub loop-count-init : goal.loop-count-init
loop-count-init c = (run-start c.args.s.now c.args.most, refl)

pub loop-count-preserved : goal.loop-count-preserved
loop-count-preserved c =
    let d = c.in-Some.ensures in
    rw (← c.loop-count.invariant.1) (run_more c.loop-count.invariant.0 d.0 d.1 d.2 (omega arith), refl)

pub returns-then-run-eq0 : goal.returns-then-run-eq0
returns-then-run-eq0 c =
    let d = c.loop-count.run in
    let h : Stopped c.args.s.now c.args.most d.rest.now d.value d.count
    = elim c.loop-count-test.branch [
      | else-loop-count-test w ↦ run-full c.loop-count.invariant.0 (omega arith)
      | then-loop-count-test+in_default w ↦ run-stop c.loop-count.invariant.0 w.in_default.ensures
    ] in
    (refl, run-none h c.if-run-eq0.true)

pub returns-else-run-eq0 : goal.returns-else-run-eq0
returns-else-run-eq0 c =
    let d = c.loop-count.run in
    let h : Stopped c.args.s.now c.args.most d.rest.now d.value d.count
    = elim c.loop-count-test.branch [
      | else-loop-count-test w ↦ run-full c.loop-count.invariant.0 (omega arith)
      | then-loop-count-test+in_default w ↦ run-stop c.loop-count.invariant.0 w.in_default.ensures
    ] in
    run-some h d refl refl refl c.if-run-eq0.false
