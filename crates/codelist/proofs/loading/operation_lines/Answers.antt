-- `operation_lines` meets its contract.
use Rattle.std.proofs.Common.{length, ◌<◌, ◌≡◌, arith}
use Rattle.codelist.specs.Read.{good, bad, operation_line}
use Rattle.codelist.specs.Views.{text_line}
use Rattle.std.proofs.lemmas.Grind.{common_steps}
use Rattle.std.proofs.lemmas.Bool.Decides.{nat_tests}
use Rattle.codelist.proofs.Loop.{leave-bad, leave-full, leave-fault, leave_none, leave-done, turn}
use Rattle.codelist.proofs.loading.operation_lines.Goals as goal

pub returns-in_err-line : goal.returns-in_err-line
returns-in_err-line c =
    let h : 0 < length c.loop-rest.rest.now = grind (arith, nat_tests, common_steps) in
    let e : bad ≡ operation_line c.loop-rest.rest.now = grind (arith, common_steps) in
    let l = leave-bad _ _ _ _ _ _ c.loop-rest.invariant h e in
    grind (arith, common_steps)

pub returns-then-earlier-ge-MOST_LINES : goal.returns-then-earlier-ge-MOST_LINES
returns-then-earlier-ge-MOST_LINES c =
    let e : good (text_line c.in_ok-line.line) c.in_ok-line.t.now ≡ operation_line c.loop-rest.rest.now = grind (arith, common_steps) in
    let l = leave-full _ _ _ _ _ _ c.loop-rest.invariant _ _ e (omega arith) in
    grind (arith, common_steps)

pub returns-in_err-op : goal.returns-in_err-op
returns-in_err-op c =
    let e : good (text_line c.in_ok-line.line) c.in_ok-line.t.now ≡ operation_line c.loop-rest.rest.now = grind (arith, common_steps) in
    let l = leave-fault _ _ _ _ _ _ c.loop-rest.invariant _ _ e c.in_err-op.field-0.0 (omega arith) in
    grind (arith, common_steps)

pub loop-rest-preserved : goal.loop-rest-preserved
loop-rest-preserved c =
    let e : good (text_line c.in_ok-line.line) c.in_ok-line.t.now ≡ operation_line c.loop-rest.rest.now = grind (arith, common_steps) in
    let l = turn _ _ _ _ _ _ c.loop-rest.invariant _ _ e c.in_ok-op.op (omega arith) in
    grind (arith, common_steps)

pub returns-then-count-eq0 : goal.returns-then-count-eq0
returns-then-count-eq0 c =
    let h : length c.loop-rest.rest.now ≡ 0 = grind (arith, nat_tests, common_steps) in
    leave_none _ _ _ _ _ _ c.loop-rest.invariant h c.if-count-eq0.true

pub returns : goal.returns
returns c =
    let h : length c.loop-rest.rest.now ≡ 0 = grind (arith, nat_tests, common_steps) in
    leave-done _ _ _ _ _ _ c.loop-rest.invariant h c.if-count-eq0.false
