-- `text::sheet_end` meets its contract: the laws of the search (`Splitting`) at each way out and each turn. Assumes nothing.
use mathlib.Core.Path.{◌≡◌, sym, ◌∙◌}
use lib.ListN.{length}
use native.Mathlib.Omega.{arith}
use Rattle.std.proofs.lemmas.List.{take_rest}
use Rattle.codelist.proofs.Laws.{both-made}
use Rattle.text.proofs.Splitting.{found, passed, ended}
use Rattle.text.proofs.sheet_end.Goals as goal
use Rattle.text.proofs.sheet_end.Goals.{else-start-via-then-start+else-is_line, else-start-via-else-start}

pub returns-then-is_line : goal.returns-then-is_line
returns-then-is_line c =
    let a = c.args in
    let i = c.loop-at.at in
    let h = rw (take_rest a.s.now i) at c.if-is_line.ensures in
    found a.w.now a.s.now i c.loop-at.start c.loop-at.invariant c.loop-at-test.true (both-made _ _ c.if-start.true (sym h))

pub loop-at-preserved : goal.loop-at-preserved
loop-at-preserved c =
    let a = c.args in
    let i = c.loop-at.at in
    passed a.w.now a.s.now i c.loop-at.start c.loop-at.invariant c.loop-at-test.true
    (elim c.else-start.branch [
      | else-start-via-then-start+else-is_line w ↦ rw w.if-start.true (sym (rw (take_rest a.s.now i) at w.if-is_line.ensures))
      | else-start-via-else-start w ↦ rw w.if-start.false
    ])

pub returns : goal.returns
returns c =
    let a = c.args in
    let n : c.loop-at.at ≡ length a.s.now = omega (arith, c.loop-at.auto.at-end, c.loop-at-test.false) in
    sym n ∙ ended a.w.now a.s.now c.loop-at.at c.loop-at.start c.loop-at.invariant c.loop-at-test.false
