-- `text::box_lines` meets its contract: the laws of the loop (`Reading`) at each way out and each turn. Assumes nothing.
use Prim.Native.Nat.{◌-◌, ◌<◌}
use mathlib.Core.Path.{ap, sym, ◌∙◌}
use native.Mathlib.Omega.{arith}
use lib.ListN.{length}
use mir.Syntax.{w64}
use mir.Facts.{to_z-of_z}
use borrow.Author.Rules.{rules}
use Rattle.text.specs.Boxes.{numbers_of}
use Rattle.text.proofs.Reading.{start, left-some, left-none, leave-full, leave-bad, leave-done, one_more, turn}
use Rattle.text.proofs.box_lines.Goals as goal

pub loop-rest-init : goal.loop-rest-init
loop-rest-init c = rw c.new-boxes.ensures (start _)

pub returns-in_err-low : goal.returns-in_err-low
returns-in_err-low c =
    let l = c.loop-rest in
    ap numbers_of c.from_residual.ensures
    ∙ leave-bad _ _ _ l.invariant (left-some _ c.loop-rest-test.ensures) (sym c.in_err-low.ensures)

pub returns-in_err-push : goal.returns-in_err-push
returns-in_err-push c =
    let l = c.loop-rest in
    ap numbers_of c.from_residual-in_err-push.ensures
    ∙ leave-full _ _ _ l.invariant (left-some _ c.loop-rest-test.ensures) c.in_err-push.ensures

pub loop-rest-smaller : goal.loop-rest-smaller
loop-rest-smaller c =
    let low = c.in_ok-push.ensures in
    let high = c.in_ok-push-2.ensures in
    let less : 16 - length c.push-in-loop-rest.new.self < 16 - length c.loop-rest.boxes = omega (
      arith,
      low.0,
      one_more _ _ _ low.1,
      one_more _ _ _ high.1,
    ) in
    less

pub loop-rest-preserved : goal.loop-rest-preserved
loop-rest-preserved c =
    let l = c.loop-rest in
    let low = c.in_ok-push.ensures in
    let high = c.in_ok-push-2.ensures in
    turn _ _ _ l.invariant (left-some _ c.loop-rest-test.ensures) _ _ _ _ _ _ _ low.0 (sym c.in_ok-low.ensures)
    (to_z-of_z {w = w64} (search rules) ∙ c.value.ensures) (to_z-of_z {w = w64} (search rules) ∙ c.value-in-loop-rest.ensures) low.1 high.1

pub returns : goal.returns
returns c = leave-done _ _ _ c.loop-rest.invariant (left-none _ c.loop-rest-test.ensures)
