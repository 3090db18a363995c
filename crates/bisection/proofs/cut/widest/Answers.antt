-- `bisection::cut::widest` meets its contract: what is left to search is what was to be searched. Assumes nothing.
use mathlib.Core.Path.{sym, ◌∙◌}
use Prim.Native.Nat.{◌<◌}
use native.Mathlib.Omega.{arith}
use lib.ListN.{length}
use Rattle.bisection.specs.Box.{box_of}
use Rattle.bisection.proofs.Boxes.{widest-start, widest-end, widest-wider, widest-kept, box-length, box-valid, box-width}
use Rattle.bisection.proofs.cut.widest.Goals as goal
use Rattle.bisection.proofs.cut.widest.Goals.{then-most-w, else-most-w}

pub width-most-requires : goal.width-most-requires
width-most-requires c =
    let b = c.requires in box-valid b {a = 0} (omega (arith, b.some)) c.range_at.ensures

pub loop-a-init : goal.loop-a-init
loop-a-init c =
    let b = c.requires in
    let w = box-width b {a = 0} (omega (arith, b.some)) c.range_at.ensures c.width-most.ensures in
    rw w (widest-start _ (omega (arith, box-length b.size, b.some)))

pub width-w-requires : goal.width-w-requires
width-w-requires c = box-valid c.requires c.loop-a-test.true c.range_at-in-loop-a.ensures

pub loop-a-preserved : goal.loop-a-preserved
loop-a-preserved c =
    let at = c.loop-a in
    let b = c.requires in
    let w = box-width b c.loop-a-test.true c.range_at-in-loop-a.ensures c.width-w.ensures in
    let h : at.a < length (box_of c.args.n c.args.ends.now) = omega (arith, box-length b.size, c.loop-a-test.true) in
    elim c.if-most-w.branch [
      | then-most-w v ↦ rw (v.best-is, v.most-is, w) (widest-wider _ _ _ _ h (rw w at v.if-most-w.true) ∙ at.invariant)
      | else-most-w v ↦ rw (v.best-is, v.most-is) (widest-kept _ _ _ _ h (rw w at v.if-most-w.false) ∙ at.invariant)
    ]

pub returns : goal.returns
returns c =
    let at = c.loop-a in
    sym (widest-end _ at.a at.best _ (omega (arith, box-length c.requires.size, c.loop-a-test.false))) ∙ at.invariant
