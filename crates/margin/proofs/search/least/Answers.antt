-- `margin::search::least` meets its contract: nothing up to `still` moves, and `moved` does. Assumes nothing.
use borrow.Author.Rules.{rules}
use mathlib.Core.Path.{◌≡◌, sym, ◌∙◌}
use Prim.Native.Nat.{◌+◌, ◌/◌, ◌≤◌, ◌<◌}
use native.Mathlib.Omega.{arith}
use mir.Syntax.{w64}
use mir.Val.{to_z, of_z}
use Rattle.margin.proofs.Best.{still-fails, halved}
use Rattle.margin.proofs.Moving.{moves-rising}
use Rattle.margin.proofs.search.least.Goals as goal

pub loop-still-init : goal.loop-still-init
loop-still-init c =
    let ceiling-read : to_z w64 (of_z w64 c.args.ceiling) ≡ c.args.ceiling = search rules in
    (omega (arith, c.requires.le_most), omega arith, rw ceiling-read c.requires.most_value, λ u s m. absurd (omega arith))

pub overflow_add-still : goal.overflow_add-still
overflow_add-still c =
    let few : c.loop-still.moved ≤ 100 = omega (arith, c.loop-still.invariant.1, c.requires.most_le_most_units) in
    omega (arith, few, c.loop-still.invariant.0)

pub overflow_add-middle : goal.overflow_add-middle
overflow_add-middle c =
    let few : c.loop-still.moved ≤ 100 = omega (arith, c.loop-still.invariant.1, c.requires.most_le_most_units) in
    omega (arith, few, c.loop-still.invariant.0)

pub moves-requires : goal.moves-requires
moves-requires c = record { rateable = c.requires.rateable; factor = c.requires.factor }

pub loop-still-smaller-then-moves : goal.loop-still-smaller-then-moves
loop-still-smaller-then-moves c =
    let between : (c.loop-still.still < (c.loop-still.still + c.loop-still.moved) / 2) × ((c.loop-still.still + c.loop-still.moved) / 2 < c.loop-still.moved) = halved c.loop-still.still c.loop-still.moved c.loop-still-test.true in
    let b = between in omega (arith, b.0, b.1)

pub loop-still-preserved-then-moves : goal.loop-still-preserved-then-moves
loop-still-preserved-then-moves c =
    let between : (c.loop-still.still < (c.loop-still.still + c.loop-still.moved) / 2) × ((c.loop-still.still + c.loop-still.moved) / 2 < c.loop-still.moved) = halved c.loop-still.still c.loop-still.moved c.loop-still-test.true in
    let b = between in
    let i = c.loop-still.invariant in
    (b.0, omega (arith, b.1, i.1), sym c.moves.ensures ∙ c.if-moves.true, i.3)

pub loop-still-smaller : goal.loop-still-smaller
loop-still-smaller c =
    let between : (c.loop-still.still < (c.loop-still.still + c.loop-still.moved) / 2) × ((c.loop-still.still + c.loop-still.moved) / 2 < c.loop-still.moved) = halved c.loop-still.still c.loop-still.moved c.loop-still-test.true in
    let b = between in omega (arith, b.0, b.1)

pub loop-still-preserved : goal.loop-still-preserved
loop-still-preserved c =
    let between : (c.loop-still.still < (c.loop-still.still + c.loop-still.moved) / 2) × ((c.loop-still.still + c.loop-still.moved) / 2 < c.loop-still.moved) = halved c.loop-still.still c.loop-still.moved c.loop-still-test.true in
    let b = between in
    let i = c.loop-still.invariant in
    let f = sym c.moves.ensures ∙ c.if-moves.false in
    (b.1, i.1, i.2, λ u s m. still-fails (moves-rising c.requires.rateable _ c.requires.factor) m f)

pub returns : goal.returns
returns c =
    let ceiling-read : to_z w64 (of_z w64 c.args.ceiling) ≡ c.args.ceiling = search rules in
    let at = c.loop-still in
    let read = ceiling-read in
    let i = rw read at at.invariant in
    record { least = record { some = omega (arith, at.invariant.0); passes = i.2; fewer = λ u s m. i.3 u s (omega (arith, c.loop-still-test.false)) }; upper_bound = i.1 }
