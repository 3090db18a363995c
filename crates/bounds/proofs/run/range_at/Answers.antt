-- `bounds::run::range_at` meets its contract. Assumes nothing.
use borrow.Author.Rules.{rules}
use Prim.Native.Nat.{◌+◌, ◌*◌, ◌<◌}
use native.Mathlib.Omega.{arith}
use lib.ListN.{length}
use Rattle.bounds.proofs.Ranges.{pairs-within, pairs-at}
use Rattle.bounds.proofs.run.range_at.Goals as goal

pub overflow_mul-a : goal.overflow_mul-a
overflow_mul-a c =
    let inside : 2 * c.args.a + 1 < length c.args.xs.now = pairs-within c.args.xs.now c.args.a c.requires in
    omega (arith, inside)

pub offset_bounds-xs-a : goal.offset_bounds-xs-a
offset_bounds-xs-a c =
    let inside : 2 * c.args.a + 1 < length c.args.xs.now = pairs-within c.args.xs.now c.args.a c.requires in
    omega (arith, inside)

pub bounds-xs-a : goal.bounds-xs-a
bounds-xs-a c =
    let inside : 2 * c.args.a + 1 < length c.args.xs.now = pairs-within c.args.xs.now c.args.a c.requires in
    omega (arith, inside)

pub overflow_mul-a-2 : goal.overflow_mul-a-2
overflow_mul-a-2 c =
    let inside : 2 * c.args.a + 1 < length c.args.xs.now = pairs-within c.args.xs.now c.args.a c.requires in
    omega (arith, inside)

pub overflow_add-a : goal.overflow_add-a
overflow_add-a c =
    let inside : 2 * c.args.a + 1 < length c.args.xs.now = pairs-within c.args.xs.now c.args.a c.requires in
    omega (arith, inside)

pub offset_bounds-xs-a-2 : goal.offset_bounds-xs-a-2
offset_bounds-xs-a-2 c =
    let inside : 2 * c.args.a + 1 < length c.args.xs.now = pairs-within c.args.xs.now c.args.a c.requires in
    omega (arith, inside)

pub bounds-xs-a-2 : goal.bounds-xs-a-2
bounds-xs-a-2 c =
    let inside : 2 * c.args.a + 1 < length c.args.xs.now = pairs-within c.args.xs.now c.args.a c.requires in
    inside

pub returns : goal.returns
returns c = search (rules, c.new.ensures, pairs-at)
