-- `increments::total::difference` meets its contract: the laws of the sums (`Totals`) at each turn. Assumes nothing.
use mathlib.Core.Path.{◌≡◌, ap, ap₂, ◌∙◌}
use native.Mathlib.Omega.{arith}
use lib.IntN.{ℤ}
use mir.Syntax.{w64}
use mir.Val.{to_z, of_z}
use Rattle.range.specs.Sums.{at}
use Rattle.std.specs.Prelude.{Ok}
use Rattle.range.specs.declared.Range.{Range}
use Rattle.range.specs.Limit.{from_to}
use Rattle.increments.specs.Call.{apart_by, in_full}
use Rattle.increments.specs.Steps.{least_end, greatest_end, with_product}
use Rattle.increments.proofs.Totals.{summed-start, summed-room, summed-next, least-total, greatest-total, near, apart-read, low-read, high-read}
use Rattle.increments.proofs.Totals.{least-within, greatest-within, down-read, up-read}
use Rattle.increments.proofs.total.difference.Goals as goal

pub loop-a-init : goal.loop-a-init
loop-a-init c = (summed-start _ _ _ _, summed-start _ _ _ _)

pub plus-least-requires-clause-e_bound : goal.plus-least-requires-clause-e_bound
plus-least-requires-clause-e_bound c =
    let p = c.requires in
    let l = c.loop-a-test.true in
    rw (low-read _ _ _ p _ l (apart-read _ _ _ p _ l) c.ends_by-ends.ensures) (least-within (at c.args.slopes c.loop-a.a) (apart_by c.args.n c.args.boats.now c.loop-a.a) (p.slopes _ l))

pub plus-greatest-requires-clause-e_bound : goal.plus-greatest-requires-clause-e_bound
plus-greatest-requires-clause-e_bound c =
    let p = c.requires in
    let l = c.loop-a-test.true in
    rw (high-read _ _ _ p _ l (apart-read _ _ _ p _ l) c.ends_by-ends.ensures) (greatest-within (at c.args.slopes c.loop-a.a) (apart_by c.args.n c.args.boats.now c.loop-a.a) (p.slopes _ l))

pub plus-greatest-requires-clause-d_bound : goal.plus-greatest-requires-clause-d_bound
plus-greatest-requires-clause-d_bound c =
    let p = c.requires in
    let l = c.loop-a-test.true in
    rw (apart-read _ _ _ p _ l) (near _ _ _ p _ l)

pub loop-a-preserved : goal.loop-a-preserved
loop-a-preserved c =
    let p = c.requires in
    let l = c.loop-a-test.true in
    let i = c.loop-a.invariant in
    let g = at c.args.slopes c.loop-a.a in
    let d = apart_by c.args.n c.args.boats.now c.loop-a.a in
    let d-read = apart-read _ _ _ p _ l in
    let least : c.plus-least.result ≡ with_product c.loop-a.least (least_end g d) d =
    c.plus-least.ensures ∙ ap₂ (with_product c.loop-a.least) (low-read _ _ _ p _ l d-read c.ends_by-ends.ensures) d-read in
    let greatest : c.plus-greatest.result ≡ with_product c.loop-a.greatest (greatest_end g d) d =
    c.plus-greatest.ensures ∙ ap₂ (with_product c.loop-a.greatest) (high-read _ _ _ p _ l d-read c.ends_by-ends.ensures) d-read in
    let n = near _ _ _ p _ l in (
      rw least (summed-next _ _ _ least_end _ _ i.0 (least-within g d (p.slopes _ l)) n),
      rw greatest (summed-next _ _ _ greatest_end _ _ i.1 (greatest-within g d (p.slopes _ l)) n),
    )

pub returns : goal.returns
returns c =
    let p = c.requires in
    let all : c.loop-a.a ≡ c.args.n = omega arith in
    let i = c.loop-a.invariant in
    let least = summed-room _ _ _ _ _ _ i.0 (omega (arith, all, p.few)) in
    let greatest = summed-room _ _ _ _ _ _ i.1 (omega (arith, all, p.few)) in
    let low = down-read c.loop-a.least least.whole (omega (arith, least.rest)) ∙ least-total _ _ _ p.slopes _ (rw all at i.0) in
    let high = up-read _ greatest ∙ greatest-total _ _ _ p.slopes _ (rw all at i.1) in
    ap (λ (r : Range). in_full (Ok r)) (c.new.ensures ∙ ap₂ from_to (ap (λ (z : ℤ). to_z w64 (of_z w64 z)) c.rounded_down.ensures ∙ low) (ap (λ (z : ℤ). to_z w64 (of_z w64 z)) c.rounded_up.ensures ∙ high))
