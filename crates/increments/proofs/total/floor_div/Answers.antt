-- `increments::total::floor_div` meets its contract. Assumes nothing.
use lib.Dec.{lit<}
use mir.Syntax.{w64}
use mir.ValLaws.{to_z-of_z}
use Rattle.increments.proofs.Shifting.{dividend-read, raised-fits, raised-read, divided-fits, divided-read, floor-is, floor-fits}
use Rattle.increments.proofs.total.floor_div.Goals as goal

pub overflow_add-result : goal.overflow_add-result
overflow_add-result c =
    let x = c.args.x in let h = c.requires in simp (dividend-read x h) (raised-fits x h)

pub nonzero_div-result : goal.nonzero_div-result
nonzero_div-result c =
    let x = c.args.x in
    let h = c.requires in
    (lit< tt, simp (dividend-read x h, raised-read x h) (divided-fits x h))

pub overflow_sub-result : goal.overflow_sub-result
overflow_sub-result c =
    let x = c.args.x in
    let h = c.requires in
    simp (dividend-read x h, raised-read x h, divided-read x h, floor-is x h) (floor-fits x h)

pub returns : goal.returns
returns c =
    let x = c.args.x in
    let h = c.requires in
    simp (dividend-read x h, raised-read x h, divided-read x h, floor-is x h) (to_z-of_z w64 _ (floor-fits x h))
