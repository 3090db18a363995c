-- `bisection::cut::middle` meets its contract. Assumes nothing.
use mathlib.Core.Path.{◌∙◌}
use lib.Dec.{lit<}
use mir.Syntax.{w64}
use mir.ValLaws.{to_z-of_z}
use Rattle.range.proofs.Fitting.{low_read, high_read}
use Rattle.bisection.proofs.Cutting.{sum_fits, sum-read, raised-fits, raised-read, half-fits, half-read, middle-fits, middle-is}
use Rattle.bisection.proofs.cut.middle.Goals as goal

pub overflow_add-result : goal.overflow_add-result
overflow_add-result c =
    let r = c.args.r in let v = c.requires in simp (low_read r v, high_read r v) (sum_fits r v)

pub overflow_add-result-2 : goal.overflow_add-result-2
overflow_add-result-2 c =
    let r = c.args.r in
    let v = c.requires in
    simp (low_read r v, high_read r v, sum-read r v) (raised-fits r v)

pub nonzero_div-result : goal.nonzero_div-result
nonzero_div-result c =
    let r = c.args.r in
    let v = c.requires in
    (lit< tt, simp (low_read r v, high_read r v, sum-read r v, raised-read r v) (half-fits r v))

pub overflow_sub-result : goal.overflow_sub-result
overflow_sub-result c =
    let r = c.args.r in
    let v = c.requires in
    simp (low_read r v, high_read r v, sum-read r v, raised-read r v, half-read r v) (middle-fits r v)

pub returns : goal.returns
returns c =
    let r = c.args.r in
    let v = c.requires in
    simp (low_read r v, high_read r v, sum-read r v, raised-read r v, half-read r v) (to_z-of_z w64 _ (middle-fits r v) ∙ middle-is r v)
