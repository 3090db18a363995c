-- `bisection::cut::width` meets its contract. Assumes nothing.
use Rattle.range.proofs.Fitting.{low_read, high_read}
use Rattle.bisection.proofs.Cutting.{width_fits, width_read}
use Rattle.bisection.proofs.cut.width.Goals as goal

pub overflow_sub-result : goal.overflow_sub-result
overflow_sub-result c =
    let r = c.args.r in let v = c.requires in rw (low_read r v, high_read r v) (width_fits r v)

pub returns : goal.returns
returns c =
    let r = c.args.r in let v = c.requires in rw (low_read r v, high_read r v) (width_read r v)
