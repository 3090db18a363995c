-- `bisection::hull::limits` meets its contract. Assumes nothing.
use mathlib.Core.Path.{◌≡◌, ◌∙◌}
use native.Mathlib.Omega.{arith}
use lib.ListN.{length-set}
use Rattle.range.specs.Arithmetic.{ends_hull}
use Rattle.range.specs.Sums.{at}
use Rattle.rules.specs.Table.{eight}
use Rattle.bounds.proofs.Members.{is-eight}
use Rattle.bisection.specs.Cut.{hull_limits}
use Rattle.bisection.proofs.Hulls.{one_more}
use Rattle.bisection.proofs.hull.limits.Goals as goal

pub loop-a-preserved : goal.loop-a-preserved
loop-a-preserved c =
    let at = c.loop-a in (
      length-set at.gradient at.a _ ∙ at.invariant.0,
      one_more _ at.gradient (omega (arith, at.invariant.0)) at.invariant.1 c.ends_hull.ensures,
    )

pub returns : goal.returns
unfolding hull_limits
returns c =
    let l = c.args.l in
    let m = c.args.m in
    let slopes : c.loop-a.gradient ≡ eight (λ a. ends_hull (at l.gradient a) (at m.gradient a)) =
    is-eight c.loop-a.gradient _ c.loop-a.invariant.0 (λ k h. c.loop-a.invariant.1 k (omega arith)) in
    cc
