-- `bounds::run::start` meets its contract: the first a lines are those of the first a factors. Assumes nothing.
use mathlib.Core.Path.{◌≡◌, ap, subst, ◌∙◌}
use native.Mathlib.Nat as N
use native.Mathlib.Omega.{arith}
use Rattle.range.specs.Limit.{is_valid}
use Rattle.rules.specs.Rate.{pairs}
use Rattle.bounds.proofs.Validity.{each_at}
use Rattle.bounds.proofs.Starting.{Begun, begun-none, begun_more, begun_all}
use Rattle.bounds.proofs.run.start.Goals as goal

pub loop-a-init : goal.loop-a-init
loop-a-init c = begun-none c.args.b (pairs c.args.xs.now) c.requires.xs_value _ _ c.requires.ready

pub factor-last-requires : goal.factor-last-requires
factor-last-requires c = record { a_bound = omega (arith, c.requires.le_n.1); blank = c.loop-a.invariant.started.ready.blank _ (N.le_refl _); r_value = ap is_valid c.range_at.ensures ∙ each_at (pairs c.args.xs.now) c.requires.xs_value c.loop-a.a }

pub loop-a-preserved : goal.loop-a-preserved
loop-a-preserved c =
    begun_more c.args.b (pairs c.args.xs.now) c.requires.xs_value c.loop-a.a _ c.loop-a.invariant (omega (arith, c.requires.xs_len)) c.range_at.ensures c.factor-last.ensures

pub returns : goal.returns
returns c =
    let at = c.loop-a in
    let end : at.a ≡ c.args.n = omega (arith, c.requires.le_n.0) in
    let h = begun_all c.args.b (pairs c.args.xs.now) c.requires.xs_value _ _ c.args.n c.requires.xs_len c.requires.le_n.0 (subst (Begun c.args.b (pairs c.args.xs.now) at.t at.last) end at.invariant) in
    record { started = h.0; value = h.1 }
