-- Narrower ranges give a narrower rating, of the engine's call: `isotone-call`. Assumes nothing.
use mathlib.Core.Path.{sym, ap, subst}
use Rattle.rules.specs.InFull.{Rating}
use Rattle.rules.specs.Isotone.{NarrowerLimits}
use Rattle.rules.proofs.Isotone.{isotone}
use Rattle.engine.specs.Engine.{rated_of, outcome_of}
use Rattle.engine.specs.Isotone.{IsotoneCall}
use Rattle.engine.proofs.Demands.{accepted-rating}

pub isotone-call : IsotoneCall
unfolding rated_of
isotone-call e xs ys a i =
    let r = isotone e.codelist xs ys _ (accepted-rating e ys a) i in
    record {
      accepted = ap (λ (x : Rating). outcome_of x.outcome) r.1.0;
      limits = subst (λ (x : Rating). NarrowerLimits x.limits (rated_of e ys).limits) (sym r.1.0) r.1.1;
    }
