-- `load` meets its contract: what is stored is well formed, since it was accepted.
use mathlib.Core.Path.{sym, ap, subst}
use Rattle.codelist.specs.InFull.{Loaded}
use Rattle.codelist.specs.Codelist.{WellFormed}
use Rattle.codelist.proofs.Accepted.{accepted-well-formed}
use Rattle.encoding.proofs.load.Goals as goal

pub store-requires-clause-well_formed : goal.store-requires-clause-well_formed
store-requires-clause-well_formed c =
    let e = c.in_ok-codelist.ensures in
    subst (λ (x : Loaded). WellFormed x.codelist) (sym e) (accepted-well-formed c.args.text.now (ap (λ (x : Loaded). x.outcome) (sym e)))
