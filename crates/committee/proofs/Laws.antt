-- The committee's laws, gathered: `laws`. Assumes nothing.
use Rattle.codelist.proofs.Exchange.{exchange-load}
use Rattle.rules.proofs.Exchange.{exchange-rate}
use Rattle.rules.proofs.Isotone.{isotone}
use Rattle.engine.proofs.Exchange.{exchange-calls}
use Rattle.engine.proofs.Isotone.{isotone-call}
use Rattle.liveness.proofs.Exchange.{exchange-tidy}
use Rattle.boats.proofs.Exchange.{exchange-fleet}
use Rattle.bisection.proofs.Exchange.{exchange-cut}
use Rattle.bisection.proofs.Deeper.{deeper-cut, cut-inside-plain}
use Rattle.increments.proofs.Exchange.{exchange-sisters}
use Rattle.classes.proofs.Exchange.{exchange-class-calls}
use Rattle.motmotdivan.proofs.Exchange.{exchange-classes}
use Rattle.text.proofs.Exchange as rate
use Rattle.fleet_text.proofs.Exchange as fleet
use Rattle.cut_text.proofs.Exchange as cut
use Rattle.sisters_text.proofs.Exchange as sisters
use Rattle.committee.specs.Laws.{CommitteeLaws}

pub laws : CommitteeLaws
laws = record {
  exchange-rate = exchange-rate;
  exchange-load = exchange-load;
  exchange-calls = exchange-calls;
  exchange-tidy = exchange-tidy;
  exchange-fleet = exchange-fleet;
  exchange-cut = exchange-cut;
  exchange-sisters = exchange-sisters;
  exchange-class-calls = exchange-class-calls;
  exchange-c = exchange-classes;
  exchange-rate-printed = rate.exchange-printed;
  exchange-fleet-printed = fleet.exchange-printed;
  exchange-cut-printed = cut.exchange-printed;
  exchange-sisters-printed = sisters.exchange-printed;
  isotone = isotone;
  isotone-call = isotone-call;
  deeper = deeper-cut;
  cut-inside-plain = cut-inside-plain;
}
