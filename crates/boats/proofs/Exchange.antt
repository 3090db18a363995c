-- Swapped references change no figure of the fleet page: `exchange-fleet`. The figures are those of the boats' ratings. Assumes nothing.
use mathlib.Core.Path.{◌≡◌, ap, ◌∙◌}
use mathlib.Core.List.{List, map}
use lib.IntN.{ℤ}
use Rattle.rules.proofs.Exchange.{ratable-exchanged}
use Rattle.engine.specs.declared.Engine.{Engine}
use Rattle.engine.specs.Engine.{rated_of}
use Rattle.engine.specs.Exchange.{ExchangedEngine}
use Rattle.engine.proofs.Exchange.{exchange-calls}
use Rattle.boats.specs.Boats.{records, point, boat_rating}
use Rattle.boats.specs.Report.{figures_of, report_of}
use Rattle.boats.specs.Fleet.{fleet_of, fleet_of_numbers}
use Rattle.boats.specs.Exchange.{ExchangeFleet}

module _ (e f : Engine) (h : ExchangedEngine e f) where
  boat-exchanged : (b : List ℤ) → boat_rating e b ≡ boat_rating f b
  unfolding boat_rating
  boat-exchanged b = exchange-calls.rate e f (point e.codelist.factors b) h ∙ ap (λ n. rated_of f (point n b)) h.factors

  report-exchanged : (bs : List (List ℤ)) → report_of e bs ≡ report_of f bs
  report-exchanged bs = λ i. figures_of (map (λ b. boat-exchanged b i) bs)

pub exchange-fleet : ExchangeFleet
unfolding fleet_of fleet_of_numbers
exchange-fleet = record {
  of-records = λ e f bs h. rw (ratable-exchanged h, report-exchanged e f h bs);
  of-numbers = λ e f xs h. rw (ratable-exchanged h, report-exchanged e f h (records xs));
}
