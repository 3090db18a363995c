-- 02, request 11, "Laws for the committee": "Two habits of ours should rest on something." Each field is stated in the crate whose calls it speaks of, and
-- gathered here beside the paper's words. "Both hold for either year": no field asks anything of a codelist's year. Proved in proofs/Laws.antt: `laws`.
use Rattle.codelist.specs.Exchange.{ExchangeLoad}
use Rattle.rules.specs.Exchange.{ExchangeRate}
use Rattle.rules.specs.Isotone.{IsotoneRating}
use Rattle.engine.specs.Exchange.{ExchangeCalls}
use Rattle.engine.specs.Isotone.{IsotoneCall}
use Rattle.liveness.specs.Exchange.{ExchangeTidy}
use Rattle.boats.specs.Exchange.{ExchangeFleet}
use Rattle.bisection.specs.Exchange.{ExchangeCut}
use Rattle.bisection.specs.Deeper.{DeeperCut, CutInsidePlain}
use Rattle.increments.specs.Exchange.{ExchangeSisters}
use Rattle.classes.specs.Exchange.{ExchangeClassCalls}
use Rattle.motmotdivan.specs.Exchange.{ExchangeClasses}
use Rattle.text.specs.Exchange as rate
use Rattle.fleet_text.specs.Exchange as fleet
use Rattle.cut_text.specs.Exchange as cut
use Rattle.sisters_text.specs.Exchange as sisters

pub record CommitteeLaws : Type 0 where
  -- ════ "Swapping the two references of any `add` or `mul` changes no field of any result, and no number or place of a refusal." ════
  -- of rating: codelists that differ in swapped references alone give the same answer on all numbers
  pub exchange-rate : ExchangeRate
  -- of loading: texts that do are accepted or refused alike, with the same number and place, and leave such codelists
  pub exchange-load : ExchangeLoad
  -- of the engine's two calls, one after another
  pub exchange-calls : ExchangeCalls
  -- of tidying (request 1): the same length or the same refusal, 13 among them, and texts that differ in swapped references alone
  pub exchange-tidy : ExchangeTidy
  -- of the fleet page (request 3), 14 among the refusals
  pub exchange-fleet : ExchangeFleet
  -- of classes cut finer (request 6), at every depth, 16 among the refusals
  pub exchange-cut : ExchangeCut
  -- of the sister boats (request 7)
  pub exchange-sisters : ExchangeSisters
  -- of all these by class number (request 13)
  pub exchange-class-calls : ExchangeClassCalls
  -- of the C functions (requests 10 and 13), by class number: the same codes, and the same bytes of a result
  pub exchange-c : ExchangeClasses
  -- of what the programs print (that of `tidy` is part of `exchange-tidy`)
  pub exchange-rate-printed : rate.ExchangePrinted
  pub exchange-fleet-printed : fleet.ExchangePrinted
  pub exchange-cut-printed : cut.ExchangePrinted
  pub exchange-sisters-printed : sisters.ExchangePrinted
  -- ════ "In plain rating, uncut, ranges inside accepted ranges, no low end above its high end, are accepted too, and each end they give lies inside the
  -- wider one" ════
  -- of rating
  pub isotone : IsotoneRating
  -- of the engine's call
  pub isotone-call : IsotoneCall
  -- ════ "so a deeper cut of the same ranges never widens a limit" ════
  -- of two depths of one class, the shallower accepted
  pub deeper : DeeperCut
  -- of any depth beside plain rating
  pub cut-inside-plain : CutInsidePlain
