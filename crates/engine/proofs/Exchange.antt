-- Swapped references change no answer of the engine's calls: `exchange-calls`. Assumes nothing.
use mathlib.Core.Path.{refl, ap}
use Rattle.codelist.specs.declared.Codelist.{Codelist}
use Rattle.codelist.specs.InFull as loading
use Rattle.codelist.specs.Load as Load
use Rattle.codelist.specs.Exchange.{Exchanged}
use Rattle.codelist.proofs.Exchange.{exchange-load}
use Rattle.rules.proofs.Exchange.{exchange-rate}
use Rattle.engine.specs.declared.Engine.{Engine}
use Rattle.engine.specs.Engine.{loaded, loaded_of, as_rating, rated_of}
use Rattle.engine.specs.Exchange.{ExchangedEngine, LoadingAlike, ExchangeCalls}

-- one outcome, and what it leaves
left-alike : (e f : Engine) (c d : Codelist) (o : loading.Outcome) → ExchangedEngine e f → Exchanged c d
    → LoadingAlike (loaded e o c) (loaded f o d)
left-alike e f c d loading.Accepted h k = record { outcome = refl; engine = k }
left-alike e f c d (loading.Refused r) h k = record { outcome = refl; engine = h }

pub exchange-calls : ExchangeCalls
unfolding loaded_of rated_of
exchange-calls = record {
  load = λ e f s t h k.
      let l = exchange-load s t k in
      rw l.outcome (left-alike e f _ _ (Load.load_of t).outcome h l.codelist);
  rate = λ e f xs h. ap as_rating (exchange-rate e.codelist f.codelist xs h);
}
