-- Swapped references change no answer for two boats: `exchange-sisters`. It is made of the class's rating. Assumes nothing.
use Rattle.engine.proofs.Exchange.{exchange-calls}
use Rattle.increments.specs.Call.{sisters_of}
use Rattle.increments.specs.Exchange.{ExchangeSisters}

pub exchange-sisters : ExchangeSisters
unfolding sisters_of
exchange-sisters e f xs bs h = rw (exchange-calls.rate e f xs h, h.factors)
