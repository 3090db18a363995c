-- 02, request 11: "Swapping the two references of any `add` or `mul` changes no field of any result, and no number or place of a refusal", of two boats of
-- one class. Proved in proofs/Exchange.antt.
use Rattle.std.specs.Prelude.{◌≡◌, List, ℤ}
use Rattle.engine.specs.declared.Engine.{Engine}
use Rattle.engine.specs.Exchange.{ExchangedEngine}
use Rattle.increments.specs.Call.{sisters_of}

abbrev pub ExchangeSisters : Type 0
ExchangeSisters = (e f : Engine) (xs bs : List ℤ) → ExchangedEngine e f → sisters_of e xs bs ≡ sisters_of f xs bs
