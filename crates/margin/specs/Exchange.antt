-- 02, request 11: "Swapping the two references of any `add` or `mul` changes no field of any result, and no number or place of a refusal", of the nearest edge.
-- Proved in proofs/Exchange.antt.
use Rattle.std.specs.Prelude.{◌≡◌, List, ℤ}
use Rattle.engine.specs.declared.Engine.{Engine}
use Rattle.engine.specs.Exchange.{ExchangedEngine}
use Rattle.margin.specs.Edge.{edge_for}

-- the whole answer, 22 among the refusals
abbrev pub ExchangeEdge : Type 0
ExchangeEdge = (e f : Engine) (xs : List ℤ) (ceiling : ℤ) → ExchangedEngine e f → edge_for e xs ceiling ≡ edge_for f xs ceiling
