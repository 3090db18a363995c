-- 02, request 11: "Swapping the two references of any `add` or `mul` changes no field of any result, and no number or place of a refusal", of a class cut
-- finer. Proved in proofs/Exchange.antt.
use Rattle.std.specs.Prelude.{◌≡◌, List, ℤ}
use Rattle.engine.specs.declared.Engine.{Engine}
use Rattle.engine.specs.Exchange.{ExchangedEngine}
use Rattle.bisection.specs.Cut.{cut_of}

-- the whole answer, at every depth: the refusal is the same, 16 among them
abbrev pub ExchangeCut : Type 0
ExchangeCut = (e f : Engine) (xs : List ℤ) (d : ℤ) → ExchangedEngine e f → cut_of e xs d ≡ cut_of f xs d
