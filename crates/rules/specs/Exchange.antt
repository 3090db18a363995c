-- 02, request 11: "Swapping the two references of any `add` or `mul` changes no field of any result, and no number or place of a refusal", of rating.
-- Proved in proofs/Exchange.antt.
use Rattle.std.specs.Prelude.{◌≡◌, List, ℤ}
use Rattle.codelist.specs.declared.Codelist.{Codelist}
use Rattle.codelist.specs.Exchange.{Exchanged}
use Rattle.rules.specs.Rate.{rate_of}

-- The whole answer: every field of the result, and the refusal, 10 among them. "Both hold for either year": nothing is asked of c and d besides, so that
-- codelists which no load has left are among them.
abbrev pub ExchangeRate : Type 0
ExchangeRate = (c d : Codelist) (xs : List ℤ) → Exchanged c d → rate_of c xs ≡ rate_of d xs
