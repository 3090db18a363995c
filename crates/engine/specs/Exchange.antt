-- 02, request 11: "Swapping the two references of any `add` or `mul` changes no field of any result, and no number or place of a refusal", of the
-- engine's calls. Proved in proofs/Exchange.antt.
use Rattle.std.specs.Prelude.{◌≡◌, List, ℕ, ℤ}
use Rattle.codelist.specs.Exchange.{Exchanged, ExchangedText}
use Rattle.engine.specs.declared.Engine.{Engine}
use Rattle.engine.specs.InFull.{Loading}
use Rattle.engine.specs.Engine.{loaded_of, rated_of}

-- engines whose codelists differ in swapped references alone: two that are empty, too
abbrev pub ExchangedEngine : Engine → Engine → Type 0
ExchangedEngine e f = Exchanged e.codelist f.codelist

-- the same outcome, and such engines again
pub record LoadingAlike (x y : Loading) : Type 0 where
  pub outcome : x.outcome ≡ y.outcome
  pub engine : ExchangedEngine x.engine y.engine

pub record ExchangeCalls : Type 0 where
  pub load : (e f : Engine) (s t : List ℕ) → ExchangedEngine e f → ExchangedText s t → LoadingAlike (loaded_of e s) (loaded_of f t)
  pub rate : (e f : Engine) (xs : List ℤ) → ExchangedEngine e f → rated_of e xs ≡ rated_of f xs
