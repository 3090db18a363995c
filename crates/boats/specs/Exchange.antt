-- 02, request 11: "Swapping the two references of any `add` or `mul` changes no field of any result, and no number or place of a refusal", of the fleet
-- page. Proved in proofs/Exchange.antt.
use Rattle.std.specs.Prelude.{◌≡◌, List, ℤ}
use Rattle.engine.specs.declared.Engine.{Engine}
use Rattle.engine.specs.Exchange.{ExchangedEngine}
use Rattle.boats.specs.Fleet.{fleet_of, fleet_of_numbers}

-- the whole page, or the refusal, 14 among them
pub record ExchangeFleet : Type 0 where
  pub of-records : (e f : Engine) (bs : List (List ℤ)) → ExchangedEngine e f → fleet_of e bs ≡ fleet_of f bs
  pub of-numbers : (e f : Engine) (xs : List ℤ) → ExchangedEngine e f → fleet_of_numbers e xs ≡ fleet_of_numbers f xs
