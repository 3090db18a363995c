-- The answers of the engine's calls in full, a refusal's fields too: "After a refusal every result field is 0 and the desk holds what it held."
use Rattle.rules.specs.declared.Limits.{Limits}
use Rattle.engine.specs.declared.Engine.{Engine}
use Rattle.engine.specs.declared.Refusal.{Refusal}

pub data Outcome : Type 0 where
  Accepted : Outcome
  Refused : Refusal → Outcome

-- of loading: the outcome, and the engine after it
pub record Loading : Type 0 where
  pub outcome : Outcome
  pub engine : Engine

-- of rating
pub record Rating : Type 0 where
  pub outcome : Outcome
  pub limits : Limits
