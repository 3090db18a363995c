-- Ratings in full: the answer beside the limits, each of whose fields is 0 where it is a refusal. 01, "What the engine takes and gives".
use Rattle.rules.specs.declared.Limits.{Limits}
use Rattle.rules.specs.declared.Refusal.{Refusal}

pub data Outcome : Type 0 where
  Rated : Outcome
  Refused : Refusal → Outcome

pub record Rating : Type 0 where
  pub outcome : Outcome
  pub limits : Limits
