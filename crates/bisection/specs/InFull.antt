-- The answer as the paper has it: after a refusal every field of the limits is 0. The code's own is a result (`Cut.in_full`).
use Rattle.rules.specs.declared.Limits.{Limits}
use Rattle.bisection.specs.declared.Refusal.{Refusal}

pub data Outcome : Type 0 where
  Accepted : Outcome
  Refused : (refusal : Refusal) → Outcome

pub record Bisected : Type 0 where
  pub outcome : Outcome
  pub limits : Limits
