-- The answer as the paper has it: after a refusal every figure is 0. The code's own is a result (`Fleet.in_full`).
use Rattle.boats.specs.declared.Report.{Report}
use Rattle.boats.specs.declared.Refusal.{Refusal}

pub data Outcome : Type 0 where
  Reported : Outcome
  Refused : (refusal : Refusal) → Outcome

pub record Counted : Type 0 where
  pub outcome : Outcome
  pub report : Report
