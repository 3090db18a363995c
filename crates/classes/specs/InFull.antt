-- The answers of the calls by class number in full, a refusal's fields too: "A refusal carries number and place, every other field is 0"
use Rattle.std.specs.Prelude.{ℤ}
use Rattle.rules.specs.declared.Limits.{Limits}
use Rattle.boats.specs.declared.Report.{Report}
use Rattle.classes.specs.declared.Classes.{Classes}
use Rattle.classes.specs.declared.Refusal.{Refusal}

pub data Outcome : Type 0 where
  Accepted : Outcome
  Refused : Refusal → Outcome

-- of loading: the outcome, and the classes after it
pub record ClassLoading : Type 0 where
  pub outcome : Outcome
  pub classes : Classes

-- of rating, cut or not
pub record ClassRating : Type 0 where
  pub outcome : Outcome
  pub limits : Limits

-- of a fleet page
pub record ClassFleet : Type 0 where
  pub outcome : Outcome
  pub report : Report

-- of two boats: the ends between which their premiums differ
pub record ClassDifference : Type 0 where
  pub outcome : Outcome
  pub low : ℤ
  pub high : ℤ
