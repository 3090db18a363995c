-- What loading gives in full, where it refuses too.
use Rattle.codelist.specs.declared.Codelist.{Codelist}
use Rattle.codelist.specs.declared.Refusal.{Refusal}

-- Whether a text was accepted, or why not
pub data Outcome : Type 0 where
  Accepted : Outcome
  Refused : Refusal → Outcome

-- What loading gives. Where it refuses, the codelist is the empty one: no factors, no operations.
pub record Loaded : Type 0 where
  pub outcome : Outcome
  pub codelist : Codelist
