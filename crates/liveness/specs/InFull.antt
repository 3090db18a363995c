-- What tidying comes to, in full: so many bytes are written, or none.
use Rattle.std.specs.Prelude.{ℕ}
use Rattle.liveness.specs.declared.Refusal.{Refusal}

pub data Outcome : Type 0 where
  Written : ℕ → Outcome
  Refused : Refusal → Outcome
