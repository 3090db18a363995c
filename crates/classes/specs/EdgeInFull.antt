-- The answer of the edge by class number in full, apart from the others for the name `Refused`.
use Rattle.std.specs.Prelude.{ℕ}
use Rattle.classes.specs.declared.Refusal.{Refusal}

-- of the edge: the factor and the units that its range is widened by, or neither
pub data ClassEdge : Type 0 where
  Widen : ℕ → ℕ → ClassEdge
  Nowhere : ClassEdge
  Refused : Refusal → ClassEdge
