-- The answer as the paper has it, in one data type. The code's own is a result (`Edge.in_full`).
use Rattle.std.specs.Prelude.{ℕ}
use Rattle.margin.specs.declared.Refusal.{Refusal}

-- the factor, counted from 1, and by how many units its high end is widened; no factor by 100 units or fewer; or a refusal
pub data Edge : Type 0 where
  Widen : (factor : ℕ) → (units : ℕ) → Edge
  Nowhere : Edge
  Refused : (refusal : Refusal) → Edge
