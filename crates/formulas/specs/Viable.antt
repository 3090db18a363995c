-- Refusal 19's place: "the first byte, from 1, that can't follow the bytes before it in any such formula of any length, one past the end if the text
-- stops early, and 1,025 for every longer text". By the grammar alone; no reader is named.
use Rattle.std.specs.Prelude.{ℕ, ◌+◌, ◌≤◌, ◌<◌, List, [], ◌∷◌, ◌++◌, ◌≡◌, length}
use Rattle.formulas.specs.Grammar.{Formula, longest}

-- The bytes u begin some formula, of any length
abbrev pub Viable : List ℕ → Type 0
Viable u = (w : List ℕ) × Formula (u ++ w)

-- THE PLACE where a text is no formula
pub data Fails (s : List ℕ) : ℕ → Type 0 where
  -- "1,025 for every longer text": also where a byte before can't follow
  longer : longest < length s → Fails s (longest + 1)
  -- "the first byte, from 1, that can't follow the bytes before it"
  at_byte : (u : List ℕ) (b : ℕ) (v : List ℕ) → length s ≤ longest → s ≡ u ++ (b ∷ v) → Viable u → (Viable (u ++ (b ∷ [])) → ⊥)
      → Fails s (length u + 1)
  -- "one past the end if the text stops early"
  stops-early : length s ≤ longest → Viable s → (Formula s → ⊥) → Fails s (length s + 1)
