-- Lent bytes, and the place where the next byte goes. A text is put there as far as there is room.
use Rattle.std.specs.Prelude.{cond, List, [], ◌∷◌, ℕ, ◌+◌, ltb, length, set}

pub record Lent : Type 0 where
  pub bytes : List ℕ
  pub at : ℕ

abbrev pub lent : List ℕ → ℕ → Lent
lent b i = record { bytes = b; at = i }

-- one byte; where the bytes end, nothing
unfoldable pub put : Lent → ℕ → Lent
put o b = cond (ltb o.at (length o.bytes)) (lent (set o.bytes o.at b) (o.at + 1)) o

-- THE BYTES OF A TEXT, and the place after them
unfoldable pub put_text : Lent → List ℕ → Lent
put_text o [] = o
put_text o (b ∷ t) = put_text (put o b) t
