-- What a text becomes, and the code's answer in full.
use Rattle.std.specs.Prelude.{ℕ}
use Rattle.std.specs.declared.result.Result.{Result}
use Rattle.std.specs.declared.result.Result.TheVariants.{Ok, Err}
use Rattle.formulas.specs.declared.Refusal.{Refusal}

-- A sheet of so many bytes (of a sheet that is too long, 4,097), or a refusal
pub data Converted : Type 0 where
  Sheet : ℕ → Converted
  Refused : Refusal → Converted

-- "A refusal carries number and place, every other field is 0" (01)
abbrev pub in_full : Result ℕ Refusal → Converted
in_full (Ok len) = Sheet len
in_full (Err r) = Refused r
