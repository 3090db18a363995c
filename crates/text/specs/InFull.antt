-- What the code gives, as this specification speaks of it.
use Rattle.std.specs.Prelude.{List, ℕ, Result, Ok, Err}
use Rattle.rules.specs.declared.Limits.{Limits}
use Rattle.engine.specs.declared.Refusal.{Refusal}
use Rattle.writer.specs.Lent.{Lent}
use Rattle.text.specs.Output.{limits_text, refusal_text}

-- A text: the first `len` bytes; every further one is 0.
pub record Text : Type 0 where
  pub bytes : List ℕ
  pub len : ℕ

-- a writer's text, byte for byte
abbrev pub in_full : Lent → Text
in_full o = record { bytes = o.bytes; len = o.at }

-- what is printed of a factor count and limits, or of a refusal
abbrev pub text_of : Result (ℕ × Limits) Refusal → List ℕ
text_of (Ok p) = limits_text p.0 p.1
text_of (Err r) = refusal_text r
