-- The answer as the paper has it: after a refusal both ends are 0. The code's own is a result (`Call.in_full`).
use Rattle.std.specs.Prelude.{ℤ}
use Rattle.engine.specs.InFull.{Outcome}

pub record Difference : Type 0 where
  pub outcome : Outcome
  pub low : ℤ
  pub high : ℤ
