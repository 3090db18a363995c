use Rattle.std.proofs.Common.{◌≡◌, ℕ, ◌<◌, length, get_or}
use lib.Ieee.{nan}
use Rattle.motmotdivan.specs.Record.{number_at}
use Rattle.motmotdivan.specs.Views.{Cell}
use Rattle.motmotdivan.proofs.record.record_of.Given as goal

abbrev pub invariant-loop-k : goal.invariant-loop-k
invariant-loop-k l = (length l.record.cells ≡ 16) × ((j : ℕ) → j < l.k → Cell (number_at l.s j) (get_or l.record.cells j nan))
