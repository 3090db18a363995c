use mathlib.Core.Path.{◌≡◌}
use Rattle.engine.specs.Engine as engine
use Rattle.text.proofs.rated.Given as goal

abbrev pub invariant-loop : goal.invariant-loop
invariant-loop l = engine.in_full l.rating ≡ engine.rated_of l.engine l.boxes
