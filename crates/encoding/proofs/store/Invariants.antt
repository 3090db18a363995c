use mathlib.Core.Path.{◌≡◌}
use Rattle.encoding.specs.Encode.{year_byte}
use Rattle.encoding.proofs.Storing.{stored}
use Rattle.encoding.proofs.store.Given as goal

abbrev pub invariant-loop-k : goal.invariant-loop-k
invariant-loop-k l = l.state ≡ stored l.c.factors l.c.count (year_byte l.c.year) l.c.ops l.k
