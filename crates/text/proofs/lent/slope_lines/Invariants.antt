use mathlib.Core.Path.{◌≡◌}
use Rattle.writer.specs.Lent.{lent, put_text}
use Rattle.text.specs.Output.{slope_lines}
use Rattle.text.proofs.lent.slope_lines.Given as goal

abbrev pub invariant-loop-a : goal.invariant-loop-a
invariant-loop-a l = lent l.bytes l.to ≡ put_text (lent l.initial.bytes l.at) (slope_lines l.a l.gradient)
