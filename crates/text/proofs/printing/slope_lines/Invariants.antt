use mathlib.Core.Path.{◌≡◌}
use Rattle.writer.specs.Lent.{put_text}
use Rattle.text.specs.Output.{slope_lines}
use Rattle.text.proofs.printing.slope_lines.Given as goal

abbrev pub invariant-loop-a : goal.invariant-loop-a
invariant-loop-a l = l.out ≡ put_text l.initial.out (slope_lines l.a l.gradient)
