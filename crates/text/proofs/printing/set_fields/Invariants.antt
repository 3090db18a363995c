use mathlib.Core.Path.{◌≡◌}
use Rattle.writer.specs.Lent.{put_text}
use Rattle.text.specs.Output.{member_fields}
use Rattle.text.proofs.printing.set_fields.Given as goal

abbrev pub invariant-loop-a : goal.invariant-loop-a
invariant-loop-a l = l.out ≡ put_text l.initial.out (member_fields l.a l.set)
