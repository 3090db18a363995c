use mathlib.Core.Path.{◌≡◌}
use Rattle.writer.specs.Lent.{lent, put_text}
use Rattle.text.specs.Output.{member_fields}
use Rattle.text.proofs.lent.set_fields.Given as goal

abbrev pub invariant-loop-a : goal.invariant-loop-a
invariant-loop-a l = lent l.bytes l.to ≡ put_text (lent l.initial.bytes l.at) (member_fields l.a l.set)
