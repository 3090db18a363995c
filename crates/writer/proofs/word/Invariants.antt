use mathlib.Core.Path.{◌≡◌}
use lib.ListN.{drop}
use Rattle.writer.specs.Lent.{lent, put_text}
use Rattle.writer.proofs.word.Given as goal

abbrev pub invariant-loop-b : goal.invariant-loop-b
invariant-loop-b l = put_text (lent l.buffer l.to) (drop l.b-index l.w) ≡ put_text (lent l.initial.buffer l.at) l.w
