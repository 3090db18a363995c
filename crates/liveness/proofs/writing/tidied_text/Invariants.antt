use Rattle.std.specs.Prelude.{◌≡◌, replicate}
use Rattle.codelist.specs.Write.{text_of}
use Rattle.writer.specs.Lent.{lent, put_text}
use Rattle.liveness.specs.Tidied.{tidied}
use Rattle.liveness.proofs.Written.{left}
use Rattle.liveness.proofs.writing.tidied_text.Given as goal

abbrev pub invariant-loop-k : goal.invariant-loop-k
invariant-loop-k l = put_text l.text (left l.c l.k) ≡ put_text (lent (replicate 1266 0) 0) (text_of (tidied l.c))
