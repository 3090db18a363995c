-- `word` meets its contract: what is left to put is what was to be put at the start. Assumes nothing.
use Prim.Native.Nat.{◌+◌}
use mathlib.Core.Path.{ap, ◌∙◌}
use lib.ListN.{drop, drop_of_length-le}
use Rattle.writer.specs.Lent.{Lent, lent, put_text}
use Rattle.writer.proofs.Writing.{put_text-next}
use Rattle.writer.proofs.word.Goals as goal

pub loop-b-preserved : goal.loop-b-preserved
loop-b-preserved c =
    let w = c.args.w.now in
    let i = c.loop-b.b-index in
    ap (λ (o : Lent). put_text o (drop (i + 1) w)) c.byte-to.ensures
    ∙ put_text-next (lent c.loop-b.buffer c.loop-b.to) w i c.loop-b-test.true ∙ c.loop-b.invariant

pub returns : goal.returns
unfolding put_text
returns c = rw (drop_of_length-le c.args.w.now c.loop-b-test.false) at c.loop-b.invariant
