use borrow.Author.Rules.{rules}
use mathlib.Core.Path.{sym, ap, ◌∙◌}
use mathlib.Core.List.{List}
use Prim.Native.Nat.{◌+◌, ◌*◌}
use lib.IntN.{ℤ}
use Rattle.bounds.specs.Table.{put_pair}
use lib.ListN.{length}
use Rattle.bounds.proofs.Pairs.{put-long}
use Rattle.bounds.proofs.Working.{placed}
use Rattle.bounds.proofs.table.Table.put_head.Goals as goal

pub returns : goal.returns
returns c =
    let args = c.args in
    let long = sym (put-long args.self.now.numbers _ args.h.value) ∙ sym (ap length c.put.ensures) ∙ c.put.array_long.0 in
    placed args.self.now args.k args.h _ long c.put.array_long.1 c.requires.k_bound
    (c.put-2.ensures ∙ ap (λ (u : List ℤ). put_pair u (20 * args.k + 2) args.h.spectrum) c.put.ensures)
    (search rules)
