-- `margin::widen::wider` meets its contract: what is copied is what was to be copied, and then one end is set anew. Assumes nothing.
use borrow.Author.Rules.{rules}
use Prim.Native.Nat.{◌<◌}
use Rattle.margin.proofs.Widened.{wider-made}
use Rattle.margin.proofs.widen.wider.Goals as goal

pub returns : goal.returns
returns c =
    let small : c.args.w < 256 = search rules in
    wider-made c.requires small _ c.copy_from_slice.ensures.after c.from-2.ensures c.from.ensures
