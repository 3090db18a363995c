-- `are_zero` meets its contract: the or of all bytes is zero where each of them is.
use mathlib.Core.Path.{ap, ◌∙◌}
use lib.Bits.{bit_or}
use lib.Dec.{eqb}
use Rattle.std.proofs.Common.{ℕ, rules}
use Rattle.std.proofs.lemmas.Iterator.{YieldsList-from_slice}
use Rattle.std.proofs.lemmas.Iterator.Consumers.{fold_from_yields_List}
use Rattle.encoding.proofs.Zeros.{zeros-fold}
use Rattle.encoding.proofs.are_zero.Goals as goal

pub returns : goal.returns
returns c =
    let s = c.args.s.now in
    ap (λ (n : ℕ). eqb n 0) (fold_from_yields_List _ bit_or 0 c.fold.result c.fold.ensures.ran (YieldsList-from_slice s cc) (λ a x b q k. search rules))
    ∙ zeros-fold s 0
