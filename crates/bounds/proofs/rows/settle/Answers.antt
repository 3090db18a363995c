-- `bounds::rows::settle` meets its contract. Assumes nothing.
use mathlib.Core.Path.{sym, ◌∙◌}
use Rattle.range.proofs.Fitting.{and_first, and_second}
use Rattle.bounds.proofs.Working.{settled-some, settled-none}
use Rattle.bounds.proofs.rows.settle.Goals as goal

pub returns-then-not-is_range : goal.returns-then-not-is_range
returns-then-not-is_range c = settled-none c.args.h c.args.g _ _ c.is_range.ensures c.is_range-2.ensures c.if-not-is_range.true

pub returns : goal.returns
returns c =
    let both = c.if-not-is_range.false in
    settled-some c.args.h c.args.g
    (sym c.is_range.ensures ∙ and_first _ _ both) (sym c.is_range-2.ensures ∙ and_second _ _ both) c.requires.g_valid
    c.requires.g_value c.put_head.ensures
