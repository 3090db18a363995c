-- `range::Checked::inverse_below` meets its contract. Assumes nothing.
use borrow.Author.Rules.{rules}
use mathlib.Core.Path.{ap, ◌∙◌}
use Rattle.range.specs.Arithmetic.{neg_of}
use Rattle.range.specs.Steps.{inv_above}
use Rattle.range.proofs.Inverting.{inverting, inverse-negated}
use Rattle.range.proofs.Checked.inverse_below.Goals as goal

pub inverse_above-requires : goal.inverse_above-requires
inverse_above-requires c = search (rules, inverting, c.negated.ensures)

pub returns : goal.returns
returns c =
    c.negated-2.ensures
    ∙ ap neg_of (c.inverse_above.ensures ∙ ap inv_above c.negated.ensures)
    ∙ inverse-negated c.args.self.range
