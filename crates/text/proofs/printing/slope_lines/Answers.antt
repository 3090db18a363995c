-- `text::printing::slope_lines` meets its contract: the lines of the factors passed are there. Assumes nothing.
use mathlib.Core.Path.{◌≡◌, ap, ◌∙◌}
use native.Mathlib.Omega.{arith}
use Rattle.std.specs.Option.{unwrap_or}
use Rattle.range.specs.Limit.{zero_range}
use Rattle.range.specs.Sums.{at}
use Rattle.writer.proofs.Writing.{then}
use Rattle.text.proofs.Members.{slopes-start, slope-next}
use Rattle.text.proofs.printing.slope_lines.Goals as goal

pub loop-a-init : goal.loop-a-init
loop-a-init c = slopes-start _ _

pub loop-a-preserved : goal.loop-a-preserved
loop-a-preserved c =
    let x : c.unwrap_or.result ≡ at c.args.gradient c.loop-a.a
    = c.unwrap_or.ensures ∙ ap (λ o. unwrap_or o zero_range) c.copied.ensures ∙ c.get.ensures.lookup.4 (omega arith) zero_range
    ∙ ap (at c.args.gradient) c.from-in-loop-a.ensures in
    slope-next _ _ _ _ _ c.loop-a.invariant
    (then _ _ _ _ _ c.word.ensures
    (then _ _ _ _ _ (rw c.from.ensures at c.natural_field.ensures) (rw x at c.range_fields.ensures)))
