-- `range::Range::star` meets its contract. Assumes nothing.
use borrow.Author.Rules.{rules}
use mathlib.Core.Path.{◌≡◌, sym, ap₂, ◌∙◌}
use mathlib.Core.Bool.{◌&&◌}
use Rattle.range.specs.Star.{star_of}
use Rattle.range.proofs.Fitting.{pick_yes, pick_no}
use Rattle.range.proofs.StarLaws.{are_half}
use Rattle.range.proofs.Range.star.Goals as goal
use Rattle.range.proofs.Range.star.Goals.{After-is_half-3}

-- the three tests
tests : (c : After-is_half-3)
    → let s = c.args in
    (c.is_half.result && (c.is_half-2.result && c.is_half-3.result)) ≡ are_half s.self s.other s.off
tests c = ap₂ ◌&&◌ c.is_half.ensures (ap₂ ◌&&◌ c.is_half-2.ensures c.is_half-3.ensures)

pub returns-then-is_half : goal.returns-then-is_half
unfolding star_of
returns-then-is_half c = pick_yes _ _ _ _ (sym (tests c.before.before) ∙ c.if-is_half.true) c.ends_star.ensures

pub returns-else-is_half : goal.returns-else-is_half
unfolding star_of
returns-else-is_half c = pick_no _ _ _ _ (sym (tests c.before) ∙ c.if-is_half.false) (search rules)
