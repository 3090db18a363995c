-- `range::Range::hull` meets its contract. Assumes nothing.
use mathlib.Core.Path.{◌∙◌, refl, sym, ap₂}
use mathlib.Core.Bool.{◌&&◌}
use Rattle.range.specs.Limit.{over, both_valid, kept}
use Rattle.range.specs.Arithmetic.{ends_hull, hull_of}
use Rattle.range.proofs.Fitting.{and_first, and_second, hull-kept, pick_no, sticky₂-made}
use Rattle.range.proofs.Range.hull.Goals as goal

pub returns-then-valid : goal.returns-then-valid
unfolding hull_of
returns-then-valid c =
    let v = sym c.valid.ensures ∙ and_first _ _ c.if-valid.true in
    let w = sym c.valid-2.ensures ∙ and_second c.valid.result _ c.if-valid.true in
    sticky₂-made ends_hull c.args.self c.args.other _ v w (hull-kept _ _ _ v w c.ends_hull-both.ensures)

pub returns-else-valid : goal.returns-else-valid
unfolding hull_of both_valid
returns-else-valid c =
    let a = c.args.self in
    let b = c.args.other in
    pick_no (both_valid a b) (kept (ends_hull a b)) over over (sym (ap₂ ◌&&◌ c.valid.ensures c.valid-2.ensures) ∙ c.if-valid.false) refl
