-- `range::Checked::spread` meets its contract. Assumes nothing.
use borrow.Author.Rules.{rules}
use mathlib.Core.Path.{◌∙◌, sym, ap, ap₂}
use lib.IntN.{ℤ, pos}
use lib.Signed.{le_z}
use Rattle.range.specs.Arithmetic.{ends_hull}
use Rattle.range.specs.Steps.{ends_by, sorted_of}
use Rattle.range.proofs.Extremes.{spread-above}
use Rattle.range.proofs.Fitting.{fitting, low_read, high_read, and_first, and_second}
use Rattle.range.proofs.Checked.spread.Goals as goal

pub returns-then-both_above : goal.returns-then-both_above
returns-then-both_above c =
    let a = c.args.self in
    let b = c.args.other in
    let signs = sym c.both_above.ensures ∙ c.if-both_above.true in
    c.end_by_end.ensures
    ∙ sym (spread-above a.range b.range a.valid b.valid (and_first _ _ signs) (and_second (le_z (pos 0) a.range.low) _ signs))

pub by-requires : goal.by-requires
by-requires c = let a = c.args.self in search (rules, fitting, low_read, a.valid)

pub by-requires-2 : goal.by-requires-2
by-requires-2 c = let a = c.args.self in search (rules, fitting, high_read, a.valid)

pub returns : goal.returns
returns c =
    let a = c.args.self in
    let b = c.args.other in
    c.ends_hull.ensures
    ∙ ap₂ ends_hull
    (c.sorted-a.ensures ∙ ap sorted_of (c.by.ensures ∙ ap (λ (k : ℤ). ends_by k b.range) (low_read a.range a.valid)))
    (c.sorted-b.ensures ∙ ap sorted_of (c.by-2.ensures ∙ ap (λ (k : ℤ). ends_by k b.range) (high_read a.range a.valid)))
