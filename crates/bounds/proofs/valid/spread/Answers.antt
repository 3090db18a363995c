-- `bounds::valid::spread` meets its contract. Assumes nothing.
use borrow.Author.Rules.{rules}
use mathlib.Core.Path.{◌≡◌, ◌∙◌, ap, ap₂, sym}
use mathlib.Core.Bool.{true, ◌&&◌}
use lib.IntN.{ℤ, pos}
use lib.Signed.{le_z}
use Rattle.range.specs.Arithmetic.{ends_hull}
use Rattle.range.specs.Steps.{ends_by, sorted_of}
use Rattle.range.proofs.Fitting.{fitting, and_first, and_second, low_read, high_read}
use Rattle.range.proofs.Extremes.{spread-above}
use Rattle.bounds.proofs.valid.spread.Goals as goal

pub overflow_mul-a : goal.overflow_mul-a
overflow_mul-a c = search (rules, fitting)

pub overflow_mul-a-then-a-b : goal.overflow_mul-a-then-a-b
overflow_mul-a-then-a-b c = search (rules, fitting)

pub returns-then-a-b : goal.returns-then-a-b
returns-then-a-b c =
    let a = c.args.a in
    let b = c.args.b in
    let v = c.requires.a_value in
    let w = c.requires.b_value in
    let p = le_z (pos 0) a.low in
    let q = le_z (pos 0) b.low in
    let above : (p && q) ≡ true = simp (low_read a v, low_read b w) at c.if-a-b.true in
    c.new.ensures ∙ search (rules, fitting) ∙ sym (spread-above a b v w (and_first p q above) (and_second p q above))

pub by-requires : goal.by-requires
by-requires c = search (rules, fitting)

pub by-requires-2 : goal.by-requires-2
by-requires-2 c = search (rules, fitting)

pub returns : goal.returns
returns c =
    let a = c.args.a in
    let b = c.args.b in
    c.ends_hull.ensures
    ∙ ap₂ ends_hull
    (c.by.ensures ∙ ap (λ (k : ℤ). sorted_of (ends_by k b)) (low_read a c.requires.a_value))
    (c.by-2.ensures ∙ ap (λ (k : ℤ). sorted_of (ends_by k b)) (high_read a c.requires.a_value))
