-- `bounds::rows::product_spectrum` meets its contract. Assumes nothing.
use mathlib.Core.Path.{◌≡◌, sym, ◌∙◌}
use Rattle.range.proofs.Fitting.{pick_yes, pick_no}
use Rattle.rules.specs.Table.{are_singles, singles, mul_row}
use Rattle.bounds.specs.Table.{line_at}
use Rattle.bounds.proofs.rows.product_spectrum.Goals as goal

pub returns-then-are_singles : goal.returns-then-are_singles
unfolding mul_row
returns-then-are_singles c =
    let test : let a = c.args in
    c.are_singles.result ≡ singles (line_at a.t.now a.i) (line_at a.t.now a.j) = c.are_singles.ensures ∙ λ i. are_singles (c.reach.ensures i) (c.reach-2.ensures i) (c.nonlinear.ensures i) (c.nonlinear-2.ensures i) in
    pick_yes _ _ _ _ (sym test ∙ c.if-are_singles.true) c.star_spectrum.ensures

pub returns-else-are_singles : goal.returns-else-are_singles
unfolding mul_row
returns-else-are_singles c =
    let test : let a = c.args in
    c.are_singles.result ≡ singles (line_at a.t.now a.i) (line_at a.t.now a.j) = c.are_singles.ensures ∙ λ i. are_singles (c.reach.ensures i) (c.reach-2.ensures i) (c.nonlinear.ensures i) (c.nonlinear-2.ensures i) in
    pick_no _ _ _ _ (sym test ∙ c.if-are_singles.false) c.joined_spectrum.ensures
