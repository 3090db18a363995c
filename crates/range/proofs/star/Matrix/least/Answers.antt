-- `range::star::Matrix::least` meets its contract. Assumes nothing.
use borrow.Author.Rules.{rules}
use mathlib.Core.Path.{sym, ap, ◌∙◌}
use Rattle.exact.specs.Div.{floor_div}
use Rattle.range.specs.Star.{star_root}
use Rattle.range.proofs.Fitting.{read}
use Rattle.range.proofs.StarFits.{half-read, low-made}
use Rattle.range.proofs.star.Matrix.least.Goals as goal

pub returns : goal.returns
returns c =
    let root = c.root in
    let x = c.args.self in
    let made = low-made x.a x.b x.m x.a_half x.b_half x.m_half root.result root.ensures.result_bound
    (root.ensures.value ∙ sym (λ i. star_root (half-read x.a x.a_half i) (half-read x.b x.b_half i) (half-read x.m x.m_half i))) in
    read c.half_down.result (search rules) (c.half_down.ensures ∙ ap (λ z. floor_div z 2) made)
