-- `increments::total::Total::rounded_down` meets its contract. Assumes nothing.
use mathlib.Core.Path.{◌≡◌, ap, ◌∙◌}
use native.Mathlib.Omega.{arith}
use lib.IntN.{ℤ, ◌+ℤ◌}
use Rattle.algebra.proofs.Int.{add-abs}
use Rattle.exact.specs.Div.{floor_div}
use Rattle.exact.proofs.Machine.{fits-abs}
use Rattle.increments.proofs.Shifting.{floor-abs}
use Rattle.increments.proofs.Totals.{few-read, down-read}
use Rattle.increments.proofs.total.Total.rounded_down.Goals as goal

pub overflow_add-result : goal.overflow_add-result
overflow_add-result c =
    let q : ℤ = floor_div c.args.self.rest 10000 in
    let is : c.floor_div.result ≡ q = c.floor_div.ensures ∙ ap (λ (z : ℤ). floor_div z 10000) (few-read c.args.self.rest (omega (arith, c.requires.rest_bound))) in
    let t = c.args.self in
    simp (few-read t.whole (omega (arith, c.requires.whole_bound)), is, few-read q (omega (arith, floor-abs t.rest, c.requires.rest_bound)))
    (fits-abs (t.whole +ℤ q) (omega (arith, add-abs t.whole q, floor-abs t.rest, c.requires.whole_bound, c.requires.rest_bound)))

pub returns : goal.returns
returns c =
    let q : ℤ = floor_div c.args.self.rest 10000 in
    let is : c.floor_div.result ≡ q = c.floor_div.ensures ∙ ap (λ (z : ℤ). floor_div z 10000) (few-read c.args.self.rest (omega (arith, c.requires.rest_bound))) in
    let t = c.args.self in
    simp (few-read t.whole (omega (arith, c.requires.whole_bound)), is, few-read q (omega (arith, floor-abs t.rest, c.requires.rest_bound)))
    (down-read t c.requires.whole_bound c.requires.rest_bound)
