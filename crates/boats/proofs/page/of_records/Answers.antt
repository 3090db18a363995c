-- `boats::page::of_records` meets its contract: the laws of the walk at each turn and at the end. Assumes nothing.
use mathlib.Core.Path.{sym, ap, ◌∙◌}
use native.Mathlib.Omega.{arith}
use lib.ListN.{length-map}
use Rattle.boats.specs.Walk.{with_boat}
use Rattle.boats.proofs.Walking.{going_next, going_end}
use Rattle.boats.proofs.Walked.{page_without, page-over, page-reported}
use Rattle.boats.proofs.page.of_records.Goals as goal

pub returns-then-not-is_ratable : goal.returns-then-not-is_ratable
returns-then-not-is_ratable g c = page_without _ _ (sym c.is_ratable.ensures ∙ c.if-not-is_ratable.true)

pub returns-then-records-gt-MOST_BOATS : goal.returns-then-records-gt-MOST_BOATS
returns-then-records-gt-MOST_BOATS g c =
    page-over _ _ (sym c.is_ratable.ensures ∙ c.if-not-is_ratable.false) (omega (arith, length-map c.args.records.now g.R.Record.numbers_of, c.if-records-gt-MOST_BOATS.true))

pub loop-k-preserved : goal.loop-k-preserved
loop-k-preserved g c =
    let f = g.R.Record.numbers_of in
    let a = c.args in
    let l = c.loop-k in
    going_next f a.records.now l.invariant c.loop-k-test.true c.index-records-k.result _ c.index-records-k.is
    (c.with_boat-sum.ensures ∙ ap (with_boat a.engine l.k l.sum) c.numbers.ensures)

pub returns : goal.returns
returns g c =
    let n = length-map c.args.records.now g.R.Record.numbers_of in
    page-reported _ _ (sym c.is_ratable.ensures ∙ c.if-not-is_ratable.false) (omega (arith, n, c.if-records-gt-MOST_BOATS.false))
    (going_end c.loop-k.invariant (omega (arith, n, c.loop-k-test.false)))
