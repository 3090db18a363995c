-- `increments::sisters` meets its contract. Assumes nothing.
use mathlib.Core.Path.{sym, ap, ◌∙◌}
use Rattle.std.proofs.lemmas.Result.{err_from_is_err_and}
use Rattle.increments.specs.Call.{refused_with, in_full}
use Rattle.increments.proofs.Answers.{class_of, count-refused, outside-refused, both-apart, difference-answers, refusal-answers}
use Rattle.increments.proofs.sisters.Goals as goal

pub returns-in_err-limits : goal.returns-in_err-limits
returns-in_err-limits c =
    let q = err_from_is_err_and c.from_residual.result c.from_residual.ensures.1 in
    ap in_full q.1 ∙ (ap refused_with q.2 ∙ refusal-answers _ _ _ c.in_err-limits.ensures)

pub returns-then-boats-n : goal.returns-then-boats-n
returns-then-boats-n c = count-refused _ _ _ c.in_ok-limits.ensures c.from-n.ensures c.if-boats-n.true

pub first_outside-requires-clause-n_bound : goal.first_outside-requires-clause-n_bound
first_outside-requires-clause-n_bound c = (class_of _ _ c.args.boats.now c.in_ok-limits.ensures c.from-n.ensures).few

pub first_outside-requires-clause-ranges_len : goal.first_outside-requires-clause-ranges_len
first_outside-requires-clause-ranges_len c = (class_of _ _ c.args.boats.now c.in_ok-limits.ensures c.from-n.ensures).count

pub returns-in-Some : goal.returns-in-Some
returns-in-Some c = outside-refused _ _ _ c.in_ok-limits.ensures c.from-n.ensures c.if-boats-n.false c.in-Some.ensures

pub difference-requires : goal.difference-requires
difference-requires c =
    both-apart _ _ _ c.in_ok-limits.ensures c.from-n.ensures c.if-boats-n.false (sym c.in_default.is ∙ c.first_outside.ensures)

pub returns : goal.returns
returns c =
    c.difference.ensures
    ∙ difference-answers _ _ _ c.in_ok-limits.ensures c.from-n.ensures c.if-boats-n.false (sym c.in_default.is ∙ c.first_outside.ensures)
