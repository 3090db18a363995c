-- `margin::nearest` meets its contract. Assumes nothing.
use borrow.Author.Rules.{rules}
use mathlib.Core.Path.{◌≡◌, refl, sym, ap, ◌∙◌}
use mir.Syntax.{w64}
use mir.Val.{to_z, of_z}
use Rattle.std.proofs.lemmas.Result.{err_from_is_err_and}
use Rattle.margin.specs.InFull.{Refused}
use Rattle.margin.specs.Edge.{is_ceiling, edge_of, in_full}
use Rattle.margin.proofs.Answers.{edge-refused, edge-beyond, edge-found}
use Rattle.margin.proofs.nearest.Goals as goal

pub returns-in_err-limits : goal.returns-in_err-limits
returns-in_err-limits c =
    let q = err_from_is_err_and c.from_residual.result c.from_residual.ensures.1 in
    ap in_full q.1 ∙ (ap Refused q.2 ∙ edge-refused _ _ _ c.in_err-limits.ensures refl)

pub returns-then-not-is_ceiling : goal.returns-then-not-is_ceiling
returns-then-not-is_ceiling c =
    let read : to_z w64 (of_z w64 c.args.ceiling) ≡ c.args.ceiling = search rules in
    let tested = ap (is_ceiling c.in_ok-limits.limits.value) (sym read) ∙ sym c.is_ceiling.ensures in
    edge-beyond _ _ _ c.in_ok-limits.ensures refl (tested ∙ c.if-not-is_ceiling.true)

pub returns : goal.returns
returns c =
    let read : to_z w64 (of_z w64 c.args.ceiling) ≡ c.args.ceiling = search rules in
    let tested = ap (is_ceiling c.in_ok-limits.limits.value) (sym read) ∙ sym c.is_ceiling.ensures in
    let a = c.args in
    c.first.ensures
    ∙ ap (edge_of a.engine.codelist a.ranges.now) read
    ∙ edge-found _ _ _ c.in_ok-limits.ensures refl (tested ∙ c.if-not-is_ceiling.false)
