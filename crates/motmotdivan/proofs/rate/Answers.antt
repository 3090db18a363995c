-- `rate` meets its contract: the bytes of the class, or none.
use Rattle.std.proofs.Common.{[], sym, ◌∙◌}
use Rattle.std.proofs.lemmas.Result.{err_from_is_err_and}
use Rattle.motmotdivan.proofs.Slots.{width}
use Rattle.motmotdivan.proofs.Started.{begins, nowhere, rate-there}
use Rattle.motmotdivan.proofs.rate.Goals as goal

pub returns-in_err-at : goal.returns-in_err-at
returns-in_err-at c =
    let a = c.args in
    let p = err_from_is_err_and c.from_residual.result c.from_residual.ensures.1 in
    rw (p.1, p.2) (nowhere a.class a.state.now [] a.ranges.now a.room _ (sym c.start_of.ensures.value ∙ c.in_err-at.was)).answer

pub returns : goal.returns
returns c =
    let a = c.args in
    let b = begins a.class _ c.in_ok-at.at (sym c.start_of.ensures.value ∙ c.in_ok-at.was) in
    c.quoted.ensures ∙ rate-there a.class a.state.now c.in_ok-at.at b a.ranges.now a.room _ (width c.in_ok-at.at)
