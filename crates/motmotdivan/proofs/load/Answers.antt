-- `load` meets its contract: every place of a refusal is bounded, so that no code wraps.
use Rattle.std.proofs.Common.{[], sym, ap, ◌∙◌}
use Rattle.std.proofs.lemmas.Result.{err_from_is_err_and}
use Rattle.motmotdivan.specs.Calls.{loaded_code}
use Rattle.motmotdivan.proofs.Places.{load-place}
use Rattle.motmotdivan.proofs.Slots.{width}
use Rattle.motmotdivan.proofs.Started.{begins, nowhere, load-code, load-left}
use Rattle.motmotdivan.proofs.load.Goals as goal

pub returns-in_err-at : goal.returns-in_err-at
returns-in_err-at c =
    let a = c.args in
    let p = err_from_is_err_and c.from_residual.result c.from_residual.ensures.1 in
    let n = nowhere a.class a.state.now a.text.now [] 0 _ (sym c.start_of.ensures.value ∙ c.in_err-at.was) in
    rw (p.1, p.2) (record { value = n.code; placed = n.few; state_after = n.kept })

pub returns-in_err-load : goal.returns-in_err-load
returns-in_err-load c =
    let a = c.args in
    let p = err_from_is_err_and c.from_residual-in_err-load.result c.from_residual-in_err-load.ensures.1 in
    let b = begins a.class _ c.in_ok-at.at (sym c.start_of.ensures.value ∙ c.in_ok-at.was) in
    rw (p.1, p.2) (record {
      value = ap loaded_code c.in_err-load.ensures.value ∙ load-code a.class a.state.now c.in_ok-at.at b a.text.now;
      placed = load-place a.text.now _ (sym c.in_err-load.ensures.value);
      state_after = load-left a.class a.state.now c.in_ok-at.at b a.text.now c.load.new.state _ (width c.in_ok-at.at) c.in_err-load.ensures.state_after;
    })

pub returns : goal.returns
returns c =
    let a = c.args in
    let b = begins a.class _ c.in_ok-at.at (sym c.start_of.ensures.value ∙ c.in_ok-at.was) in
    record {
      value = ap loaded_code c.in_ok-load.ensures.value ∙ load-code a.class a.state.now c.in_ok-at.at b a.text.now;
      placed = tt;
      state_after = load-left a.class a.state.now c.in_ok-at.at b a.text.now c.load.new.state _ (width c.in_ok-at.at) c.in_ok-load.ensures.state_after;
    }
