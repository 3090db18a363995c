-- `motmotdivan_rate` meets its contract: the code as it was found, and the limits into a result of the right length, which are zeros after a refusal.
use Rattle.std.proofs.Common.{◌≡◌, ℕ, List, length, ap, ◌∙◌}
use Rattle.std.specs.Result.{result_unwrap_or}
use Rattle.std.specs.declared.result.Result.{Result}
use Rattle.std.specs.declared.result.Result.TheVariants.{Ok, Err}
use Rattle.rules.specs.declared.Limits.{Limits}
use Rattle.rules.specs.Rate.{no_limits}
use Rattle.motmotdivan.specs.declared.codes.Refusal.{Refusal}
use Rattle.motmotdivan.specs.Record.{result_record}
use Rattle.motmotdivan.specs.Calls.{answer_code, answer_record}
use Rattle.motmotdivan.specs.Desk.{class_rate_record}
use Rattle.motmotdivan.specs.Views.{in_full, class_answer}
use Rattle.motmotdivan.proofs.Results.{no_result}
use Rattle.motmotdivan.proofs.Started.{class-code, class-record, class-other, class-few}
use Rattle.motmotdivan.proofs.motmotdivan_rate.Goals as goal
use Rattle.motmotdivan.proofs.motmotdivan_rate.Goals.{then-res-eq-RESULT_LENGTH, else-res-eq-RESULT_LENGTH}

-- What is written of the answer
written : (k : ℕ) (d x r : List ℕ) (o : Result Limits Refusal) {l : Limits} → length r ≡ 192 → in_full o ≡ class_answer k d x (length r)
    → l ≡ result_unwrap_or o no_limits → result_record l ≡ class_rate_record k d x r
written k d x r (Ok l) h e u = ap result_record u ∙ ap answer_record e ∙ class-record k d x r h
written k d x r (Err q) h e u = ap result_record u ∙ no_result ∙ ap answer_record e ∙ class-record k d x r h

pub code-requires : goal.code-requires
code-requires c =
    let a = c.args in
    class-few a.class a.state.now a.ranges.now (length a.res.now) _ _ c.in-Err.ensures

pub returns-in-Ok-clause-value : goal.returns-in-Ok-clause-value
returns-in-Ok-clause-value c =
    let a = c.args in
    ap answer_code c.in-Ok.ensures ∙ class-code a.class a.state.now a.ranges.now a.res.now

pub returns-in-Ok-clause-res_after : goal.returns-in-Ok-clause-res_after
unfolding no_limits
returns-in-Ok-clause-res_after c =
    let a = c.args in
    elim c.if-res-eq-RESULT_LENGTH.branch [
      | then-res-eq-RESULT_LENGTH w ↦
          w.res-is ∙ w.put_result.ensures ∙ written a.class a.state.now a.ranges.now a.res.now c.rate-rated.result w.if-res-eq-RESULT_LENGTH.true c.rate-rated.ensures w.unwrap_or.ensures
      | else-res-eq-RESULT_LENGTH w ↦ w.res-is ∙ class-other a.class a.state.now a.ranges.now a.res.now w.if-res-eq-RESULT_LENGTH.false
    ]

pub returns-in-Err-clause-value : goal.returns-in-Err-clause-value
returns-in-Err-clause-value c =
    let a = c.args in
    c.code.ensures ∙ ap answer_code c.in-Err.ensures ∙ class-code a.class a.state.now a.ranges.now a.res.now

pub returns-in-Err-clause-res_after : goal.returns-in-Err-clause-res_after
unfolding no_limits
returns-in-Err-clause-res_after c =
    let a = c.args in
    elim c.if-res-eq-RESULT_LENGTH.branch [
      | then-res-eq-RESULT_LENGTH w ↦
          w.res-is ∙ w.put_result.ensures ∙ written a.class a.state.now a.ranges.now a.res.now c.rate-rated.result w.if-res-eq-RESULT_LENGTH.true c.rate-rated.ensures w.unwrap_or.ensures
      | else-res-eq-RESULT_LENGTH w ↦ w.res-is ∙ class-other a.class a.state.now a.ranges.now a.res.now w.if-res-eq-RESULT_LENGTH.false
    ]
