-- `answer` meets its contract: the first line, and what follows it.
use Rattle.std.proofs.Common.{ap, ◌∙◌}
use Rattle.formulas.specs.Answer.{on_count, answer_of, in_bytes}
use Rattle.formulas.proofs.answer.Goals as goal

pub returns-in-Some : goal.returns-in-Some
unfolding answer_of
returns-in-Some c = c.after_first.ensures ∙ ap (λ r. in_bytes (on_count r)) c.in-Some.ensures

pub returns-in-None : goal.returns-in-None
unfolding answer_of
returns-in-None c = c.refused.ensures ∙ ap (λ r. in_bytes (on_count r)) c.in-None.ensures
