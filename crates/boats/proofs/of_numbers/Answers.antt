-- `boats::of_numbers` meets its contract. Assumes nothing.
use mathlib.Core.Path.{sym, ◌∙◌}
use mathlib.Core.Logic.{inl, inr}
use borrow.Author.Tests.{eqb-true, eqb-false}
use Rattle.boats.proofs.Walked.{unfinished, cut-page}
use Rattle.boats.proofs.of_numbers.Goals as goal
use Rattle.boats.proofs.of_numbers.Goals.{else-not-is_empty-via-then-not-is_empty+else-is_ratable, else-not-is_empty-via-else-not-is_empty}

pub returns-then-is_ratable : goal.returns-then-is_ratable
returns-then-is_ratable c =
    let left = eqb-false _ 0 (sym c.is_empty.ensures ∙ c.if-not-is_empty.true) in
    unfinished _ _ (sym c.is_ratable.ensures ∙ c.if-is_ratable.true) (λ z. left (c.as_chunks.ensures.back_len ∙ z))

pub returns : goal.returns
returns c =
    c.of_records.ensures ∙ cut-page _ _ c.as_chunks.ensures.front (elim c.else-not-is_empty.branch [
      | else-not-is_empty-via-then-not-is_empty+else-is_ratable w ↦ inl (sym w.is_ratable.ensures ∙ w.if-is_ratable.false)
      | else-not-is_empty-via-else-not-is_empty w ↦ inr (sym c.as_chunks.ensures.back_len ∙ eqb-true _ 0 (sym c.is_empty.ensures ∙ w.if-not-is_empty.false))
    ])
