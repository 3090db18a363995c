-- `fleet_text::page` meets its contract: `Answering`, with what the calls gave. Assumes nothing.
use Rattle.std.proofs.Common.{◌≡◌, ℕ, List, refl, sym, ap, ◌∙◌}
use Rattle.std.proofs.lemmas.List.{length-map}
use Rattle.std.proofs.lemmas.Result.{err_from_is_err_and}
use mathlib.Core.Option.{some}
use Rattle.boats.specs.declared.Boat.{Boat}
use Rattle.boats.specs.Boats.{numbers_of}
use Rattle.fleet_text.specs.Output.{report_text, refusal_text}
use Rattle.boats.specs.declared.Refusal.TheVariants.{Boats}
use Rattle.fleet_text.specs.Views.{boats_read}
use Rattle.fleet_text.proofs.Answering.{too_long, within, as-read, not-loaded, no-boats, paged}
use Rattle.fleet_text.proofs.page.Goals as goal

pub split_at-requires : goal.split_at-requires
split_at-requires c = within _ _ c.sheet_end.ensures

pub returns-in_err-load : goal.returns-in_err-load
returns-in_err-load c =
    let p = err_from_is_err_and c.from_residual.result c.from_residual.ensures.1 in
    rw (p.1, p.2) (not-loaded _ _ c.sheet_end.ensures _ c.new-engine.ensures _ (rw c.split_at.ensures.front at c.in_err-load.ensures) _ refl)

pub returns-then-input-gt-MOST_INPUT : goal.returns-then-input-gt-MOST_INPUT
returns-then-input-gt-MOST_INPUT c =
    no-boats _ _ c.sheet_end.ensures _ c.new-engine.ensures _ (rw c.split_at.ensures.front at c.in_ok-load.ensures) refl
    (too_long _ c.if-input-gt-MOST_INPUT.true)

pub returns-in_err-list : goal.returns-in_err-list
returns-in_err-list c =
    let p = err_from_is_err_and c.from_residual-in_err-list.result c.from_residual-in_err-list.ensures.1 in
    let b = c.in_err-list.ensures in
    let r = rw b.ok_part at b.value in
    let why : c.in_err-list.field-0.0 ≡ Boats = cc r in
    rw (p.1, p.2)
    (ap refusal_text why
    ∙ no-boats _ _ c.sheet_end.ensures _ c.new-engine.ensures _ (rw c.split_at.ensures.front at c.in_ok-load.ensures) refl
    (ap boats_read (sym b.ok_part) ∙ (rw c.split_at.ensures.back at c.boats_in.ensures) ∙ as-read _ _ c.sheet_end.ensures c.if-input-gt-MOST_INPUT.false))

pub returns-in_err-report : goal.returns-in_err-report
returns-in_err-report c =
    let p = err_from_is_err_and c.from_residual-in_err-report.result c.from_residual-in_err-report.ensures.1 in
    rw (p.1, p.2)
    (paged _ _ c.sheet_end.ensures _ c.new-engine.ensures _ (rw c.split_at.ensures.front at c.in_ok-load.ensures)
    (numbers_of c.as_slice-boats.result.now) _ refl
    (ap (λ (b : List Boat). some (numbers_of b)) c.as_slice-boats.ensures.same ∙ ap boats_read (sym c.in_ok-list.ensures.ok_part)
    ∙ (rw c.split_at.ensures.back at c.boats_in.ensures)
    ∙ as-read _ _ c.sheet_end.ensures c.if-input-gt-MOST_INPUT.false)
    c.in_err-report.ensures)

pub returns : goal.returns
returns c =
    let bs = c.as_slice-boats.result.now in
    ap (λ (k : ℕ). report_text k c.in_ok-report.report) (sym (length-map bs (λ (b : Boat). b.numbers)))
    ∙ paged _ _ c.sheet_end.ensures _ c.new-engine.ensures _ (rw c.split_at.ensures.front at c.in_ok-load.ensures) (numbers_of bs) _ refl
    (ap (λ (b : List Boat). some (numbers_of b)) c.as_slice-boats.ensures.same ∙ ap boats_read (sym c.in_ok-list.ensures.ok_part)
    ∙ (rw c.split_at.ensures.back at c.boats_in.ensures)
    ∙ as-read _ _ c.sheet_end.ensures c.if-input-gt-MOST_INPUT.false)
    c.in_ok-report.ensures
