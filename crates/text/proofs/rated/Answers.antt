-- `text::rated` meets its contract: `Answering`, with what the calls gave. Assumes nothing.
use mathlib.Core.Path.{◌≡◌, sym, ap, ◌∙◌}
use Rattle.std.proofs.lemmas.Result.{err_from_is_err_and}
use Rattle.rules.specs.declared.Refusal.TheVariants.{RangeCount}
use Rattle.engine.specs.declared.Refusal.TheVariants.{Rate}
use Rattle.text.specs.Output.{refusal_text}
use Rattle.text.specs.Boxes.{numbers_of}
use Rattle.text.proofs.Answering.{too_long, not-loaded, not-read, not-rated, rated}
use Rattle.text.proofs.rated.Goals as goal

pub returns-then-input-gt-MOST_INPUT : goal.returns-then-input-gt-MOST_INPUT
returns-then-input-gt-MOST_INPUT c = too_long _ c.if-input-gt-MOST_INPUT.true

pub returns-in_err-load : goal.returns-in_err-load
returns-in_err-load c =
    let p = err_from_is_err_and c.from_residual.result c.from_residual.ensures.1 in
    rw (p.1, p.2)
    (not-loaded _ c.if-input-gt-MOST_INPUT.false _ _ (rw (c.new-engine.ensures, c.parted.ensures.sheet) at c.in_err-load.ensures))

pub returns-in_err-boxes : goal.returns-in_err-boxes
returns-in_err-boxes c =
    let p = err_from_is_err_and c.from_residual-in_err-boxes.result c.from_residual-in_err-boxes.ensures.1 in
    let b = c.in_err-boxes.ensures in
    let r = rw b.ok_part at b.value in
    let why : c.in_err-boxes.field-0.0 ≡ Rate RangeCount = cc r in
    rw (p.1, p.2)
    (ap refusal_text why
    ∙ not-read _ c.if-input-gt-MOST_INPUT.false _ (rw (c.new-engine.ensures, c.parted.ensures.sheet) at c.in_ok-load.ensures)
    (ap numbers_of (sym b.ok_part) ∙ (rw c.parted.ensures.rest at c.box_lines.ensures)))

pub returns-in_err-rating : goal.returns-in_err-rating
returns-in_err-rating c =
    let p = err_from_is_err_and c.from_residual-in_err-rating.result c.from_residual-in_err-rating.ensures.1 in
    rw (p.1, p.2)
    (not-rated _ c.if-input-gt-MOST_INPUT.false _ (rw (c.new-engine.ensures, c.parted.ensures.sheet) at c.in_ok-load.ensures)
    _ _ (ap numbers_of (sym c.in_ok-boxes.ensures.ok_part) ∙ (rw c.parted.ensures.rest at c.box_lines.ensures))
    (rw c.in_err-rating.was at c.loop.invariant))

pub returns : goal.returns
returns c =
    rated _ c.if-input-gt-MOST_INPUT.false _ (rw (c.new-engine.ensures, c.parted.ensures.sheet) at c.in_ok-load.ensures)
    _ _ (ap numbers_of (sym c.in_ok-boxes.ensures.ok_part) ∙ (rw c.parted.ensures.rest at c.box_lines.ensures))
    (rw c.in_ok-rating.was at c.loop.invariant)
