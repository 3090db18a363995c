-- `sisters_text::difference` meets its contract: `Answering`, with what the calls gave. Assumes nothing.
use Rattle.std.proofs.Common.{◌≡◌, arith, sym, ap, ◌∙◌, length-take-le}
use Rattle.std.proofs.lemmas.Result.{err_from_is_err_and}
use Rattle.rules.specs.declared.Refusal.TheVariants.{RangeCount}
use Rattle.engine.specs.declared.Refusal.TheVariants.{Rate}
use Rattle.text.specs.Boxes.{numbers_of}
use Rattle.text.specs.Output.{refusal_text}
use Rattle.sisters_text.proofs.Answering.{too_long, few-factors, load-refused, not-read, differ}
use Rattle.sisters_text.proofs.difference.Goals as goal

pub returns-then-input-gt-MOST_INPUT : goal.returns-then-input-gt-MOST_INPUT
returns-then-input-gt-MOST_INPUT c = too_long _ c.if-input-gt-MOST_INPUT.true

pub returns-in_err-load : goal.returns-in_err-load
returns-in_err-load c =
    let p = err_from_is_err_and c.from_residual.result c.from_residual.ensures.1 in
    rw (p.1, p.2)
    (load-refused _ c.if-input-gt-MOST_INPUT.false _ _
    (rw (c.new-engine.ensures, c.parted-2.ensures.sheet, c.parted.ensures.sheet) at c.in_err-load.ensures))

pub returns-in_err-boxes : goal.returns-in_err-boxes
returns-in_err-boxes c =
    let p = err_from_is_err_and c.from_residual-in_err-boxes.result c.from_residual-in_err-boxes.ensures.1 in
    let b = c.in_err-boxes.ensures in
    let r = rw b.ok_part at b.value in
    let why : c.in_err-boxes.field-0.0 ≡ Rate RangeCount = cc r in
    rw (p.1, p.2)
    (ap refusal_text why
    ∙ not-read _ c.if-input-gt-MOST_INPUT.false _ (rw (c.new-engine.ensures, c.parted-2.ensures.sheet, c.parted.ensures.sheet) at c.in_ok-load.ensures)
    (ap numbers_of (sym b.ok_part) ∙ (rw (c.parted-2.ensures.rest, c.parted.ensures.sheet) at c.box_lines.ensures)))

pub boat_lines-requires : goal.boat_lines-requires
boat_lines-requires c = rw c.from-n.ensures (few-factors _ _ (rw c.new-engine.ensures at c.in_ok-load.ensures))

-- so that there are as many values
pub overflow_mul-values : goal.overflow_mul-values
overflow_mul-values c = let n = few-factors _ _ (rw c.new-engine.ensures at c.in_ok-load.ensures) in omega (arith, n, c.from-n.ensures)

pub slice_bounds-values-end : goal.slice_bounds-values-end
slice_bounds-values-end c =
    let n = few-factors _ _ (rw c.new-engine.ensures at c.in_ok-load.ensures) in omega (arith, n, c.from-n.ensures, c.in-Some.ensures.whole)

pub slice_bounds-sisters-end : goal.slice_bounds-sisters-end
slice_bounds-sisters-end c =
    let n = few-factors _ _ (rw c.new-engine.ensures at c.in_ok-load.ensures) in
    sym (length-take-le _ _ (omega (arith, n, c.from-n.ensures, c.in-Some.ensures.whole)))

pub returns-in-Some : goal.returns-in-Some
returns-in-Some c =
    differ _ c.if-input-gt-MOST_INPUT.false _ (rw (c.new-engine.ensures, c.parted-2.ensures.sheet, c.parted.ensures.sheet) at c.in_ok-load.ensures)
    _ _ _ (ap numbers_of (sym c.in_ok-boxes.ensures.ok_part) ∙ (rw (c.parted-2.ensures.rest, c.parted.ensures.sheet) at c.box_lines.ensures))
    (rw (c.from-n.ensures, c.parted.ensures.rest) at c.in-Some.ensures.read) (rw (c.as_slice.ensures.value, c.from-n.ensures) at c.sisters.ensures)

pub returns-in-None : goal.returns-in-None
returns-in-None c =
    differ _ c.if-input-gt-MOST_INPUT.false _ (rw (c.new-engine.ensures, c.parted-2.ensures.sheet, c.parted.ensures.sheet) at c.in_ok-load.ensures)
    _ _ _ (ap numbers_of (sym c.in_ok-boxes.ensures.ok_part) ∙ (rw (c.parted-2.ensures.rest, c.parted.ensures.sheet) at c.box_lines.ensures))
    (rw (c.from-n.ensures, c.parted.ensures.rest) at c.in-None.ensures.read) (rw c.as_slice-in-None.ensures.value at c.sisters-in-None.ensures)
