-- `cut_text::cut` meets its contract: `Answering`, with what the calls gave. Assumes nothing.
use Rattle.std.proofs.Common.{◌≡◌, sym, ap, ◌∙◌, rules, w64, to_z, of_z}
use mir.Facts.{to_z-of_z}
use Rattle.std.proofs.lemmas.Result.{err_from_is_err_and}
use Rattle.rules.specs.declared.Refusal.TheVariants.{RangeCount}
use Rattle.text.specs.Boxes.{numbers_of}
use Rattle.bisection.specs.declared.Refusal.TheVariants.{Depth, Rate}
use Rattle.cut_text.specs.Output.{refusal_text}
use Rattle.cut_text.specs.Input.{depth_in}
use Rattle.cut_text.proofs.Answering.{too_long, depth-none, depth-some, load-refused, too-deep, not-read, not-cut, cut}
use Rattle.cut_text.proofs.cut.Goals as goal

pub returns-then-input-gt-MOST_INPUT : goal.returns-then-input-gt-MOST_INPUT
returns-then-input-gt-MOST_INPUT c = too_long _ c.if-input-gt-MOST_INPUT.true

pub returns-in_err-load : goal.returns-in_err-load
returns-in_err-load c =
    let p = err_from_is_err_and c.from_residual.result c.from_residual.ensures.1 in
    rw (p.1, p.2)
    (load-refused _ c.if-input-gt-MOST_INPUT.false _ _
    (rw (c.new-engine.ensures, c.parted.ensures.sheet, c.after_first.ensures) at c.in_err-load.ensures))

pub returns-in_err-depth : goal.returns-in_err-depth
returns-in_err-depth c =
    let p = err_from_is_err_and c.from_residual-in_err-depth.result c.from_residual-in_err-depth.ensures.1 in
    let b = c.in_err-depth.ensures in
    let r = rw b.ok_part at b.value in
    let why : c.in_err-depth.field-0.0 ≡ Depth = cc r in
    rw (p.1, p.2)
    (ap refusal_text why
    ∙ too-deep _ c.if-input-gt-MOST_INPUT.false _ (rw (c.new-engine.ensures, c.parted.ensures.sheet, c.after_first.ensures) at c.in_ok-load.ensures)
    (depth-none _ _ (sym b.ok_part ∙ c.depth_in.ensures)))

pub returns-in_err-boxes : goal.returns-in_err-boxes
returns-in_err-boxes c =
    let p = err_from_is_err_and c.from_residual-in_err-boxes.result c.from_residual-in_err-boxes.ensures.1 in
    let b = c.in_err-boxes.ensures in
    let r = rw b.ok_part at b.value in
    let why : c.in_err-boxes.field-0.0 ≡ Rate RangeCount = cc r in
    rw (p.1, p.2)
    (ap refusal_text why
    ∙ not-read _ c.if-input-gt-MOST_INPUT.false _ (rw (c.new-engine.ensures, c.parted.ensures.sheet, c.after_first.ensures) at c.in_ok-load.ensures)
    (depth-some _ _ _ (sym c.in_ok-depth.ensures.ok_part ∙ c.depth_in.ensures)).0
    (ap numbers_of (sym b.ok_part) ∙ (rw (c.parted.ensures.rest, c.after_first.ensures) at c.box_lines.ensures)))

pub returns-in_err-answer : goal.returns-in_err-answer
returns-in_err-answer c =
    let p = err_from_is_err_and c.from_residual-in_err-answer.result c.from_residual-in_err-answer.ensures.1 in
    let d : to_z w64 (of_z w64 c.in_ok-depth.depth) ≡ depth_in c.args.input.now = to_z-of_z {w = w64} (search rules) ∙ (depth-some _ _ _ (sym c.in_ok-depth.ensures.ok_part ∙ c.depth_in.ensures)).1 in
    rw (p.1, p.2)
    (not-cut _ c.if-input-gt-MOST_INPUT.false _ (rw (c.new-engine.ensures, c.parted.ensures.sheet, c.after_first.ensures) at c.in_ok-load.ensures)
    _ (ap numbers_of (sym c.in_ok-boxes.ensures.ok_part) ∙ (rw (c.parted.ensures.rest, c.after_first.ensures) at c.box_lines.ensures)) _ (rw (c.in_err-answer.was, d) at c.loop.invariant))

pub returns : goal.returns
returns c =
    let d : to_z w64 (of_z w64 c.in_ok-depth.depth) ≡ depth_in c.args.input.now = to_z-of_z {w = w64} (search rules) ∙ (depth-some _ _ _ (sym c.in_ok-depth.ensures.ok_part ∙ c.depth_in.ensures)).1 in
    cut _ c.if-input-gt-MOST_INPUT.false _ (rw (c.new-engine.ensures, c.parted.ensures.sheet, c.after_first.ensures) at c.in_ok-load.ensures)
    _ (ap numbers_of (sym c.in_ok-boxes.ensures.ok_part) ∙ (rw (c.parted.ensures.rest, c.after_first.ensures) at c.box_lines.ensures)) _
    (rw (c.in_ok-answer.was, d) at c.loop.invariant)
