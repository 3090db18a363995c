-- `draft` meets its contract: each way in which reading ends.
use Rattle.std.specs.declared.option.Option.TheVariants.{Some, None}
use Rattle.std.specs.declared.result.Result.TheVariants.{Ok, Err}
use Rattle.formulas.proofs.Exactly.{short}
use Rattle.formulas.proofs.Sheets.{is-long, halts, is-mixed, is-empty, is-sheet, behind_first}
use Rattle.formulas.proofs.draft.Goals as goal

pub returns-then-text-gt-LONGEST : goal.returns-then-text-gt-LONGEST
returns-then-text-gt-LONGEST c = is-long c.args.text.now c.args.count c.if-text-gt-LONGEST.true

pub returns-in-Err : goal.returns-in-Err
returns-in-Err c =
    let n = c.count_of.result in
    let after = c.formula.new.sheet in
    halts c.args.text.now c.args.count n after c.in-Err.rest _ (short c.args.text.now c.if-text-gt-LONGEST.false)
    (behind_first _ n c.new-sheet.result after _ (Err c.in-Err.rest) c.new-sheet.ensures c.in-Err.ensures)

pub returns-in-Ok-None : goal.returns-in-Ok-None
returns-in-Ok-None c =
    let n = c.count_of.result in
    let after = c.formula.new.sheet in
    is-mixed c.args.text.now c.args.count n after _ (short c.args.text.now c.if-text-gt-LONGEST.false) c.count_of.ensures.0
    (behind_first _ n c.new-sheet.result after _ (Ok None) c.new-sheet.ensures (rw c.in-Ok-None.field-0-is at c.in-Ok-None.ensures))

pub returns-in-Ok-Some : goal.returns-in-Ok-Some
returns-in-Ok-Some c =
    let n = c.count_of.result in
    let after = c.formula.new.sheet in
    is-empty c.args.text.now c.args.count n after c.in-Ok-Some.field-0-0 _ (short c.args.text.now c.if-text-gt-LONGEST.false) c.count_of.ensures.0
    (behind_first _ n c.new-sheet.result after _ (Ok (Some c.in-Ok-Some.field-0-0)) c.new-sheet.ensures (rw c.in-Ok-Some.field-0-is at c.in-Ok-Some.ensures)) c.if-sheet-eq0.true

pub returns-in-Ok-Some-2 : goal.returns-in-Ok-Some-2
returns-in-Ok-Some-2 c =
    let n = c.count_of.result in
    let after = c.formula.new.sheet in
    is-sheet c.args.text.now c.args.count n after c.in-Ok-Some.field-0-0 _ (short c.args.text.now c.if-text-gt-LONGEST.false) c.count_of.ensures.0
    (behind_first _ n c.new-sheet.result after _ (Ok (Some c.in-Ok-Some.field-0-0)) c.new-sheet.ensures (rw c.in-Ok-Some.field-0-is at c.in-Ok-Some.ensures)) c.if-sheet-eq0.false
