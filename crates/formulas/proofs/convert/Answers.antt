-- `convert` meets its contract: of a draft, or of a refusal.
use Rattle.std.proofs.Common.{rules}
use Rattle.std.proofs.lemmas.Result.{err_from_is_err_and}
use Rattle.formulas.proofs.Sheets.{converts, fills, refuses}
use Rattle.formulas.proofs.convert.Goals as goal

pub returns-in_err-draft-clause-value : goal.returns-in_err-draft-clause-value
returns-in_err-draft-clause-value c =
    let p = err_from_is_err_and c.from_residual.result c.from_residual.ensures.1 in
    rw (p.1, p.2) (refuses c.args.text.now c.args.factors _ c.in_err-draft.ensures).0

pub returns-in_err-draft-clause-sheet_after : goal.returns-in_err-draft-clause-sheet_after
returns-in_err-draft-clause-sheet_after c = (refuses c.args.text.now c.args.factors _ c.in_err-draft.ensures).1 c.args.sheet.now

pub returns-clause-value : goal.returns-clause-value
returns-clause-value c = converts c.args.text.now c.args.factors c.in_ok-draft.draft c.in_ok-draft.ensures _ c.as_slice-bytes.ensures

pub returns-clause-sheet_after : goal.returns-clause-sheet_after
returns-clause-sheet_after c =
    rw c.copy_from_slice.ensures.after (fills c.args.text.now c.args.factors c.in_ok-draft.draft c.in_ok-draft.ensures _ c.args.sheet.now c.as_slice-bytes.ensures (search rules))
