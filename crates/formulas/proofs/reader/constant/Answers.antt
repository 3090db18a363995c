-- `reader::constant` meets its contract: what it makes of one run of digits, or of two, is a lemma of Digits.
use Rattle.std.proofs.Common.{arith}
use Rattle.std.proofs.lemmas.Result.{err_from_is_err_and}
use Rattle.formulas.proofs.Digits.{whole-none, whole-alone, part_none, part-read}
use Rattle.formulas.proofs.Laws.{strip-some, strip-none}
use Rattle.formulas.proofs.reader.constant.Goals as goal

pub returns-in_err-whole : goal.returns-in_err-whole
returns-in_err-whole c =
    let p = err_from_is_err_and c.from_residual.result c.from_residual.ensures.1 in
    rw (p.1, p.2) (whole-none c.args.s.now c.in_err-whole.field-0.0 c.in_err-whole.ensures)

pub returns-in_default : goal.returns-in_default
returns-in_default c = whole-alone c.in_ok-whole.ensures (strip-none c.in_ok-whole.whole.rest.now 46 (omega arith) c.in_default.ensures.cases)

pub returns-in_err-part : goal.returns-in_err-part
returns-in_err-part c =
    let p = err_from_is_err_and c.from_residual-in_err-part.result c.from_residual-in_err-part.ensures.1 in
    let d = strip-some c.in_ok-whole.whole.rest.now 46 c.in-Some.ensures.cases in
    rw (p.1, p.2) (part_none c.in_ok-whole.ensures d.0 d.1 c.in_err-part.field-0.0 c.in_err-part.ensures)

pub returns : goal.returns
returns c =
    let d = strip-some c.in_ok-whole.whole.rest.now 46 c.in-Some.ensures.cases in
    rw c.pow.ensures (part-read c.in_ok-whole.ensures d.0 d.1 c.in_ok-part.ensures)
