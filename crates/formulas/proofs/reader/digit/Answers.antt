-- `reader::digit` meets its contract.
use Rattle.std.proofs.Common.{arith}
use Rattle.formulas.proofs.Grammatical.{digit-of}
use Rattle.formulas.proofs.Laws.{front, no-front, low-digit, high-digit}
use Rattle.formulas.proofs.reader.digit.Goals as goal
use Rattle.formulas.proofs.reader.digit.Goals.{in_default-via-then-byte-lt48, in_default-via-else-byte-lt48+else-byte-lt58}

pub returns-in_err-byte : goal.returns-in_err-byte
returns-in_err-byte c = rw (c.from_residual.ensures, no-front c.args.s.now c.in_err-byte.ensures.cases) (high-digit 256 (omega arith))

pub returns-in-48-to-57 : goal.returns-in-48-to-57
returns-in-48-to-57 c =
    let b = c.in_ok-byte.byte.now in
    let p = front c.args.s.now b c.in_ok-byte.rest.now c.in_ok-byte.ensures.cases.0 in
    (rw p.0 (omega (arith, digit-of b (omega arith) (omega arith))), omega arith, p.1)

pub returns-in_default : goal.returns-in_default
returns-in_default c =
    let b = c.in_ok-byte.byte.now in
    let p = front c.args.s.now b c.in_ok-byte.rest.now c.in_ok-byte.ensures.cases.0 in
    rw p.0 (elim c.in_default.branch [
      | in_default-via-then-byte-lt48 w ↦ low-digit b (omega arith)
      | in_default-via-else-byte-lt48+else-byte-lt58 w ↦ high-digit b (omega arith)
    ])
