-- The readers of atoms, powers, products and sums meet their contracts. They call each other in a cycle. What each of them gives back is a lemma of
-- ReaderSteps, on what was read.
use Rattle.std.proofs.Common.{arith, ◌≡◌}
use Rattle.std.proofs.lemmas.Result.{err_from_is_err_and}
use Rattle.formulas.specs.Read.{leaf_at, atom_at}
use Rattle.formulas.proofs.ReaderSteps.{leaf_by_room, leaf-by-byte, leaf-gone, leaf-stops}
use Rattle.formulas.proofs.Laws.{strip-some, strip-none}
use Rattle.formulas.proofs.ReaderSteps.{opens, bracket-shorter, bracket-stops, bracket-open, bracket-closes}
use Rattle.formulas.proofs.ReaderSteps.{power-stops, power-plain, power-none, power-up}
use Rattle.formulas.proofs.ReaderSteps.{rank-chains, rank-signed}
use Rattle.formulas.proofs.ReaderSteps.{loop-starts, sign-ready, joinable, chain-shrinks, chain-turns, chain-stops, chain-ends, chain-breaks}
use Rattle.formulas.proofs.reader.+readers.Goals as goal
use Rattle.formulas.proofs.reader.+readers.Goals.{atom-in_default-via-in-Some+else-room-gt0, atom-in_default-via-in_default}

-- ════ atoms ════

-- fewer bytes are left behind the bracket
pub atom-joined-requires : goal.atom-joined-requires
atom-joined-requires t c =
    omega (arith, bracket-shorter (opens {room = c.args.room} {s = c.args.s.now} {u = c.in-Some.inside.now} c.if-room-gt0.true c.in-Some.ensures.cases))

-- no sum behind the bracket
pub atom-returns-in_err-inner-in-Some : goal.atom-returns-in_err-inner-in-Some
atom-returns-in_err-inner-in-Some t c =
    let p = err_from_is_err_and c.from_residual.result c.from_residual.ensures.1 in
    rw (p.1, p.2) (bracket-stops (opens c.if-room-gt0.true c.in-Some.ensures.cases) c.in_err-inner-in-Some.ensures)

-- a sum in brackets
pub atom-returns-in-Some-strip_prefix : goal.atom-returns-in-Some-strip_prefix
atom-returns-in-Some-strip_prefix t c =
    let d = strip-some c.in_ok-inner-in-Some.rest.now 41 c.in-Some-strip_prefix.ensures.cases in
    bracket-closes (opens c.if-room-gt0.true c.in-Some.ensures.cases) c.in_ok-inner-in-Some.ensures d.0 d.1

-- a bracket that does not close
pub atom-returns-in-None : goal.atom-returns-in-None
atom-returns-in-None t c =
    bracket-open (opens c.if-room-gt0.true c.in-Some.ensures.cases) c.in_ok-inner-in-Some.ensures (strip-none c.in_ok-inner-in-Some.rest.now 41 (omega arith) c.in-None.ensures.cases)

-- no room for a bracket, or none opens: a leaf
pub atom-returns-in_err-operand-in_default : goal.atom-returns-in_err-operand-in_default
atom-returns-in_err-operand-in_default t c =
    let a = c.args in
    let e : atom_at a.room a.s.now ≡ leaf_at a.s.now
    = elim c.in_default.branch [
      | atom-in_default-via-in-Some+else-room-gt0 w ↦ leaf_by_room a.s.now w.if-room-gt0.false
      | atom-in_default-via-in_default w ↦ leaf-by-byte a.room a.s.now (strip-none a.s.now 40 (omega arith) w.in_default.ensures.cases)
    ] in
    let r = c.from_residual-in_err-operand-in_default in
    let p = err_from_is_err_and r.result r.ensures.1 in
    rw (p.1, p.2) (leaf-stops a.sheet.now a.room e c.in_err-operand-in_default.ensures)

pub atom-returns-in_ok-operand-in_default : goal.atom-returns-in_ok-operand-in_default
atom-returns-in_ok-operand-in_default t c =
    let a = c.args in
    let e : atom_at a.room a.s.now ≡ leaf_at a.s.now
    = elim c.in_default.branch [
      | atom-in_default-via-in-Some+else-room-gt0 w ↦ leaf_by_room a.s.now w.if-room-gt0.false
      | atom-in_default-via-in_default w ↦ leaf-by-byte a.room a.s.now (strip-none a.s.now 40 (omega arith) w.in_default.ensures.cases)
    ] in
    leaf-gone a.sheet.now a.room e c.in_ok-operand-in_default.ensures

-- ════ powers ════

-- no atom
pub powered-returns-in_err-base : goal.powered-returns-in_err-base
powered-returns-in_err-base t c =
    let p = err_from_is_err_and c.from_residual.result c.from_residual.ensures.1 in
    rw (p.1, p.2) (power-stops c.in_err-base.ensures)

-- no exponent
pub powered-returns-in_default : goal.powered-returns-in_default
powered-returns-in_default t c = power-plain c.in_ok-base.ensures (strip-none c.in_ok-base.rest.now 94 (omega arith) c.in_default.ensures.cases)

-- the sign of an exponent, and no digit
pub powered-returns-in_default-digit : goal.powered-returns-in_default-digit
powered-returns-in_default-digit t c =
    let e = strip-some c.in_ok-base.rest.now 94 c.in-Some.ensures.cases in
    power-none c.in_ok-base.ensures e.0 e.1 c.in_default-digit.ensures

-- an exponent
pub powered-returns : goal.powered-returns
powered-returns t c =
    let e = strip-some c.in_ok-base.rest.now 94 c.in-Some.ensures.cases in
    let d = c.in-Some-digit.ensures in
    power-up c.in_ok-base.ensures e.0 e.1 d.0 d.1 d.2 c.raised.ensures

-- ════ products and sums ════

-- no first operand
pub joined-returns-in_err-left : goal.joined-returns-in_err-left
joined-returns-in_err-left t c =
    let p = err_from_is_err_and c.from_residual.result c.from_residual.ensures.1 in
    rw (p.1, p.2) (chain-stops (rank-chains c.args.rank (atom_at c.args.room)) c.in_err-left.ensures)

-- the loop begins behind the first operand
pub joined-loop-sign-init : goal.joined-loop-sign-init
joined-loop-sign-init t c = loop-starts c.in_ok-left.ensures

-- fewer bytes are left behind a sign
pub joined-part-requires-in-Some : goal.joined-part-requires-in-Some
joined-part-requires-in-Some t c =
    omega (arith, sign-ready c.in_ok-left.ensures c.loop-sign.invariant (rank-signed c.args.rank c.in-Some.ensures) c.requires)

-- no operand behind a sign
pub joined-returns-in_err-right : goal.joined-returns-in_err-right
joined-returns-in_err-right t c =
    let p = err_from_is_err_and c.from_residual-in_err-right.result c.from_residual-in_err-right.ensures.1 in
    rw (p.1, p.2) (chain-breaks c.in_ok-left.ensures c.loop-sign.invariant (rank-signed c.args.rank c.in-Some.ensures)
    (rank-chains c.args.rank (atom_at c.args.room)) c.in_err-right.ensures)

-- the two operands can be joined
pub joined-joined-left-requires : goal.joined-joined-left-requires
joined-joined-left-requires t c =
    joinable c.in_ok-left.ensures c.loop-sign.invariant (rank-signed c.args.rank c.in-Some.ensures) c.in_ok-right.ensures c.requires

-- a turn leaves fewer bytes
pub joined-loop-sign-smaller : goal.joined-loop-sign-smaller
joined-loop-sign-smaller t c =
    chain-shrinks c.in_ok-left.ensures c.loop-sign.invariant (rank-signed c.args.rank c.in-Some.ensures) c.in_ok-right.ensures

-- and joins one operand more
pub joined-loop-sign-preserved : goal.joined-loop-sign-preserved
joined-loop-sign-preserved t c =
    chain-turns c.in_ok-left.ensures c.loop-sign.invariant (rank-signed c.args.rank c.in-Some.ensures) c.in_ok-right.ensures c.joined-left.ensures

-- no sign more
pub joined-returns : goal.joined-returns
joined-returns t c = chain-ends c.in_ok-left.ensures c.loop-sign.invariant (rank-chains c.args.rank (atom_at c.args.room)) c.in_default.ensures
