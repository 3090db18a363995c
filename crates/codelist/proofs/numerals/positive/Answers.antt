use Rattle.std.proofs.Common.{rules, arith}
use Rattle.std.proofs.lemmas.Bool.Decides.{nat_tests}
use Rattle.codelist.specs.Read.{positive}
use Rattle.codelist.proofs.Laws.{digit-read, digit-unread}
use Rattle.codelist.proofs.numerals.positive.Goals as goal

pub returns-in_err-first : goal.returns-in_err-first
unfolding positive
returns-in_err-first c = let d = digit-unread c.args.s.now c.in_err-first.ensures in simp d (search rules)

pub returns-then-first-eq0 : goal.returns-then-first-eq0
unfolding positive
returns-then-first-eq0 c = let d = digit-read c.args.s.now _ _ c.in_ok-first.ensures in grind (arith, nat_tests)

pub returns : goal.returns
unfolding positive
returns c = let d = digit-read c.args.s.now _ _ c.in_ok-first.ensures in grind (arith, nat_tests)
