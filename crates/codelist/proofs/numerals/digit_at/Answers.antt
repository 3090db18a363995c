-- `numerals::digit_at` meets its contract: each way out is a case of `digit`.
use borrow.Author.Rules.{rules}
use borrow.Author.Tests.{le-leb, lt-leb}
use Rattle.codelist.specs.Read.{digit}
use Rattle.codelist.proofs.numerals.digit_at.Goals as goal

pub byte_at-b-requires : goal.byte_at-b-requires
byte_at-b-requires c = search rules

pub returns-then-b-lt-ZERO : goal.returns-then-b-lt-ZERO
unfolding digit
returns-then-b-lt-ZERO c = simp (← c.byte_at-b.ensures, lt-leb _ _ c.if-b-lt-ZERO.true)

pub returns-then-b-le-NINE : goal.returns-then-b-le-NINE
unfolding digit
returns-then-b-le-NINE c = simp (← c.byte_at-b.ensures, le-leb _ _ c.if-b-lt-ZERO.false, le-leb _ _ c.if-b-le-NINE.true)

pub returns-else-b-le-NINE : goal.returns-else-b-le-NINE
unfolding digit
returns-else-b-le-NINE c = simp (← c.byte_at-b.ensures, le-leb _ _ c.if-b-lt-ZERO.false, lt-leb _ _ c.if-b-le-NINE.false)
