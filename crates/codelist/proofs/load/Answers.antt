-- `load` meets its contract: each way out is a case of `load_of`.
use Rattle.std.proofs.Common.{arith, sym}
use Rattle.std.proofs.lemmas.Grind.{common_steps}
use Rattle.std.proofs.lemmas.Bool.Decides.{nat_tests}
use Rattle.codelist.specs.Load.{load_of}
use Rattle.codelist.proofs.Laws.{between-inv}
use Rattle.codelist.proofs.load.Goals as goal

pub returns-then-bytes-gt-MOST_BYTES : goal.returns-then-bytes-gt-MOST_BYTES
unfolding load_of
returns-then-bytes-gt-MOST_BYTES c = grind (arith, nat_tests, common_steps)

pub returns-in_err-first : goal.returns-in_err-first
unfolding load_of
returns-in_err-first c = grind (arith, nat_tests, common_steps)

pub returns-then-not-is_between : goal.returns-then-not-is_between
unfolding load_of
returns-then-not-is_between c = grind (arith, nat_tests, common_steps)

pub returns-in_err-year : goal.returns-in_err-year
unfolding load_of
returns-in_err-year c = grind (arith, nat_tests, common_steps)

pub overflow_cast-first : goal.overflow_cast-first
overflow_cast-first c = omega (arith, between-inv 1 8 c.in_ok-first.first.factors (sym c.if-not-is_between.ensures))

pub operation_lines-requires : goal.operation_lines-requires
operation_lines-requires c = (between-inv 1 8 c.in_ok-first.first.factors (sym c.if-not-is_between.ensures)).2

pub returns : goal.returns
unfolding load_of
returns c = grind (arith, nat_tests, common_steps)
