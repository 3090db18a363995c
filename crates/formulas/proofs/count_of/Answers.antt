use Rattle.std.proofs.Common.{arith}
use borrow.Author.Tests.{le-leb, lt-leb}
use Rattle.formulas.specs.Convert.{count_of}
use Rattle.formulas.proofs.count_of.Goals as goal

pub returns-in-1-to-8 : goal.returns-in-1-to-8
unfolding count_of
returns-in-1-to-8 c = (simp (le-leb 1 c.args.count (omega arith), le-leb c.args.count 8 (omega arith)), omega arith)

pub returns-in_default : goal.returns-in_default
unfolding count_of
returns-in_default c = (simp (lt-leb 1 c.args.count (omega arith)), omega arith)

pub returns-in_default-2 : goal.returns-in_default-2
unfolding count_of
returns-in_default-2 c = (simp (le-leb 1 c.args.count (omega arith), lt-leb c.args.count 8 (omega arith)), omega arith)
