-- `is_ratable` meets its contract: what is left to test in the loop is what was to be tested at its start.
use Rattle.std.proofs.Common.{◌≡◌, true, arith, add-zero, ◌∙◌}
use Rattle.std.proofs.lemmas.Grind.{common_steps}
use Rattle.std.proofs.lemmas.Bool.Decides.{nat_tests}
use Rattle.codelist.specs.Codelist.{in_bounds, ratable}
use Rattle.codelist.proofs.Ratable.{entries-fail, entries-pass, entries-end}
use Rattle.codelist.proofs.is_ratable.Goals as goal

pub returns-then-not-n-count : goal.returns-then-not-n-count
unfolding ratable
returns-then-not-n-count c = grind (arith, nat_tests, common_steps)

pub loop-k-init : goal.loop-k-init
loop-k-init c = rw add-zero

pub returns-then-not-is_op_well_formed : goal.returns-then-not-is_op_well_formed
unfolding ratable
returns-then-not-is_op_well_formed c =
    let b : in_bounds c.args.c ≡ true = grind (arith, nat_tests, common_steps) in
    let f = entries-fail c.from-n.result _ c.loop-k.k _ c.loop-k-test.true c.if-not-is_op_well_formed.ensures in
    grind (arith, nat_tests, common_steps)

pub loop-k-preserved : goal.loop-k-preserved
loop-k-preserved c =
    entries-pass c.from-n.result _ c.loop-k.k _ c.loop-k-test.true c.if-not-is_op_well_formed.ensures ∙ c.loop-k.invariant

pub returns : goal.returns
unfolding ratable
returns c =
    let b : in_bounds c.args.c ≡ true = grind (arith, nat_tests, common_steps) in
    let f = entries-end c.from-n.result _ c.loop-k.k c.loop-k-test.false in
    grind (arith, nat_tests, common_steps)
