use Rattle.std.proofs.Common.{◌≡◌}
use Rattle.bisection.specs.Cut.{cut_of, in_full}
use Rattle.cut_text.proofs.cut.Given as goal

abbrev pub invariant-loop : goal.invariant-loop
invariant-loop l = in_full l.answer ≡ cut_of l.engine l.boxes l.depth
