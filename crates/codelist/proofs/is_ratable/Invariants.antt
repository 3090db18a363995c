use Rattle.std.proofs.Common.{◌≡◌, ◌+◌, drop}
use Rattle.codelist.specs.Codelist.{well_formed_ops}
use Rattle.codelist.proofs.is_ratable.Given as goal

abbrev pub invariant-loop-k : goal.invariant-loop-k
invariant-loop-k l = well_formed_ops (l.n + l.k) (drop l.k l.entry-items) ≡ well_formed_ops l.n l.entry-items
