use mathlib.Core.Path.{◌≡◌}
use Prim.Native.Nat.{◌-◌}
use Rattle.codelist.specs.declared.Codelist.{Codelist}
use Rattle.rules.specs.Rate.{pairs}
use Rattle.bounds.specs.Table.{gradient_at, Ready}
use Rattle.bounds.specs.Answer.{Lies}
use Rattle.bounds.proofs.Running.{Ran}
use Rattle.bounds.proofs.run.rate.Given as goal

abbrev pub invariant-loop-k : goal.invariant-loop-k
invariant-loop-k g l = record {
  ready : Ready l.t l.k;
  slopes : l.last ≡ gradient_at l.t (l.k - 1);
  ran : (c : Codelist) → Lies c l.fn.front (goal.F-post g l.fn.op_at) → Ran c (pairs l.fn.xs) l.t l.k;
}
