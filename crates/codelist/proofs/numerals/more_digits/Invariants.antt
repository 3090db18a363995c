use Rattle.std.proofs.Common.{◌≡◌, ◌-◌}
use Rattle.codelist.specs.Read.{digits}
use Rattle.codelist.proofs.Laws.{Roomy}
use Rattle.codelist.proofs.numerals.more_digits.Given as goal

abbrev pub invariant-loop : goal.invariant-loop
invariant-loop l = record {
  left : digits (9 - l.counter) l.negative l.magnitude l.rest ≡ digits 9 l.negative l.first l.s;
  roomy : Roomy (9 - l.counter) l.magnitude;
}
