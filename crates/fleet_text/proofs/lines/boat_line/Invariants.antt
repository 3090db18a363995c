use Rattle.std.proofs.Common.{◌≡◌, [], ◌-◌, length, take}
use Rattle.fleet_text.specs.Input.{numbers}
use Rattle.fleet_text.proofs.lines.boat_line.Given as goal

abbrev pub invariant-loop-a : goal.invariant-loop-a
invariant-loop-a l = record {
  whole : length l.numbers ≡ 8;
  same : numbers (8 - l.a) (take l.a l.numbers) l.rest ≡ numbers 8 [] l.s;
}
