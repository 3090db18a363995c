use Rattle.std.proofs.Common.{◌≡◌, [], ◌-◌, ◌≤◌, length}
use Rattle.boats.specs.Boats.{numbers_of}
use Rattle.fleet_text.specs.Input.{boat_lines}
use Rattle.fleet_text.proofs.lines.boat_lines.Given as goal

abbrev pub invariant-loop-rest : goal.invariant-loop-rest
invariant-loop-rest l = record {
  few : length l.boats ≤ 1000;
  same : boat_lines (1000 - length l.boats) (numbers_of l.boats) l.rest ≡ boat_lines 1000 [] l.s;
}

abbrev pub decreases-loop-rest : goal.decreases-loop-rest
decreases-loop-rest l = 1000 - length l.boats
