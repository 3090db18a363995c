use Rattle.std.proofs.Common.{◌≡◌, [], length, take, drop}
use Rattle.sisters_text.specs.Input.{boat_ends, fields}
use Rattle.sisters_text.proofs.lines.boat_lines.Given as goal

abbrev pub invariant-loop-a : goal.invariant-loop-a
invariant-loop-a l = record {
  whole : length l.values ≡ 16;
  same : fields (drop l.a (boat_ends l.n)) (take l.a l.values) l.rest ≡ fields (boat_ends l.n) [] l.s;
}
