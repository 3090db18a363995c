use Rattle.std.proofs.Common.{◌≡◌, ◌*◌, take}
use Rattle.boats.specs.Boats.{numbers_of}
use Rattle.boats.specs.Promises.{Eights}
use Rattle.fleet_text.specs.Views.{concat}
use Rattle.fleet_text.proofs.forms.flat.Given as goal

abbrev pub invariant-loop-k : goal.invariant-loop-k
invariant-loop-k l = record {
  eights : Eights (numbers_of (take l.k l.boats));
  same : take (8 * l.k) l.numbers ≡ concat (numbers_of (take l.k l.boats));
}
