-- `forms::flat` meets its contract: a turn lays one boat's numbers behind the others' (`Flat`). Assumes nothing.
use Rattle.std.proofs.Common.{◌≡◌, length, arith, rules}
use Rattle.fleet_text.proofs.Flat.{laid-eights, laid-next}
use Rattle.fleet_text.proofs.forms.flat.Goals as goal

pub loop-k-preserved : goal.loop-k-preserved
loop-k-preserved c =
    let e = c.copy_from_slice.ensures in
    let l : length c.copy_from_slice.new.self ≡ 8 = search rules in
    record {
      eights = laid-eights _ c.loop-k.numbers _ _ c.loop-k-test.true e.after l c.loop-k.invariant.eights;
      same = laid-next _ _ _ _ c.loop-k-test.true e.after l _ (omega (arith, c.loop-k-test.array_long, c.requires)) c.loop-k.invariant.same;
    }
