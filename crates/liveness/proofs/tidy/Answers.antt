use Rattle.liveness.proofs.Calls.{loaded_fine}
use Rattle.liveness.proofs.tidy.Goals as goal

pub fit-requires : goal.fit-requires
fit-requires c = loaded_fine _ _ c.in_ok-load.ensures
