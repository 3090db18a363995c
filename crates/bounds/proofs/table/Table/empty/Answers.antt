use mathlib.Core.Path.{refl}
use Rattle.bounds.proofs.Running.{ready-none}
use Rattle.bounds.proofs.table.Table.empty.Goals as goal

pub returns : goal.returns
returns c = ready-none _ 1280 refl
