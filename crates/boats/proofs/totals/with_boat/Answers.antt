-- `boats::totals::with_boat` meets its contract. Assumes nothing.
use Rattle.boats.proofs.Adding.{value-valid}
use Rattle.boats.proofs.totals.with_boat.Goals as goal

pub with_value-requires-clause-value_value : goal.with_value-requires-clause-value_value
with_value-requires-clause-value_value c = value-valid _ _ c.in-Ok.ensures
