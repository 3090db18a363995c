-- The laws of the operations that later proofs cite: `laws`. Assumes nothing.
use Rattle.range.specs.Laws.{Laws}
use Rattle.range.proofs.Closure.{closure}
use Rattle.range.proofs.Symmetry.{symmetry}
use Rattle.range.proofs.Isotonicity.{isotonicity}

pub laws : Laws
laws = record { closure = closure; symmetry = symmetry; isotonicity = isotonicity }
