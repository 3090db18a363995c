-- `range::floor_div` meets its contract. Assumes nothing.
use Rattle.range.proofs.Shifting as Shifting
use Rattle.range.proofs.floor_div.Goals as goal

pub overflow_cast-result : goal.overflow_cast-result
overflow_cast-result c = Shifting.raised-unsigned c.requires

pub overflow_cast-result-3 : goal.overflow_cast-result-3
overflow_cast-result-3 c = Shifting.floor-quotient-fits c.requires

pub overflow_sub-result : goal.overflow_sub-result
overflow_sub-result c = Shifting.floor-fits c.requires

pub returns : goal.returns
returns c = Shifting.floor-made c.requires
