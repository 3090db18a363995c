-- `range::ceil_div` meets its contract. Assumes nothing.
use Rattle.range.proofs.Shifting as Shifting
use Rattle.range.proofs.ceil_div.Goals as goal

pub overflow_add-result-2 : goal.overflow_add-result-2
overflow_add-result-2 c = Shifting.more-fits c.requires

pub overflow_cast-result : goal.overflow_cast-result
overflow_cast-result c = Shifting.more-unsigned c.requires

pub overflow_cast-result-3 : goal.overflow_cast-result-3
overflow_cast-result-3 c = Shifting.ceil-quotient-fits c.requires

pub overflow_sub-result-2 : goal.overflow_sub-result-2
overflow_sub-result-2 c = Shifting.ceil-fits c.requires

pub returns : goal.returns
returns c = Shifting.ceil-made c.requires
