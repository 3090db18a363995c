-- `bounds::spectrum::are_singles` meets its contract. Assumes nothing.
use Rattle.bounds.proofs.spectrum.are_singles.Goals as goal

pub returns : goal.returns
returns c = rw (c.is_single.ensures, c.is_single-2.ensures, c.are_apart.ensures)
