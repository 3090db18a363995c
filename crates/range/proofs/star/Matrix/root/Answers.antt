-- `range::star::Matrix::root` meets its contract. Assumes nothing.
use borrow.Author.Rules.{rules}
use mathlib.Core.Path.{ap}
use lib.IntN.{pos}
use Rattle.range.specs.Star.{star_root}
use Rattle.range.proofs.Roots.{root-read}
use Rattle.range.proofs.StarFits.{half-read, radicands}
use Rattle.range.proofs.star.Matrix.root.Goals as goal

pub overflow_mul-d : goal.overflow_mul-d
overflow_mul-d c = search (rules, radicands)

pub overflow_mul-self-2 : goal.overflow_mul-self-2
overflow_mul-self-2 c = search (rules, radicands)

pub overflow_add-d : goal.overflow_add-d
overflow_add-d c = search (rules, radicands)

pub overflow_cast-d : goal.overflow_cast-d
overflow_cast-d c =
    let x = c.args.self in
    rw (half-read x.a x.a_half, half-read x.b x.b_half, half-read x.m x.m_half) (search (rules, radicands))

pub root_up-requires : goal.root_up-requires
root_up-requires c = search (rules, radicands)

pub returns : goal.returns
unfolding star_root
returns c =
    let root = root-read c.root_up.result c.root_up.ensures.upper_bound in
    record { value = rw root (ap pos (search (rules, radicands, c.root_up.ensures.value))); result_bound = rw root c.root_up.ensures.upper_bound }
