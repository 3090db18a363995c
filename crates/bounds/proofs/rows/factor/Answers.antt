-- `bounds::rows::factor` meets its contract. Assumes nothing.
use Rattle.bounds.proofs.Factors.{one-valid, factor-placed, factor-worked}
use Rattle.bounds.proofs.Validity.{zero-valid}
use Rattle.bounds.proofs.rows.factor.Goals as goal

pub put_slope-requires-clause-r_value : goal.put_slope-requires-clause-r_value
put_slope-requires-clause-r_value c = one-valid

pub put_head-requires-clause-spectrum : goal.put_head-requires-clause-spectrum
put_head-requires-clause-spectrum c = zero-valid

pub returns : goal.returns
returns c =
    factor-worked c.args.b c.args.a c.requires.a_bound c.args.r c.requires.r_value
    (factor-placed c.args.b c.args.a c.args.r c.requires.a_bound _ _ _ c.requires.blank c.put_slope.ensures.slopes c.put_slope.ensures.beside
    c.put_head.ensures)
