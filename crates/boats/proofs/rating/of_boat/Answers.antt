-- `boats::rating::of_boat` meets its contract. Assumes nothing.
use borrow.Author.Rules.{rules}
use mathlib.Core.Path.{◌≡◌, ap, ◌∙◌}
use Prim.Native.Nat.{◌*◌}
use lib.ListN.{take}
use Rattle.std.specs.Prelude.{min}
use Rattle.engine.specs.Engine.{rated_of}
use Rattle.boats.specs.Boats.{boat_rating}
use Rattle.boats.proofs.Lists.{ranges-taken}
use Rattle.boats.proofs.rating.of_boat.Goals as goal

pub returns : goal.returns
unfolding boat_rating
returns c =
    let a = c.args in
    let end : c.min-end.result ≡ min (2 * a.engine.codelist.factors) 16 = c.min-end.ensures ∙ ap (λ n. min (2 * n) 16) c.from.ensures in
    c.rate.ensures
    ∙ ap (rated_of a.engine) (ap (take c.min-end.result) c.twice-ranges.ensures ∙ ranges-taken a.engine.codelist.factors a.boat (search rules) end)
