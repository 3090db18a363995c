-- 02, request 11: "In plain rating, uncut, ranges inside accepted ranges, no low end above its high end, are accepted too, and each end they give lies
-- inside the wider one", of the engine's call. Proved in proofs/Isotone.antt.
use Rattle.std.specs.Prelude.{◌≡◌, List, ℤ}
use Rattle.rules.specs.Isotone.{InsideRanges, NarrowerLimits}
use Rattle.engine.specs.declared.Engine.{Engine}
use Rattle.engine.specs.InFull.{Accepted}
use Rattle.engine.specs.Engine.{rated_of}

pub record NarrowerRating (e : Engine) (xs ys : List ℤ) : Type 0 where
  pub accepted : (rated_of e xs).outcome ≡ Accepted
  pub limits : NarrowerLimits (rated_of e xs).limits (rated_of e ys).limits

abbrev pub IsotoneCall : Type 0
IsotoneCall =
    (e : Engine) (xs ys : List ℤ) → (rated_of e ys).outcome ≡ Accepted → InsideRanges e.codelist.factors xs ys → NarrowerRating e xs ys
