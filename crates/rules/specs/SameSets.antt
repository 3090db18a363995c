-- The sets of an accepted rating are the codelist's own: 01's table works them out from the sets of the lines that a row refers to, and from
-- no range. Proved in proofs/SameSets.antt.
use Rattle.std.specs.Prelude.{◌≡◌, List, ℤ}
use Rattle.codelist.specs.declared.Codelist.{Codelist}
use Rattle.rules.specs.declared.Limits.{Limits}
use Rattle.rules.specs.Rate.{rated, rate_of}

-- the depends-on set and the bent set
pub record SameSets (l m : Limits) : Type 0 where
  pub support : l.support ≡ m.support
  pub nonlinear : l.nonlinear ≡ m.nonlinear

-- two accepted ratings of one codelist, on any ranges
abbrev pub SameSetsRating : Type 0
SameSetsRating = (c : Codelist) (xs ys : List ℤ) (l m : Limits) → rate_of c xs ≡ rated l → rate_of c ys ≡ rated m → SameSets l m
