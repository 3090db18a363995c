-- 02, request 11: "so a deeper cut of the same ranges never widens a limit". Proved in proofs/Deeper.antt.
use Rattle.std.specs.Prelude.{◌≡◌, List, ℤ, pos, ◌≤ℤ◌}
use Rattle.rules.specs.declared.Limits.{Limits}
use Rattle.rules.specs.Isotone.{NarrowerLimits}
use Rattle.engine.specs.declared.Engine.{Engine}
use Rattle.engine.specs.InFull as engine
use Rattle.engine.specs.Engine.{rated_of}
use Rattle.bisection.specs.InFull.{Accepted}
use Rattle.bisection.specs.Cut.{cut_of}
use Rattle.bisection.specs.Promises.{IsDepth}

-- cut to the depth d the class is accepted, and no limit is wider than that of l
pub record NotWidened (e : Engine) (xs : List ℤ) (d : ℤ) (l : Limits) : Type 0 where
  pub accepted : (cut_of e xs d).outcome ≡ Accepted
  pub limits : NarrowerLimits (cut_of e xs d).limits l

-- of two depths the deeper one is not wider; a depth beyond 6 is refused, and so is one below 0, which the shallower is not
abbrev pub DeeperCut : Type 0
DeeperCut =
    (e : Engine) (xs : List ℤ) (k m : ℤ) → k ≤ℤ m → m ≤ℤ pos 6 → (cut_of e xs k).outcome ≡ Accepted → NotWidened e xs m (cut_of e xs k).limits

-- and none is wider than plain rating, which depth 0 is
abbrev pub CutInsidePlain : Type 0
CutInsidePlain =
    (e : Engine) (xs : List ℤ) (m : ℤ) → IsDepth m → (rated_of e xs).outcome ≡ engine.Accepted → NotWidened e xs m (rated_of e xs).limits
