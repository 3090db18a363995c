-- What falls in the recursion is the depth.
use Rattle.bisection.proofs.parts.+parts.Given as goal

abbrev pub decreases-parts : goal.decreases-parts
decreases-parts l = l.depth
