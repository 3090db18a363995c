-- The coordinates of the boats' points: a boat's values, as numbers of units. Assumes nothing.
use mathlib.Core.Path.{◌≡◌, ap, ◌∙◌}
use mathlib.Core.List.{List, map}
use Prim.Native.Nat.{ℕ, ◌<◌}
use lib.IntN.{ℤ, pos}
use lib.ListN.{get_or, take, drop, get_or-map}
use lib.Seq.{get_or-take, get_or-drop}
use Rattle.exact.specs.Units.{units}
use Rattle.exact.proofs.Units.{units-0}
use Rattle.rules.specs.Exact.{coordinate}
use Rattle.increments.specs.Call.{first, second}
use Rattle.increments.specs.Promises.{one, other}

coordinate-is : (bs : List ℤ) (a : ℕ) → coordinate (map units bs) a ≡ units (get_or bs a (pos 0))
coordinate-is bs a = rw units-0 at (get_or-map units bs a (pos 0))

pub one_at : (n : ℕ) (bs : List ℤ) (a : ℕ) → a < n → coordinate (one n bs) a ≡ units (first bs a)
one_at n bs a l = coordinate-is (take n bs) a ∙ ap units (get_or-take n bs a (pos 0) l)

pub other_at : (n : ℕ) (bs : List ℤ) (a : ℕ) → coordinate (other n bs) a ≡ units (second n bs a)
other_at n bs a = coordinate-is (drop n bs) a ∙ ap units (get_or-drop n bs a (pos 0))
