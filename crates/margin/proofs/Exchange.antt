-- Swapped references change no nearest edge: `exchange-edge`. It is told by ratings alone, and each of them is the same. Assumes nothing.
use mathlib.Core.Bool.{Bool}
use mathlib.Core.List.{List, [], ◌∷◌}
use mathlib.Core.Path.{◌≡◌, refl}
use Prim.Native.Nat.{ℕ}
use lib.IntN.{ℤ}
use Rattle.codelist.specs.declared.Codelist.{Codelist}
use Rattle.codelist.specs.Exchange.{Exchanged}
use Rattle.rules.proofs.Exchange.{exchange-rate}
use Rattle.margin.specs.Edge.{wider, moves, candidates, first_that, edge_of, edge_for}
use Rattle.margin.specs.Exchange.{ExchangeEdge}

-- tests that say the same find the same
first_alike : (P Q : ℕ → ℕ → Bool) → ((i w : ℕ) → P i w ≡ Q i w) → (ps : List (ℕ × ℕ)) → first_that P ps ≡ first_that Q ps
unfolding first_that
first_alike P Q h [] = refl
first_alike P Q h (p ∷ ps) = rw (h p.1 p.0, first_alike P Q h ps)

module _ {c d : Codelist} (h : Exchanged c d) (xs : List ℤ) (ceiling : ℤ) where
  moves-exchanged : (i w : ℕ) → moves c xs ceiling i w ≡ moves d xs ceiling i w
  unfolding moves
  moves-exchanged i w = rw (exchange-rate c d (wider xs i w) h)

  edge-exchanged : edge_of c xs ceiling ≡ edge_of d xs ceiling
  unfolding edge_of
  edge-exchanged = rw (first_alike (moves c xs ceiling) (moves d xs ceiling) moves-exchanged (candidates c.factors), h.factors)

pub exchange-edge : ExchangeEdge
unfolding edge_for
exchange-edge e f xs ceiling h = rw (exchange-rate e.codelist f.codelist xs h, edge-exchanged h xs ceiling)
