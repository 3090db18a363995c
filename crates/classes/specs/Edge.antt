-- The nearest edge by class number (02, request 14, of the classes of request 13): 21 before everything else, then what `NearestEdge` of margin says of the class's
-- engine. Statements; the proof is in proofs/Edge.antt.
use Rattle.std.specs.Prelude.{true, ◌≡◌, ℕ, ℤ}
use mathlib.Core.List.{List, Memᴰ}
use Rattle.margin.specs.Edge.{edge_for}
use Rattle.classes.specs.declared.Classes.{Classes}
use Rattle.classes.specs.declared.Refusal.{Refusal}
use Rattle.classes.specs.InFull.{Outcome, Accepted, Refused}
use Rattle.classes.specs.EdgeInFull.{ClassEdge}
use Rattle.classes.specs.EdgeInFull as edge
use Rattle.classes.specs.Classes.{is_class, engine_at}
use Rattle.classes.specs.Calls.{number_of, class_edge_numbers, edge_answer, class_edge}
use Rattle.classes.specs.Apart.{ClassLoad, class_of, after}
use Rattle.classes.specs.Demands.{UnknownClass}
use Rattle.classes.specs.Exchange.{ExchangedClasses}

-- whether an answer is a refusal
abbrev pub edge_outcome : ClassEdge → Outcome
edge_outcome (edge.Widen i w) = Accepted
edge_outcome edge.Nowhere = Accepted
edge_outcome (edge.Refused r) = Refused r

pub record ClassEdges : Type 0 where
  -- the answer is that of the class's engine: so what is promised of it holds class by class
  pub edge : (d : Classes) (k : ℕ) (xs : List ℤ) (ceiling : ℤ) → is_class k ≡ true → class_edge d k xs ceiling ≡ edge_answer (edge_for (engine_at d k) xs ceiling)
  -- "a class number outside 1 to 4 gets 21 with place 0, before everything else"
  pub unknown : (d : Classes) (k : ℕ) (xs : List ℤ) (ceiling : ℤ) → UnknownClass k (edge_outcome (class_edge d k xs ceiling))
  pub numbers : (d : Classes) (k : ℕ) (xs : List ℤ) (ceiling : ℤ) (r : Refusal) → edge_outcome (class_edge d k xs ceiling) ≡ Refused r
      → Memᴰ (number_of r) class_edge_numbers
  -- "Loading one class, accepted or refused, leaves the other three and every result for them as they were."
  pub others : (d : Classes) (l : ClassLoad) (j : ℕ) → ¬ (j ≡ class_of l) → (xs : List ℤ) (ceiling : ℤ)
      → class_edge (after d l) j xs ceiling ≡ class_edge d j xs ceiling
  -- "Swapping the two references of any `add` or `mul` changes no field of any result, and no number or place of a refusal" (request 11)
  pub exchanged : (d f : Classes) (k : ℕ) (xs : List ℤ) (ceiling : ℤ) → ExchangedClasses d f → class_edge d k xs ceiling ≡ class_edge f k xs ceiling
