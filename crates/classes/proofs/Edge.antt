-- The nearest edge by class number: `class-edges`. Assumes nothing.
use Prim.Native.Nat.{ℕ}
use mathlib.Core.Bool.{cond}
use mathlib.Core.List.{Memᴰ}
use mathlib.Core.Path.{◌≡◌, refl, ap}
use native.Mathlib.Omega.{arith}
use Rattle.engine.specs.declared.Engine.{Engine}
use Rattle.margin.specs.InFull as margin
use Rattle.margin.specs.Edge.{edge_numbers, edge_for}
use Rattle.margin.proofs.Exchange.{exchange-edge}
use Rattle.margin.proofs.Numbered.{numbered}
use Rattle.classes.specs.declared.Refusal.{Refusal}
use Rattle.classes.specs.declared.Refusal.TheVariants as refusal
use Rattle.classes.specs.InFull.{Refused}
use Rattle.classes.specs.Classes.{is_class, engine_at}
use Rattle.classes.specs.Calls.{number_of, edge_answer, unknown_edge, class_edge}
use Rattle.classes.specs.Edge.{edge_outcome, ClassEdges}
use Rattle.classes.proofs.Apart.{apart}
use Rattle.classes.proofs.Called.{edge}
use Rattle.classes.proofs.Exchange.{same_if}
use Rattle.classes.proofs.Outcomes.{not-both, Own, unknown-if, numbers-if}

edge-own : (x : margin.Edge) → Own (edge_outcome (edge_answer x))
edge-own (margin.Widen i w) h = not-both h
edge-own margin.Nowhere h = not-both h
edge-own (margin.Refused r) h = let z : ◌≡◌ {A = ℕ} 0 1 = cc in omega arith

edge-numbers : (x : margin.Edge) (r : Refusal) → edge_outcome (edge_answer x) ≡ Refused r → Memᴰ (number_of r) edge_numbers
edge-numbers (margin.Widen i w) r h = not-both h
edge-numbers margin.Nowhere r h = not-both h
edge-numbers (margin.Refused q) r h = let e : refusal.Edge q ≡ r = cc in rw (← e) (numbered q)

pub class-edges : ClassEdges
unfolding class_edge
class-edges = record {
  edge = λ d k xs ceiling c. edge d k c xs ceiling;
  unknown = λ d k xs ceiling.
      let x = edge_for (engine_at d k) xs ceiling in unknown-if edge_outcome (edge_answer x) unknown_edge refl (is_class k) (edge-own x);
  numbers = λ d k xs ceiling.
      let x = edge_for (engine_at d k) xs ceiling in numbers-if edge_outcome (edge_answer x) unknown_edge refl (is_class k) edge_numbers (edge-numbers x);
  others = λ d l j n xs ceiling.
      ap (λ (e : Engine). cond (is_class j) (edge_answer (edge_for e xs ceiling)) unknown_edge) (apart.others d l j n).engine;
  exchanged = λ d f k xs ceiling h. same_if edge_answer unknown_edge (is_class k) (λ c. exchange-edge (engine_at d k) (engine_at f k) xs ceiling (h k c));
}
