-- Worked examples of the two solvers.
use mathlib.Core.Path.{◌≡◌}
use Rattle.algebra.proofs.Ordered.{OrderedRing, lt}
use Rattle.algebra.proofs.Solver.{lit, :0, :1, ◌:+◌, ◌:*◌, :-◌, ◌:=◌, ring}
use Rattle.algebra.proofs.Linear.{◌:≤◌, ◌:<◌, :⊥, ◌⇒◌, ⊢◌, linarith}

module _ {R : Type 0} (𝓞 : OrderedRing R) where
  infix 50 ◌≤◌
  infix 50 ◌<◌
  infixl 65 ◌+◌
  infixl 70 ◌*◌
  open 𝓞 use {comm_ring as 𝓡, le as ◌≤◌}
  open 𝓞.comm_ring use {add as ◌+◌, mul as ◌*◌, neg, 𝟘, 𝟙, num}

  abbrev ◌<◌ : R → R → Type 0
  a < b = lt 𝓞 a b

  -- ── ring
  square : (a b : R) → (a + b) * (a + b) ≡ a * a + num 2 * (a * b) + b * b
  square = ring 𝓡 2 (λ a b. (a :+ b) :* (a :+ b) := a :* a :+ lit 2 :* (a :* b) :+ b :* b) tt

  -- ── linarith
  chain : (a b c : R) → a ≤ b → b + b ≤ c + c → a ≤ c
  chain = linarith 𝓞 3 (λ a b c. a :≤ b ⇒ b :+ b :≤ c :+ c ⇒ ⊢ a :≤ c) tt

  -- hypotheses that contradict one another prove anything
  contrary : (x y : R) → x + 𝟙 ≤ y → y ≤ x → x * x ≤ neg 𝟙
  contrary = linarith 𝓞 2 (λ x y. x :+ :1 :≤ y ⇒ y :≤ x ⇒ ⊢ x :* x :≤ :- :1) tt

  -- strict claims
  below : (x y z : R) → x < y → y + y ≤ z + x → x < z
  below = linarith 𝓞 3 (λ x y z. x :< y ⇒ y :+ y :≤ z :+ x ⇒ ⊢ x :< z) tt

  apart : (x y : R) → x * y < 𝟘 → 𝟙 ≤ x * y → ⊥
  apart = linarith 𝓞 2 (λ x y. x :* y :< :0 ⇒ :1 :≤ x :* y ⇒ ⊢ :⊥) tt
