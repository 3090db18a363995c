-- v'Hv of each operation's second derivative, in any commutative ring: what the rules for spectra bound. Assumes nothing.
use mathlib.Core.Path.{◌≡◌, ◌∙◌, ap, ap₂}
use Prim.Native.Nat.{ℕ}
use Rattle.algebra.proofs.Ring.{CommRing}
use Rattle.algebra.proofs.Solver.{lit, ◌:+◌, ◌:*◌, ◌:-◌, :-◌, ◌:=◌, ring}
use Rattle.algebra.proofs.Form as Form

module _ {R : Type 0} (𝓡 : CommRing R) (n : ℕ) where
  infixl 65 ◌+◌
  infixl 65 ◌-◌
  infixl 70 ◌*◌
  open 𝓡 use {add as ◌+◌, mul as ◌*◌, neg, num}

  abbrev ◌-◌ : R → R → R
  a - b = a + neg b

  abbrev form : (ℕ → ℕ → R) → (ℕ → R) → R
  form = Form.form 𝓡 n

  abbrev dot : (ℕ → R) → (ℕ → R) → R
  dot = Form.dot 𝓡 n

  -- k·H + l·gg'
  rank-form : (k l : R) (H : ℕ → ℕ → R) (g v : ℕ → R) → form (λ a b. k * H a b + l * (g a * g b)) v ≡ k * form H v + l * (dot v g * dot v g)
  rank-form k l H g v =
      Form.form-add 𝓡 n (λ a b. k * H a b) (λ a b. l * (g a * g b)) v
      ∙ ap₂ ◌+◌ (Form.form-scale 𝓡 n k H v) (Form.form-scale 𝓡 n l (λ a b. g a * g b) v ∙ ap (l *◌) (Form.form-outer 𝓡 n g g v))

  -- x·K + y·H + gh' + hg'
  pub mul-form : (x y : R) (H K : ℕ → ℕ → R) (g h v : ℕ → R) → form (λ a b. x * K a b + y * H a b + g a * h b + g b * h a) v
      ≡ num 2 * dot v g * dot v h + (y * form H v + x * form K v)
  mul-form x y H K g h v =
      Form.form-add 𝓡 n (λ a b. x * K a b + y * H a b + g a * h b) (λ a b. g b * h a) v
      ∙ ap₂ ◌+◌
      (Form.form-add 𝓡 n (λ a b. x * K a b + y * H a b) (λ a b. g a * h b) v
      ∙ ap₂ ◌+◌
      (Form.form-add 𝓡 n (λ a b. x * K a b) (λ a b. y * H a b) v ∙ ap₂ ◌+◌ (Form.form-scale 𝓡 n x K v) (Form.form-scale 𝓡 n y H v))
      (Form.form-outer 𝓡 n g h v))
      (Form.form-ext 𝓡 n v (λ a b. 𝓡.mul_comm (g b) (h a)) ∙ Form.form-outer 𝓡 n h g v)
      ∙ ring 𝓡 4 (λ k h g d. k :+ h :+ g :* d :+ d :* g := lit 2 :* g :* d :+ (h :+ k)) tt (x * form K v) (y * form H v) (dot v g) (dot v h)

  -- m·x^(m−1)·H + m(m−1)·x^(m−2)·gg', where p is x^(m−2), q is x^(m−1), l is m − 1 and k is m(m−1)
  pub pow-form : (m l k x p q : R) (H : ℕ → ℕ → R) (g v : ℕ → R) → q ≡ x * p → k ≡ m * l
      → form (λ a b. m * q * H a b + k * p * g a * g b) v ≡ m * (p * (l * (dot v g * dot v g) + x * form H v))
  pow-form m l k x p q H g v e f =
      Form.form-ext 𝓡 n v (λ a b. ap (m * q * H a b +◌) (𝓡.mul_assoc (k * p) (g a) (g b)))
      ∙ rank-form (m * q) (k * p) H g v
      ∙ ap₂ (λ q k. m * q * form H v + k * p * (dot v g * dot v g)) e f
      ∙ ring 𝓡 6
      (λ m x p l h d. m :* (x :* p) :* h :+ m :* l :* p :* d := m :* (p :* (l :* d :+ x :* h)))
      tt m x p l (form H v) (dot v g * dot v g)

  -- 2·gg'·y³ − H·y², where s is y² and c is y³
  pub inv-form : (y s c : R) (H : ℕ → ℕ → R) (g v : ℕ → R) → c ≡ y * s
      → form (λ a b. num 2 * g a * g b * c - H a b * s) v ≡ s * (num 2 * (y * (dot v g * dot v g)) - form H v)
  inv-form y s c H g v e =
      Form.form-ext 𝓡 n v (λ a b.
      ring 𝓡 5 (λ s c h g k. lit 2 :* g :* k :* c :- h :* s := :- s :* h :+ lit 2 :* c :* (g :* k)) tt s c (H a b) (g a) (g b))
      ∙ rank-form (neg s) (num 2 * c) H g v
      ∙ ap (λ c. neg s * form H v + num 2 * c * (dot v g * dot v g)) e
      ∙ ring 𝓡 4
      (λ y s h d. :- s :* h :+ lit 2 :* (y :* s) :* d := s :* (lit 2 :* (y :* d) :- h))
      tt y s (form H v) (dot v g * dot v g)
