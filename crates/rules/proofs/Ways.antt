-- The straight way between two points, a line segment: the point at each moment, which is inside where both are, and the premium there, which
-- depends on the factors' coordinates alone. Assumes nothing.
use mathlib.Core.Path.{◌≡◌, refl, sym, ◌∙◌, ap, ap₂}
use mathlib.Core.List.{List, [], ◌∷◌}
use mathlib.Core.Option.{some}
use Prim.Native.Nat.{ℕ, zero, suc, ◌+◌, ◌<◌}
use native.Mathlib.Nat as N
use native.Mathlib.Omega.{arith}
use lib.IntN.{ℤ}
use Rattle.algebra.proofs.Ordered as Ord
use Rattle.algebra.proofs.Solver.{:0, :1, ◌:+◌, ◌:*◌, ◌:-◌, ◌:=◌, ring}
use Rattle.algebra.proofs.Linear.{◌:≤◌, ◌⇒◌, ⊢◌, linarith}
use Rattle.algebra.proofs.Moments.{Moment}
use Rattle.codelist.specs.declared.Codelist.{Codelist}
use Rattle.exact.proofs.Rat.{ℚ, ◌+ℚ◌, ◌-ℚ◌, ◌*ℚ◌, ◌≤ℚ◌, 0ℚ, 1ℚ, ℚ-ring, ℚ-ordered}
use Rattle.rules.specs.Run.{operations}
use Rattle.rules.specs.Exact.{Point, coordinate, factor_jet, factor_jets, exact_ops, exact_lines, last_jet, premium_of}
use Rattle.rules.specs.Promises.{Inside}
use Rattle.rules.specs.Sisters.{difference}

-- f i, .., f (i + n − 1)
unfoldable tabulated : (ℕ → ℚ) → ℕ → ℕ → Point
tabulated f i zero = []
tabulated f i (suc n) = f i ∷ tabulated f (suc i) n

tabulated-at : (f : ℕ → ℚ) (i n a : ℕ) → a < n → coordinate (tabulated f i n) a ≡ f (i + a)
unfolding tabulated
tabulated-at f i zero a h = let g : ⊥ = omega arith in absurd g
tabulated-at f i (suc n) zero h = ap f (omega arith)
tabulated-at f i (suc n) (suc a) h = tabulated-at f (suc i) n a (N.le_of_suc-le-suc h) ∙ ap f (omega arith)

-- ---- the way
pub way : ℕ → Point → Point → ℚ → Point
way n p q τ = tabulated (λ a. coordinate p a +ℚ τ *ℚ difference p q a) 0 n

pub way_at : (n : ℕ) (p q : Point) (τ : ℚ) (a : ℕ) → a < n → coordinate (way n p q τ) a ≡ coordinate p a +ℚ τ *ℚ difference p q a
unfolding way
way_at n p q τ a h =
    tabulated-at (λ a. coordinate p a +ℚ τ *ℚ difference p q a) 0 n a h ∙ ap (λ a. coordinate p a +ℚ τ *ℚ difference p q a) (N.zero-add a)

-- a number on the way between two numbers is between what they are
on-the-way : {l h x y : ℚ} (τ : ℚ) → Moment ℚ-ordered τ → l ≤ℚ x → x ≤ℚ h → l ≤ℚ y → y ≤ℚ h
    → (l ≤ℚ x +ℚ τ *ℚ (y -ℚ x)) × (x +ℚ τ *ℚ (y -ℚ x) ≤ℚ h)
on-the-way {l} {h} {x} {y} τ m lx xh ly yh = (
  linarith ℚ-ordered 4
      (λ t x y l. (:1 :- t) :* l :≤ (:1 :- t) :* x ⇒ t :* l :≤ t :* y ⇒ ⊢ l :≤ x :+ t :* (y :- x)) tt τ x y l
      (Ord.mul-le-left ℚ-ordered rest lx) (Ord.mul-le-left ℚ-ordered m.low ly),
  linarith ℚ-ordered 4
      (λ t x y h. (:1 :- t) :* x :≤ (:1 :- t) :* h ⇒ t :* y :≤ t :* h ⇒ ⊢ x :+ t :* (y :- x) :≤ h) tt τ x y h
      (Ord.mul-le-left ℚ-ordered rest xh) (Ord.mul-le-left ℚ-ordered m.low yh),
)
  where
    rest : 0ℚ ≤ℚ 1ℚ -ℚ τ
    rest = Ord.sub-nonneg ℚ-ordered m.high

module _ {c : Codelist} {xs : List ℤ} {p q : Point} (i : Inside c xs p) (j : Inside c xs q) where
  pub way-inside : (τ : ℚ) → Moment ℚ-ordered τ → Inside c xs (way c.factors p q τ)
  way-inside τ m = record {
    each = λ a k.
        let (l, h) = on-the-way τ m (i.each a k).low (i.each a k).high (j.each a k).low (j.each a k).high in
        rw (way_at c.factors p q τ a k) (record { low = l; high = h });
  }

-- ---- the premium
module _ (x y : Point) where
  same-factors : (i n : ℕ) → ((a : ℕ) → a < n → coordinate x (i + a) ≡ coordinate y (i + a)) → factor_jets x i n ≡ factor_jets y i n
  unfolding factor_jets factor_jet
  same-factors i zero e = refl
  same-factors i (suc n) e =
      ap₂ (λ v js. some (record { value = v; first = (factor_jet x i).first; second = (factor_jet x i).second }) ∷ js)
      (rw (N.add-zero i) at (e 0 (omega arith)))
      (same-factors (suc i) n (λ a k. let h : suc i + a ≡ i + suc a = omega arith in rw h (e (suc a) (omega arith))))

  same-premium : (c : Codelist) → ((a : ℕ) → a < c.factors → coordinate x a ≡ coordinate y a) → premium_of c x ≡ premium_of c y
  unfolding premium_of exact_lines
  same-premium c e =
      ap (λ js. last_jet (exact_ops (operations c) js)) (same-factors 0 c.factors (λ a k. rw (N.zero-add a) (e a k)))

-- at both ends of the way
module _ (c : Codelist) (p q : Point) where
  pub premium-start : premium_of c p ≡ premium_of c (way c.factors p q 0ℚ)
  premium-start =
      same-premium p (way c.factors p q 0ℚ) c (λ a k.
      sym (way_at c.factors p q 0ℚ a k ∙ ring ℚ-ring 2 (λ x y. x :+ :0 :* (y :- x) := x) tt (coordinate p a) (coordinate q a)))

  pub premium-end : premium_of c q ≡ premium_of c (way c.factors p q 1ℚ)
  premium-end =
      same-premium q (way c.factors p q 1ℚ) c (λ a k.
      sym (way_at c.factors p q 1ℚ a k ∙ ring ℚ-ring 2 (λ x y. x :+ :1 :* (y :- x) := y) tt (coordinate p a) (coordinate q a)))
