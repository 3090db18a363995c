-- Linear arithmetic in any ordered ring: a claim that follows linearly from others is proved by `tt`.
--     chain : (a b c : R) → a ≤ b → b + b ≤ c + c → a ≤ c
--     chain = linarith 𝓞 3 (λ a b c. a :≤ b ⇒ b :+ b :≤ c :+ c ⇒ ⊢ a :≤ c) tt
-- A claim is `a :≤ b`, `a :< b` (where `lt 𝓞 a b`), `a :≡ b` or, as a goal of hypotheses that contradict one another, `:⊥`.
-- A product of variables counts as one unknown, so a nonlinear fact serves as one more hypothesis.
-- How it goes: `find` looks for numbers K ≥ 1, kᵢ ≥ 0, c ≥ 0 with K·(b − a) = Σ kᵢ·(bᵢ − aᵢ) + c (`Search.antt`).
-- What it finds is checked as an identity of polynomials (`Verified`), from which the claim follows (`verified`).
use mathlib.Core.Path.{◌≡◌, sym, ◌∙◌, ap, ap₂}
use mathlib.Core.Bool.{Bool, true, false}
use mathlib.Core.List.{List, [], ◌∷◌}
use Prim.Native.Nat.{ℕ, zero, suc}
use lib.Dec.{T}
use Rattle.algebra.proofs.Ring as Ring
use Rattle.algebra.proofs.Poly.{Poly, con, zero_p, add_p, neg_p, mul_p, Term, lead, Vanishes}
use Rattle.algebra.proofs.Poly.{val, val-add, val-neg, val-mul, val-num, val-zero}
use Rattle.algebra.proofs.Solver.{Expr, Over, named, All, everywhere, poly, eval, val-poly, :0, :1, ◌:-◌, :-◌, ◌:=◌, ring}
use Rattle.algebra.proofs.Ordered as Ord
use Rattle.algebra.proofs.Ordered.{OrderedRing}
use Rattle.algebra.proofs.Search.{Fact, weak, strict, poly_of, bites, bites_or, Found, none, combo, clash, find}

infix 60 ◌:≤◌
infix 60 ◌:<◌
infix 60 ◌:≡◌
infixr 55 ◌⇒◌
infix 56 ⊢◌
pub data Claim : Type 0 where
  ◌:≤◌ : Expr → Expr → Claim
  ◌:<◌ : Expr → Expr → Claim
  ◌:≡◌ : Expr → Expr → Claim
  :⊥ : Claim

pub data Sequent : Type 0 where
  ◌⇒◌ : Claim → Sequent → Sequent
  ⊢◌ : Claim → Sequent

-- ── the check
-- Σ ks·facts
abbrev pub combine : List ℕ → List Fact → Poly
combine [] Γ = zero_p
combine (k ∷ ks) [] = zero_p
combine (k ∷ ks) (p ∷ Γ) = add_p (mul_p (con k 0) (poly_of p)) (combine ks Γ)

-- no combination of the facts was found
pub data NotFound : Type 0 where

abbrev pub VanishesIf : Bool → Term → Type 0
VanishesIf true t = Vanishes t
VanishesIf false t = NotFound

abbrev pub Verified : Found → Poly → List Fact → Type 0
Verified none g Γ = NotFound
Verified (combo k ks c) g Γ = Vanishes (lead (add_p (mul_p (con (suc k) 0) g) (neg_p (add_p (combine ks Γ) (con c 0)))) 1 0)
Verified (clash ks c) g Γ = VanishesIf (bites_or ks Γ c) (lead (add_p (combine ks Γ) (con c 0)) 1 0)

abbrev pub Reached : Poly → List Fact → Type 0
Reached g Γ = Verified (find g Γ) g Γ

abbrev diff : Expr → Expr → Poly
diff l r = add_p (poly r) (neg_p (poly l))

abbrev minus_one : Poly
minus_one = con 0 1

-- what each claim gives
abbrev assume : Claim → List Fact → List Fact
assume (l :≤ r) Γ = weak (diff l r) ∷ Γ
assume (l :< r) Γ = strict (diff l r) ∷ Γ
assume (l :≡ r) Γ = weak (diff l r) ∷ weak (diff r l) ∷ Γ
assume :⊥ Γ = weak minus_one ∷ Γ

abbrev Goal : Claim → List Fact → Type 0
Goal (l :≤ r) Γ = Reached (diff l r) Γ
Goal (l :< r) Γ = Reached minus_one (weak (diff r l) ∷ Γ)
Goal (l :≡ r) Γ = Reached (diff l r) Γ × Reached (diff r l) Γ
Goal :⊥ Γ = Reached minus_one Γ

-- that a sequent follows linearly, proved by `tt`, and by `(tt, tt)` where the goal is an equation
abbrev pub Follows : List Fact → Sequent → Type 0
Follows Γ (c ⇒ s) = Follows (assume c Γ) s
Follows Γ (⊢ c) = Goal c Γ

-- ── what is checked holds
module _ {R : Type 0} (𝓞 : OrderedRing R) where
  infix 50 ◌≤◌
  infix 50 ◌<◌
  infixl 65 ◌+◌
  infixl 65 ◌-◌
  infixl 70 ◌*◌
  open 𝓞 use {comm_ring as 𝓡, le as ◌≤◌, le_refl, le_trans, le_antisym, le_total, mul-nonneg}
  open 𝓞.comm_ring use {add as ◌+◌, mul as ◌*◌, neg, 𝟘, 𝟙, num}

  abbrev ◌-◌ : R → R → R
  a - b = a + neg b

  abbrev ◌<◌ : R → R → Type 0
  a < b = Ord.lt 𝓞 a b

  abbrev pub Says : List R → Claim → Type 0
  Says ρ (l :≤ r) = eval 𝓡 ρ l ≤ eval 𝓡 ρ r
  Says ρ (l :< r) = eval 𝓡 ρ l < eval 𝓡 ρ r
  Says ρ (l :≡ r) = eval 𝓡 ρ l ≡ eval 𝓡 ρ r
  Says ρ :⊥ = ⊥

  abbrev pub Holds : List R → Sequent → Type 0
  Holds ρ (c ⇒ s) = Says ρ c → Holds ρ s
  Holds ρ (⊢ c) = Says ρ c

  -- every fact holds
  abbrev Is : List R → Fact → Type 0
  Is ρ (weak p) = 𝟘 ≤ val 𝓡 p ρ
  Is ρ (strict p) = 𝟘 < val 𝓡 p ρ

  abbrev Facts : List R → List Fact → Type 0
  Facts ρ [] = Unit {0}
  Facts ρ (p ∷ Γ) = Is ρ p × Facts ρ Γ

  nonneg : (p : Fact) (ρ : List R) → Is ρ p → 𝟘 ≤ val 𝓡 (poly_of p) ρ
  nonneg (weak p) ρ h = h
  nonneg (strict p) ρ h = Ord.le_of_lt 𝓞 h

  val-const : (n : ℕ) (ρ : List R) → 𝟘 ≤ val 𝓡 (con n 0) ρ
  val-const n ρ = Ord.le-eq 𝓞 (Ord.num-nonneg 𝓞 n) (sym (val-num 𝓡 n ρ))

  val-const-pos : (n : ℕ) (ρ : List R) → 𝟘 < val 𝓡 (con (suc n) 0) ρ
  val-const-pos n ρ = Ord.lt-le-trans 𝓞 (Ord.num_pos 𝓞 n) (Ord.le_of_eq 𝓞 (sym (val-num 𝓡 (suc n) ρ)))

  times-nonneg : (k : ℕ) (p : Fact) (ρ : List R) → Is ρ p → 𝟘 ≤ val 𝓡 (mul_p (con k 0) (poly_of p)) ρ
  times-nonneg k p ρ h = Ord.le-eq 𝓞 (mul-nonneg (val-const k ρ) (nonneg p ρ h)) (sym (val-mul 𝓡 (con k 0) (poly_of p) ρ))

  times-pos : (k : ℕ) (p : Poly) (ρ : List R) → 𝟘 < val 𝓡 p ρ → 𝟘 < val 𝓡 (mul_p (con (suc k) 0) p) ρ
  times-pos k p ρ h =
      Ord.lt-le-trans 𝓞 (Ord.mul-pos 𝓞 (val-const-pos k ρ) h) (Ord.le_of_eq 𝓞 (sym (val-mul 𝓡 (con (suc k) 0) p ρ)))

  combine-nonneg : (ks : List ℕ) (Γ : List Fact) (ρ : List R) → Facts ρ Γ → 𝟘 ≤ val 𝓡 (combine ks Γ) ρ
  combine-nonneg [] Γ ρ F = val-const 0 ρ
  combine-nonneg (k ∷ ks) [] ρ F = val-const 0 ρ
  combine-nonneg (k ∷ ks) (p ∷ Γ) ρ F =
      Ord.le-eq 𝓞
      (Ord.add-nonneg 𝓞 (times-nonneg k p ρ F.0) (combine-nonneg ks Γ ρ F.1))
      (sym (val-add 𝓡 (mul_p (con k 0) (poly_of p)) (combine ks Γ) ρ))

  -- one more fact in a sum that is positive
  more : (k : ℕ) (p : Fact) (ks : List ℕ) (Γ : List Fact) (ρ : List R) → Is ρ p → 𝟘 < val 𝓡 (combine ks Γ) ρ
      → 𝟘 < val 𝓡 (combine (k ∷ ks) (p ∷ Γ)) ρ
  more k p ks Γ ρ h i =
      Ord.lt-le-trans 𝓞
      (Ord.add-pos-right 𝓞 (times-nonneg k p ρ h) i)
      (Ord.le_of_eq 𝓞 (sym (val-add 𝓡 (mul_p (con k 0) (poly_of p)) (combine ks Γ) ρ)))

  combine-pos : (ks : List ℕ) (Γ : List Fact) (ρ : List R) → T (bites ks Γ) → Facts ρ Γ → 𝟘 < val 𝓡 (combine ks Γ) ρ
  combine-pos [] Γ ρ t F = absurd t
  combine-pos (k ∷ ks) [] ρ t F = absurd t
  combine-pos (k ∷ ks) (weak p ∷ Γ) ρ t F = more k (weak p) ks Γ ρ F.0 (combine-pos ks Γ ρ t F.1)
  combine-pos (zero ∷ ks) (strict p ∷ Γ) ρ t F = more 0 (strict p) ks Γ ρ F.0 (combine-pos ks Γ ρ t F.1)
  combine-pos (suc k ∷ ks) (strict p ∷ Γ) ρ t F =
      Ord.lt-le-trans 𝓞
      (Ord.add-pos-left 𝓞 (times-pos k p ρ F.0) (combine-nonneg ks Γ ρ F.1))
      (Ord.le_of_eq 𝓞 (sym (val-add 𝓡 (mul_p (con (suc k) 0) p) (combine ks Γ) ρ)))

  -- the sum with c is positive where it bites
  sum-pos : (ks : List ℕ) (Γ : List Fact) (c : ℕ) (ρ : List R) → T (bites_or ks Γ c) → Facts ρ Γ
      → 𝟘 < val 𝓡 (combine ks Γ) ρ + val 𝓡 (con c 0) ρ
  sum-pos ks Γ zero ρ t F = Ord.add-pos-left 𝓞 (combine-pos ks Γ ρ t F) (val-const 0 ρ)
  sum-pos ks Γ (suc c) ρ t F = Ord.add-pos-right 𝓞 (combine-nonneg ks Γ ρ F) (val-const-pos c ρ)

  -- a positive number's multiple is nonnegative only where the value is
  cancel : (k : ℕ) (x : R) → 𝟘 ≤ num (suc k) * x → 𝟘 ≤ x
  cancel k x h = Ord.mul-cancel 𝓞 (Ord.num_pos 𝓞 k) (Ord.eq-le 𝓞 (Ring.mul-zero 𝓡 (num (suc k))) h)

  split-if : (b : Bool) (t : Term) → VanishesIf b t → T b × Vanishes t
  split-if true t v = (tt, v)
  split-if false t v = elim v [ ]

  verified : (f : Found) (g : Poly) (Γ : List Fact) (ρ : List R) → Verified f g Γ → Facts ρ Γ → 𝟘 ≤ val 𝓡 g ρ
  verified none g Γ ρ v F = elim v [ ]
  verified (combo k ks c) g Γ ρ v F =
      let s = add_p (combine ks Γ) (con c 0) in
      let e : val 𝓡 (con (suc k) 0) ρ * val 𝓡 g ρ - val 𝓡 s ρ ≡ 𝟘 =
      ap₂ ◌+◌ (sym (val-mul 𝓡 (con (suc k) 0) g ρ)) (sym (val-neg 𝓡 s ρ))
      ∙ sym (val-add 𝓡 (mul_p (con (suc k) 0) g) (neg_p s) ρ)
      ∙ val-zero 𝓡 (add_p (mul_p (con (suc k) 0) g) (neg_p s)) 1 0 v ρ in
      cancel k
      (val 𝓡 g ρ)
      (Ord.le-eq 𝓞
      (Ord.add-nonneg 𝓞 (combine-nonneg ks Γ ρ F) (val-const c ρ))
      (sym (val-add 𝓡 (combine ks Γ) (con c 0) ρ)
      ∙ sym (Ring.eq-of-sub 𝓡 (val 𝓡 (con (suc k) 0) ρ * val 𝓡 g ρ) (val 𝓡 s ρ) e)
      ∙ ap (◌* val 𝓡 g ρ) (val-num 𝓡 (suc k) ρ)))
  verified (clash ks c) g Γ ρ v F =
      let w : T (bites_or ks Γ c) × Vanishes (lead (add_p (combine ks Γ) (con c 0)) 1 0) =
      split-if (bites_or ks Γ c) (lead (add_p (combine ks Γ) (con c 0)) 1 0) v in
      absurd
      (sum-pos ks Γ c ρ w.0 F
      (Ord.le_of_eq 𝓞 (sym (val-add 𝓡 (combine ks Γ) (con c 0) ρ) ∙ val-zero 𝓡 (add_p (combine ks Γ) (con c 0)) 1 0 w.1 ρ)))

  val-diff : (l r : Expr) (ρ : List R) → val 𝓡 (diff l r) ρ ≡ eval 𝓡 ρ r - eval 𝓡 ρ l
  val-diff l r ρ = val-poly 𝓡 (r :- l) ρ

  val-minus_one : (ρ : List R) → val 𝓡 minus_one ρ ≡ neg 𝟙
  val-minus_one ρ = val-neg 𝓡 (con 1 0) ρ ∙ ap neg (val-num 𝓡 1 ρ ∙ Ring.num-one 𝓡)

  fact : (l r : Expr) (ρ : List R) → eval 𝓡 ρ l ≤ eval 𝓡 ρ r → 𝟘 ≤ val 𝓡 (diff l r) ρ
  fact l r ρ h = Ord.le-eq 𝓞 (Ord.sub-nonneg 𝓞 h) (sym (val-diff l r ρ))

  fact-strict : (l r : Expr) (ρ : List R) → eval 𝓡 ρ l < eval 𝓡 ρ r → 𝟘 < val 𝓡 (diff l r) ρ
  fact-strict l r ρ h k =
      h
      (Ord.le-by 𝓞
      (Ord.neg-nonneg 𝓞 (Ord.eq-le 𝓞 (sym (val-diff l r ρ)) k))
      (ring 𝓡 2 (λ l r. l :- r := :- (r :- l)) tt (eval 𝓡 ρ l) (eval 𝓡 ρ r)))

  assumed : (c : Claim) (Γ : List Fact) (ρ : List R) → Says ρ c → Facts ρ Γ → Facts ρ (assume c Γ)
  assumed (l :≤ r) Γ ρ h F = (fact l r ρ h, F)
  assumed (l :< r) Γ ρ h F = (fact-strict l r ρ h, F)
  assumed (l :≡ r) Γ ρ h F = (fact l r ρ (Ord.le_of_eq 𝓞 h), (fact r l ρ (Ord.le_of_eq 𝓞 (sym h)), F))
  assumed :⊥ Γ ρ h F = absurd h

  reached : (l r : Expr) (Γ : List Fact) (ρ : List R) → Reached (diff l r) Γ → Facts ρ Γ → eval 𝓡 ρ l ≤ eval 𝓡 ρ r
  reached l r Γ ρ v F = Ord.le-of-sub 𝓞 (Ord.le-eq 𝓞 (verified (find (diff l r) Γ) (diff l r) Γ ρ v F) (val-diff l r ρ))

  refuted : (Γ : List Fact) (ρ : List R) → Reached minus_one Γ → Facts ρ Γ → ⊥
  refuted Γ ρ v F =
      Ord.zero-lt-one 𝓞
      (Ord.le-by 𝓞
      (Ord.le-eq 𝓞 (verified (find minus_one Γ) minus_one Γ ρ v F) (val-minus_one ρ))
      (ring 𝓡 0 (:0 :- :1 := :- :1) tt))

  goal : (c : Claim) (Γ : List Fact) (ρ : List R) → Goal c Γ → Facts ρ Γ → Says ρ c
  goal (l :≤ r) Γ ρ v F = reached l r Γ ρ v F
  goal (l :< r) Γ ρ v F = λ h. refuted (weak (diff r l) ∷ Γ) ρ v (fact r l ρ h, F)
  goal (l :≡ r) Γ ρ v F = le_antisym (reached l r Γ ρ v.0 F) (reached r l Γ ρ v.1 F)
  goal :⊥ Γ ρ v F = refuted Γ ρ v F

  follows : (s : Sequent) (Γ : List Fact) (ρ : List R) → Follows Γ s → Facts ρ Γ → Holds ρ s
  follows (c ⇒ s) Γ ρ v F = λ h. follows s (assume c Γ) ρ v (assumed c Γ ρ h F)
  follows (⊢ c) Γ ρ v F = goal c Γ ρ v F

  pub linarith : (n : ℕ) (f : Over Sequent n) → Follows [] (named Sequent n f) → All (λ ρ. Holds ρ (named Sequent n f)) n []
  linarith n f v = everywhere (λ ρ. Holds ρ (named Sequent n f)) (λ ρ. follows (named Sequent n f) [] ρ v tt) n []
