-- The laws of ordered rings. The way to prove a ≤ b here: name what b − a is, as a sum of products of nonnegatives, and let the solver
-- check that (`le-by`). What follows linearly from other claims is proved by `linarith` of `Linear.antt`.
use mathlib.Core.Path.{◌≡◌, sym, ◌∙◌, subst}
use mathlib.Core.Logic.{⊎_elim}
use Prim.Native.Nat.{ℕ, zero, suc}
use Rattle.algebra.proofs.Ring as Ring
use Rattle.algebra.proofs.Solver.{:0, :1, ◌:+◌, ◌:*◌, ◌:-◌, :-◌, ◌:=◌, ring}
pub use Rattle.algebra.specs.Ordered.{OrderedRing, lt}

module _ {R : Type 0} (𝓞 : OrderedRing R) where
  infix 50 ◌≤◌
  infix 50 ◌<◌
  infixl 65 ◌+◌
  infixl 65 ◌-◌
  infixl 70 ◌*◌
  open 𝓞 use {comm_ring as 𝓡, le as ◌≤◌, le_refl, le_trans, le_antisym, le_total}
  open 𝓞 use {add-le-right, mul-nonneg, zero-cases, nontrivial}
  open 𝓞.comm_ring use {add as ◌+◌, mul as ◌*◌, neg, 𝟘, 𝟙, num}

  abbrev ◌-◌ : R → R → R
  a - b = a + neg b

  abbrev ◌<◌ : R → R → Type 0
  a < b = lt 𝓞 a b

  pub le_of_eq : {a b : R} → a ≡ b → a ≤ b
  le_of_eq {a} e = subst (a ≤◌) e (le_refl a)

  -- an inequality carried along an equality of its left or its right side
  pub eq-le : {a b c : R} → a ≡ b → b ≤ c → a ≤ c
  eq-le e h = le_trans (le_of_eq e) h

  pub le-eq : {a b c : R} → a ≤ b → b ≡ c → a ≤ c
  le-eq h e = le_trans h (le_of_eq e)

  -- ── differences
  pub sub-nonneg : {a b : R} → a ≤ b → 𝟘 ≤ b - a
  sub-nonneg {a} {b} h = eq-le (ring 𝓡 1 (λ a. :0 := a :- a) tt a) (add-le-right (neg a) h)

  pub le-of-sub : {a b : R} → 𝟘 ≤ b - a → a ≤ b
  le-of-sub {a} {b} h =
      eq-le (ring 𝓡 1 (λ a. a := :0 :+ a) tt a) (le-eq (add-le-right a h) (ring 𝓡 2 (λ a b. b :- a :+ a := b) tt a b))

  -- a ≤ b from a certificate: b − a is t, which is nonnegative
  pub le-by : {a b t : R} → 𝟘 ≤ t → b - a ≡ t → a ≤ b
  le-by h e = le-of-sub (le-eq h (sym e))

  -- ── sums
  pub add-le-left : {a b : R} (c : R) → a ≤ b → c + a ≤ c + b
  add-le-left {a} {b} c h = le-by (sub-nonneg h) (ring 𝓡 3 (λ a b c. c :+ b :- (c :+ a) := b :- a) tt a b c)

  pub add-mono : {a b c d : R} → a ≤ b → c ≤ d → a + c ≤ b + d
  add-mono {b = b} {c = c} h k = le_trans (add-le-right c h) (add-le-left b k)

  pub add-nonneg : {a b : R} → 𝟘 ≤ a → 𝟘 ≤ b → 𝟘 ≤ a + b
  add-nonneg h k = eq-le (ring 𝓡 0 (:0 := :0 :+ :0) tt) (add-mono h k)

  pub neg-anti : {a b : R} → a ≤ b → neg b ≤ neg a
  neg-anti {a} {b} h = le-by (sub-nonneg h) (ring 𝓡 2 (λ a b. :- a :- :- b := b :- a) tt a b)

  pub sub-mono : {a b c d : R} → a ≤ b → c ≤ d → a - d ≤ b - c
  sub-mono h k = add-mono h (neg-anti k)

  pub neg-nonneg : {a : R} → a ≤ 𝟘 → 𝟘 ≤ neg a
  neg-nonneg {a} h = le-eq (sub-nonneg h) (ring 𝓡 1 (λ a. :0 :- a := :- a) tt a)

  pub neg-nonpos : {a : R} → 𝟘 ≤ a → neg a ≤ 𝟘
  neg-nonpos {a} h = le-by h (ring 𝓡 1 (λ a. :0 :- :- a := a) tt a)

  -- ── products
  pub mul-le-left : {c a b : R} → 𝟘 ≤ c → a ≤ b → c * a ≤ c * b
  mul-le-left {c} {a} {b} p h = le-by (mul-nonneg p (sub-nonneg h)) (ring 𝓡 3 (λ c a b. c :* b :- c :* a := c :* (b :- a)) tt c a b)

  pub mul-le-right : {c a b : R} → 𝟘 ≤ c → a ≤ b → a * c ≤ b * c
  mul-le-right {c} {a} {b} p h = le-by (mul-nonneg p (sub-nonneg h)) (ring 𝓡 3 (λ c a b. b :* c :- a :* c := c :* (b :- a)) tt c a b)

  pub mul-le-left-neg : {c a b : R} → c ≤ 𝟘 → a ≤ b → c * b ≤ c * a
  mul-le-left-neg {c} {a} {b} p h =
      le-by (mul-nonneg (neg-nonneg p) (sub-nonneg h)) (ring 𝓡 3 (λ c a b. c :* a :- c :* b := :- c :* (b :- a)) tt c a b)

  pub mul_mono : {a b c d : R} → 𝟘 ≤ a → a ≤ b → 𝟘 ≤ c → c ≤ d → a * c ≤ b * d
  mul_mono p h q k = le_trans (mul-le-right q h) (mul-le-left (le_trans p h) k)

  pub mul-nonneg-neg : {a b : R} → a ≤ 𝟘 → b ≤ 𝟘 → 𝟘 ≤ a * b
  mul-nonneg-neg {a} p q = eq-le (sym (Ring.mul-zero 𝓡 a)) (mul-le-left-neg p q)

  -- ── squares
  pub square-nonneg : (a : R) → 𝟘 ≤ a * a
  square-nonneg a = ⊎_elim (λ p. mul-nonneg p p) (λ p. mul-nonneg-neg p p) (le_total 𝟘 a)

  pub zero-le-one : 𝟘 ≤ 𝟙
  zero-le-one = le-eq (square-nonneg 𝟙) (ring 𝓡 0 (:1 :* :1 := :1) tt)

  pub num-nonneg : (n : ℕ) → 𝟘 ≤ num n
  num-nonneg zero = le_of_eq (sym 𝓡.num-zero)
  num-nonneg (suc n) = le-eq (add-nonneg (num-nonneg n) zero-le-one) (sym (𝓡.num-suc n))

  pub square-zero : (a : R) → a * a ≡ 𝟘 → a ≡ 𝟘
  square-zero a e = ⊎_elim (λ z. z) (λ z. z) (zero-cases a a e)

  pub square-mono : {a b : R} → 𝟘 ≤ a → a ≤ b → a * a ≤ b * b
  square-mono p h = mul_mono p h p h

  -- x ≤ y from their squares. Where y ≤ x, (x − y)² is at most (x − y)·(x + y), which is x² − y², so x is y
  pub le-of-squares : {x y : R} → 𝟘 ≤ y → x * x ≤ y * y → x ≤ y
  le-of-squares {x} {y} p h = ⊎_elim (λ k. k) above (le_total x y)
    where
      above : y ≤ x → x ≤ y
      above k = le-of-sub (le_of_eq (sym vanishes))
        where
          small : (y - x) * (y - x) ≤ 𝟘
          small =
              le-by
              (add-nonneg (sub-nonneg h) (add-nonneg (mul-nonneg p (sub-nonneg k)) (mul-nonneg p (sub-nonneg k))))
              (ring 𝓡 2 (λ x y. :0 :- (y :- x) :* (y :- x) := y :* y :- x :* x :+ (y :* (x :- y) :+ y :* (x :- y))) tt x y)

          vanishes : y - x ≡ 𝟘
          vanishes = square-zero (y - x) (le_antisym small (square-nonneg (y - x)))

  pub neg-le-of-squares : {x y : R} → 𝟘 ≤ y → x * x ≤ y * y → neg y ≤ x
  neg-le-of-squares {x} {y} p h =
      le-eq
      (neg-anti (le-of-squares p (eq-le (ring 𝓡 1 (λ x. :- x :* :- x := x :* x) tt x) h)))
      (Ring.neg-neg 𝓡 x)

  -- ── products over intervals
  -- a lower bound of a·c and a·d bounds a·y for each y between c and d
  pub line-lower : {m c d y : R} (a : R) → c ≤ y → y ≤ d → m ≤ a * c → m ≤ a * d → m ≤ a * y
  line-lower a l h p q = ⊎_elim (λ s. le_trans p (mul-le-left s l)) (λ s. le_trans q (mul-le-left-neg s h)) (le_total 𝟘 a)

  pub line-upper : {m c d y : R} (a : R) → c ≤ y → y ≤ d → a * c ≤ m → a * d ≤ m → a * y ≤ m
  line-upper a l h p q = ⊎_elim (λ s. le_trans (mul-le-left s h) q) (λ s. le_trans (mul-le-left-neg s l) p) (le_total 𝟘 a)

  -- a lower bound of the four products of the ends bounds x·y for each x between a and b and y between c and d; likewise an upper bound
  pub product-lower : {a b c d x y m : R} → a ≤ x → x ≤ b → c ≤ y → y ≤ d → m ≤ a * c → m ≤ a * d → m ≤ b * c → m ≤ b * d → m ≤ x * y
  product-lower {a} {b} {x = x} {y = y} ax xb cy yd ac ad bc bd =
      le-eq
      (line-lower y ax xb (le-eq (line-lower a cy yd ac ad) (𝓡.mul_comm a y)) (le-eq (line-lower b cy yd bc bd) (𝓡.mul_comm b y)))
      (𝓡.mul_comm y x)

  pub product-upper : {a b c d x y m : R} → a ≤ x → x ≤ b → c ≤ y → y ≤ d → a * c ≤ m → a * d ≤ m → b * c ≤ m → b * d ≤ m → x * y ≤ m
  product-upper {a} {b} {x = x} {y = y} ax xb cy yd ac ad bc bd =
      eq-le
      (𝓡.mul_comm x y)
      (line-upper y ax xb (eq-le (𝓡.mul_comm y a) (line-upper a cy yd ac ad)) (eq-le (𝓡.mul_comm y b) (line-upper b cy yd bc bd)))

  -- the square of a value between a and b is at most the larger of the ends' squares
  pub square-upper : {a b x m : R} → a ≤ x → x ≤ b → a * a ≤ m → b * b ≤ m → x * x ≤ m
  square-upper {a} {b} {x} {m} ax xb p q = ⊎_elim up down (le_total 𝟘 x)
    where
      up : 𝟘 ≤ x → x * x ≤ m
      up s = le_trans (square-mono s xb) q

      down : x ≤ 𝟘 → x * x ≤ m
      down s =
          le_trans
          (eq-le (ring 𝓡 1 (λ x. x :* x := :- x :* :- x) tt x)
          (le-eq (square-mono (neg-nonneg s) (neg-anti ax)) (ring 𝓡 1 (λ a. :- a :* :- a := a :* a) tt a)))
          p

  -- ── powers
  pub pow-nonneg : {x : R} (n : ℕ) → 𝟘 ≤ x → 𝟘 ≤ Ring.pow 𝓡 x n
  unfolding Ring.power
  pow-nonneg zero p = zero-le-one
  pow-nonneg (suc n) p = mul-nonneg p (pow-nonneg n p)

  pub le_of_lt : {a b : R} → a < b → a ≤ b
  le_of_lt {a} {b} h = ⊎_elim (λ k. k) (λ k. absurd (h k)) (le_total a b)

  pub lt-le-trans : {a b c : R} → a < b → b ≤ c → a < c
  lt-le-trans h k l = h (le_trans k l)

  pub mul-pos : {a b : R} → 𝟘 < a → 𝟘 < b → 𝟘 < (a * b)
  mul-pos {a} {b} p q h =
      ⊎_elim
      (λ z. p (le_of_eq z))
      (λ z. q (le_of_eq z))
      (zero-cases a b (le_antisym h (mul-nonneg (le_of_lt p) (le_of_lt q))))

  -- a positive factor cancels
  pub mul-cancel : {c a b : R} → 𝟘 < c → c * a ≤ c * b → a ≤ b
  mul-cancel {c} {a} {b} p h = ⊎_elim (λ k. k) above (le_total a b)
    where
      above : b ≤ a → a ≤ b
      above k =
          ⊎_elim
          (λ z. absurd (p (le_of_eq z)))
          (λ z. le-of-sub (le_of_eq (sym z)))
          (zero-cases c (b - a) (ring 𝓡 3 (λ c a b. c :* (b :- a) := c :* b :- c :* a) tt c a b ∙ equal))
        where
          equal : c * b - c * a ≡ 𝟘
          equal =
              le_antisym
              (le-by (sub-nonneg (mul-le-left (le_of_lt p) k)) (ring 𝓡 2 (λ x y. :0 :- (y :- x) := x :- y) tt (c * a) (c * b)))
              (sub-nonneg h)

  pub zero-lt-one : 𝟘 < 𝟙
  zero-lt-one h = nontrivial (le_antisym zero-le-one h)

  pub add-pos-left : {a b : R} → 𝟘 < a → 𝟘 ≤ b → 𝟘 < (a + b)
  add-pos-left {a} {b} p q h = p (le-by (add-nonneg (sub-nonneg h) q) (ring 𝓡 2 (λ a b. :0 :- a := :0 :- (a :+ b) :+ b) tt a b))

  pub add-pos-right : {a b : R} → 𝟘 ≤ a → 𝟘 < b → 𝟘 < (a + b)
  add-pos-right {a} {b} p q h = q (le-by (add-nonneg (sub-nonneg h) p) (ring 𝓡 2 (λ a b. :0 :- b := :0 :- (a :+ b) :+ a) tt a b))

  pub num_pos : (n : ℕ) → 𝟘 < (num (suc n))
  num_pos n = lt-le-trans (add-pos-right (num-nonneg n) zero-lt-one) (le_of_eq (sym (𝓡.num-suc n)))
