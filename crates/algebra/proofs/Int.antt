-- The integers ℤ of `lib.IntN`, under the order `≤ℤ` of `lib.Signed`, are an ordered commutative ring (`ℤ-ring`, `ℤ-ordered`).
-- An equation is proved by `ring ℤ-ring`, and what follows linearly by `linarith ℤ-ordered`. What needs that between an integer and the
-- next there is none is proved by `omega (ints, ..)`, which reads `≡`, `≤ℤ`, `<ℤ` of ℤ in the hypotheses and proves such a goal: an
-- integer z is the difference pos_part z − neg_part z of two naturals. Each sum, negation and product of the statement that is not of
-- literals is listed there with its equation: `add-dif a b`, `sub-dif a b`, `neg-dif a`, `mul-dif a b`.
-- (`lib.Signed`'s `≤ℤ` and `<ℤ` bind tighter than `+ℤ` and `*ℤ`: hence the parentheses.)
use mathlib.Core.Path.{◌≡◌, refl, sym, ◌∙◌, ap}
use mathlib.Core.Logic.{◌⊎◌, inl, inr}
use Prim.Native.Nat.{ℕ, zero, suc, ◌+◌, ◌*◌, ◌-◌, ◌≤◌, ◌<◌}
use native.Mathlib.Omega.{arith}
use native.Mathlib.Numerals.{add-one}
use native.Mathlib.Nat as N
use mathlib.Core.Bool.{Bool, true, false, not, cond}
use lib.Dec.{T, T_prop, ltb, ltb→lt, nltb→le, leb→le, le→leb, lt→ltb, nleb→lt}
use lib.IntN.{ℤ, pos, negsuc, neg_ℤ, nat_abs, sub_ℕ, ◌+ℤ◌, ◌-ℤ◌, ◌*ℤ◌, ℤ_set, +ℤ_assoc, +ℤ_comm, +ℤ_idr, +ℤ_invr, *ℤ_comm}
use lib.Signed.{◌≤ℤ◌, ◌<ℤ◌, le_z, ≤ℤ_refl}
use Rattle.algebra.specs.Ring.{CommRing}
use Rattle.algebra.specs.Ordered.{OrderedRing}

-- ════ an integer as a difference ════

abbrev pub pos_part : ℤ → ℕ
pos_part (pos n) = n
pos_part (negsuc n) = zero

abbrev pub neg_part : ℤ → ℕ
neg_part (pos n) = zero
neg_part (negsuc n) = suc n

-- equal, at most, less: into ℕ (`-out`, for a hypothesis) and back (`-in`, for a goal)
pub ≡-out : {a b : ℤ} → a ≡ b → pos_part a + neg_part b ≡ pos_part b + neg_part a
≡-out {a} {b} e = rw e

pub ≡-in : {a b : ℤ} → pos_part a + neg_part b ≡ pos_part b + neg_part a → a ≡ b
≡-in {a = pos a} {b = pos b} e = let h : a ≡ b = omega arith in ap pos h
≡-in {a = pos a} {b = negsuc b} e = let h : ⊥ = omega arith in absurd h
≡-in {a = negsuc a} {b = pos b} e = let h : ⊥ = omega arith in absurd h
≡-in {a = negsuc a} {b = negsuc b} e = let h : a ≡ b = omega arith in ap negsuc h

pub ≤-out : {a b : ℤ} → a ≤ℤ b → pos_part a + neg_part b ≤ pos_part b + neg_part a
≤-out {a = pos a} {b = pos b} h = omega (arith, leb→le a b h.le)
≤-out {a = pos a} {b = negsuc b} h = absurd h.le
≤-out {a = negsuc a} {b = pos b} h = omega arith
≤-out {a = negsuc a} {b = negsuc b} h = omega (arith, leb→le b a h.le)

pub ≤-in : {a b : ℤ} → pos_part a + neg_part b ≤ pos_part b + neg_part a → a ≤ℤ b
≤-in {a = pos a} {b = pos b} h = record { le = le→leb a b (omega arith) }
≤-in {a = pos a} {b = negsuc b} h = let f : ⊥ = omega arith in absurd f
≤-in {a = negsuc a} {b = pos b} h = record { le = tt }
≤-in {a = negsuc a} {b = negsuc b} h = record { le = le→leb b a (omega arith) }

pub <-out : {a b : ℤ} → a <ℤ b → pos_part a + neg_part b < pos_part b + neg_part a
<-out {a = pos a} {b = pos b} h = omega (arith, ltb→lt a b h.lt)
<-out {a = pos a} {b = negsuc b} h = absurd h.lt
<-out {a = negsuc a} {b = pos b} h = omega arith
<-out {a = negsuc a} {b = negsuc b} h = omega (arith, ltb→lt b a h.lt)

pub <-in : {a b : ℤ} → pos_part a + neg_part b < pos_part b + neg_part a → a <ℤ b
<-in {a = pos a} {b = pos b} h = record { lt = lt→ltb a b (omega arith) }
<-in {a = pos a} {b = negsuc b} h = let f : ⊥ = omega arith in absurd f
<-in {a = negsuc a} {b = pos b} h = record { lt = tt }
<-in {a = negsuc a} {b = negsuc b} h = record { lt = lt→ltb b a (omega arith) }

pub ruleset ints = (arith, ≡-out, ≡-in, ≤-out, ≤-in, <-out, <-in)

-- the operations
pub pos_part-neg : (a : ℤ) → pos_part (neg_ℤ a) ≡ neg_part a
pos_part-neg (pos zero) = refl
pos_part-neg (pos (suc n)) = refl
pos_part-neg (negsuc n) = refl

pub neg_part-neg : (a : ℤ) → neg_part (neg_ℤ a) ≡ pos_part a
neg_part-neg (pos zero) = refl
neg_part-neg (pos (suc n)) = refl
neg_part-neg (negsuc n) = refl

pub neg-dif : (a : ℤ) → pos_part (neg_ℤ a) + pos_part a ≡ neg_part a + neg_part (neg_ℤ a)
neg-dif a = omega (arith, pos_part-neg a, neg_part-neg a)

sub_ℕ-dif : (a b : ℕ) → pos_part (sub_ℕ a b) + b ≡ a + neg_part (sub_ℕ a b)
sub_ℕ-dif a b = go (ltb a b) (ltb→lt a b) (nltb→le a b)
  where
    go : (c : Bool) → (T c → a < b) → (T (not c) → b ≤ a)
        → pos_part (cond c (negsuc (b - suc a)) (pos (a - b))) + b ≡ a + neg_part (cond c (negsuc (b - suc a)) (pos (a - b)))
    go true f g = let h = f tt in omega arith
    go false f g = let h = g tt in omega arith

pub add-dif : (a b : ℤ) → pos_part (a +ℤ b) + (neg_part a + neg_part b) ≡ pos_part a + pos_part b + neg_part (a +ℤ b)
add-dif (pos a) (pos b) = omega arith
add-dif (pos a) (negsuc b) = omega (arith, sub_ℕ-dif a (suc b))
add-dif (negsuc a) (pos b) = omega (arith, sub_ℕ-dif b (suc a))
add-dif (negsuc a) (negsuc b) = omega arith

pub sub-dif : (a b : ℤ) → pos_part (a -ℤ b) + (neg_part a + pos_part b) ≡ pos_part a + neg_part b + neg_part (a -ℤ b)
sub-dif a b = omega (arith, add-dif a (neg_ℤ b), pos_part-neg b, neg_part-neg b)

pub mul-dif : (a b : ℤ)
    → pos_part (a *ℤ b) + (pos_part a * neg_part b + neg_part a * pos_part b) ≡ pos_part a * pos_part b + neg_part a * neg_part b + neg_part (a *ℤ b)
mul-dif (pos a) (pos b) = omega arith
mul-dif (pos a) (negsuc b) = omega (arith, pos_part-neg (pos (a * suc b)), neg_part-neg (pos (a * suc b)))
mul-dif (negsuc a) (pos b) = omega (arith, pos_part-neg (pos (suc a * b)), neg_part-neg (pos (suc a * b)))
mul-dif (negsuc a) (negsuc b) = omega arith

-- a product whose second factor is a natural number, one equation for each side of the difference
pub mul-pos-dif : (a : ℤ) (n : ℕ) → pos_part (a *ℤ pos n) + neg_part a * n ≡ pos_part a * n + neg_part (a *ℤ pos n)
mul-pos-dif a n = omega (arith, mul-dif a (pos n))

-- ════ the ring ════

pub *ℤ-assoc : (a b c : ℤ) → (a *ℤ b) *ℤ c ≡ a *ℤ (b *ℤ c)
*ℤ-assoc a b c = omega (
  ints,
  mul-dif (a *ℤ b) c,
  mul-dif a (b *ℤ c),
  ap (λ (x : ℕ). x * pos_part c) (mul-dif a b),
  ap (λ (x : ℕ). x * neg_part c) (mul-dif a b),
  ap (λ (x : ℕ). pos_part a * x) (mul-dif b c),
  ap (λ (x : ℕ). neg_part a * x) (mul-dif b c),
)

pub *ℤ-distʳ : (a b c : ℤ) → (a +ℤ b) *ℤ c ≡ a *ℤ c +ℤ b *ℤ c
*ℤ-distʳ a b c = omega (
  ints,
  mul-dif (a +ℤ b) c,
  add-dif (a *ℤ c) (b *ℤ c),
  mul-dif a c,
  mul-dif b c,
  ap (λ (x : ℕ). x * pos_part c) (add-dif a b),
  ap (λ (x : ℕ). x * neg_part c) (add-dif a b),
)

pub *ℤ-distˡ : (a b c : ℤ) → a *ℤ (b +ℤ c) ≡ a *ℤ b +ℤ a *ℤ c
*ℤ-distˡ a b c = *ℤ_comm a (b +ℤ c) ∙ *ℤ-distʳ b c a ∙ rw (*ℤ_comm b a, *ℤ_comm c a)

pub *ℤ-one : (a : ℤ) → a *ℤ pos 1 ≡ a
*ℤ-one a = omega (ints, mul-dif a (pos 1))

pub neg-*ℤ : (a b : ℤ) → neg_ℤ a *ℤ b ≡ neg_ℤ (a *ℤ b)
neg-*ℤ a b = omega (
  ints,
  mul-dif (neg_ℤ a) b,
  mul-dif a b,
  neg-dif (a *ℤ b),
  ap (λ (x : ℕ). x * pos_part b) (pos_part-neg a),
  ap (λ (x : ℕ). x * neg_part b) (pos_part-neg a),
  ap (λ (x : ℕ). x * pos_part b) (neg_part-neg a),
  ap (λ (x : ℕ). x * neg_part b) (neg_part-neg a),
)

pub *ℤ-neg : (a b : ℤ) → a *ℤ neg_ℤ b ≡ neg_ℤ (a *ℤ b)
*ℤ-neg a b = *ℤ_comm a (neg_ℤ b) ∙ neg-*ℤ b a ∙ ap neg_ℤ (*ℤ_comm b a)

abbrev pub ℤ-ring : CommRing ℤ
ℤ-ring =
    record {
      add = ◌+ℤ◌;
      mul = ◌*ℤ◌;
      neg = neg_ℤ;
      𝟘 = pos 0;
      𝟙 = pos 1;
      is_set = ℤ_set;
      add_assoc = +ℤ_assoc;
      add_comm = +ℤ_comm;
      add-zero = +ℤ_idr;
      add-neg = +ℤ_invr;
      mul_assoc = *ℤ-assoc;
      mul_comm = *ℤ_comm;
      mul-one = *ℤ-one;
      mul-add = *ℤ-distˡ;
      num = pos;
      num-zero = refl;
      num-suc = λ n. ap pos (sym (add-one n));
    }

-- ════ the order ════

pub ≤ℤ_prop : {a b : ℤ} → IsProp (a ≤ℤ b)
≤ℤ_prop {a} {b} h k = λ i. record { le = T_prop (le_z a b) h.le k.le i }

pub ≤ℤ-of-≡ : {a b : ℤ} → a ≡ b → a ≤ℤ b
≤ℤ-of-≡ e = omega ints

pub ≤ℤ-trans : {a b c : ℤ} → a ≤ℤ b → b ≤ℤ c → a ≤ℤ c
≤ℤ-trans h k = omega ints

pub ≤ℤ-<ℤ-trans : {a b c : ℤ} → a ≤ℤ b → b <ℤ c → a <ℤ c
≤ℤ-<ℤ-trans h k = omega ints

pub ≤ℤ-antisym : {a b : ℤ} → a ≤ℤ b → b ≤ℤ a → a ≡ b
≤ℤ-antisym h k = omega ints

pub <ℤ→≤ℤ : {a b : ℤ} → a <ℤ b → a ≤ℤ b
<ℤ→≤ℤ h = omega ints

-- a test that failed (`le_z_yes`, `lt_z_yes` and `lt_z_no` are `lib.Signed`'s)
pub le_z-no : {a b : ℤ} → T (not (le_z a b)) → b <ℤ a
le_z-no {a = pos a} {b = pos b} t = record { lt = lt→ltb b a (nleb→lt a b t) }
le_z-no {a = pos a} {b = negsuc b} t = record { lt = tt }
le_z-no {a = negsuc a} {b = pos b} t = absurd t
le_z-no {a = negsuc a} {b = negsuc b} t = record { lt = lt→ltb a b (nleb→lt b a t) }

-- one of two ways, by the test
pub ≤ℤ-or-<ℤ : (a b : ℤ) → (a ≤ℤ b) ⊎ (b <ℤ a)
≤ℤ-or-<ℤ a b = go (le_z a b) (λ t. record { le = t }) le_z-no
  where
    go : (c : Bool) → (T c → a ≤ℤ b) → (T (not c) → b <ℤ a) → (a ≤ℤ b) ⊎ (b <ℤ a)
    go true f g = inl (f tt)
    go false f g = inr (g tt)

pub ≤ℤ-total : (a b : ℤ) → (a ≤ℤ b) ⊎ (b ≤ℤ a)
≤ℤ-total a b = go (≤ℤ-or-<ℤ a b)
  where
    go : (a ≤ℤ b) ⊎ (b <ℤ a) → (a ≤ℤ b) ⊎ (b ≤ℤ a)
    go (inl h) = inl h
    go (inr h) = inr (<ℤ→≤ℤ h)

-- against ℕ
pub pos-≤ : {m n : ℕ} → m ≤ n → pos m ≤ℤ pos n
pos-≤ h = omega ints

pub ≤-pos : {m n : ℕ} → pos m ≤ℤ pos n → m ≤ n
≤-pos h = omega ints

pub <-pos : {m n : ℕ} → pos m <ℤ pos n → m < n
<-pos h = omega ints

-- and the operations
pub +ℤ-mono : {a b c d : ℤ} → a ≤ℤ b → c ≤ℤ d → (a +ℤ c) ≤ℤ (b +ℤ d)
+ℤ-mono {a} {b} {c} {d} h k = omega (ints, add-dif a c, add-dif b d)

pub neg-anti : {a b : ℤ} → a ≤ℤ b → neg_ℤ b ≤ℤ neg_ℤ a
neg-anti {a} {b} h = omega (ints, neg-dif a, neg-dif b)

pub neg_cancel : {a b : ℤ} → neg_ℤ b ≤ℤ neg_ℤ a → a ≤ℤ b
neg_cancel {a} {b} h = omega (ints, neg-dif a, neg-dif b)

-- a negation goes to the other side
pub neg-≤ : {a b : ℤ} → neg_ℤ a ≤ℤ b → neg_ℤ b ≤ℤ a
neg-≤ {a} {b} h = omega (ints, neg-dif a, neg-dif b)

pub ≤-neg : {a b : ℤ} → a ≤ℤ neg_ℤ b → b ≤ℤ neg_ℤ a
≤-neg {a} {b} h = omega (ints, neg-dif a, neg-dif b)

pub neg-nonneg : {a : ℤ} → a ≤ℤ pos 0 → pos 0 ≤ℤ neg_ℤ a
neg-nonneg {a} h = omega (ints, neg-dif a)

pub neg-nonpos : {a : ℤ} → pos 0 ≤ℤ a → neg_ℤ a ≤ℤ pos 0
neg-nonpos {a} h = omega (ints, neg-dif a)

pub <suc→≤ℤ : {a b : ℤ} → a <ℤ (b +ℤ pos 1) → a ≤ℤ b
<suc→≤ℤ {a} {b} h = omega (ints, add-dif b (pos 1), <-out h)

-- times a natural number: kept by any, reflected by a positive one
module _ {a b : ℤ} (n : ℕ) where
  pub *ℤ-mono : a ≤ℤ b → (a *ℤ pos n) ≤ℤ (b *ℤ pos n)
  *ℤ-mono h = omega (ints, mul-pos-dif a n, mul-pos-dif b n, N.mul-le-mul_right n (≤-out h))

  pub *ℤ-cancel : zero < n → (a *ℤ pos n) ≤ℤ (b *ℤ pos n) → a ≤ℤ b
  *ℤ-cancel p h = ≤-in (N.le_of_mul-le-mul_right {k = n} (omega (ints, mul-pos-dif a n, mul-pos-dif b n, ≤-out h)) p)

  pub *ℤ-cancel-< : (a *ℤ pos n) <ℤ (b *ℤ pos n) → a <ℤ b
  *ℤ-cancel-< h = <-in (N.lt_of_mul-lt-mul_right n (omega (ints, mul-pos-dif a n, mul-pos-dif b n, <-out h)))

  pub *ℤ-cancel-≡ : zero < n → a *ℤ pos n ≡ b *ℤ pos n → a ≡ b
  *ℤ-cancel-≡ p e = ≡-in (N.eq_of_mul-eq-mul_right n p _ _ (omega (ints, mul-pos-dif a n, mul-pos-dif b n, ≡-out e)))

pub *ℤ-nonneg : {a b : ℤ} → pos 0 ≤ℤ a → pos 0 ≤ℤ b → pos 0 ≤ℤ (a *ℤ b)
*ℤ-nonneg {a = pos a} {b = pos b} h k = omega ints
*ℤ-nonneg {a = negsuc a} {b = b} h k = absurd h.le
*ℤ-nonneg {a = pos a} {b = negsuc b} h k = absurd k.le

-- ════ magnitudes ════

pub neg-abs : (x : ℤ) → nat_abs (neg_ℤ x) ≡ nat_abs x
neg-abs (pos zero) = refl
neg-abs (pos (suc n)) = refl
neg-abs (negsuc n) = refl

nat_abs-parts : (x : ℤ) → nat_abs x ≡ pos_part x + neg_part x
nat_abs-parts (pos n) = omega arith
nat_abs-parts (negsuc n) = omega arith

one-part : (x : ℤ) → (pos_part x ≡ 0) ⊎ (neg_part x ≡ 0)
one-part (pos n) = inr refl
one-part (negsuc n) = inl refl

pub add-abs : (x y : ℤ) → nat_abs (x +ℤ y) ≤ nat_abs x + nat_abs y
add-abs x y = go (one-part (x +ℤ y))
  where
    go : (pos_part (x +ℤ y) ≡ 0) ⊎ (neg_part (x +ℤ y) ≡ 0) → nat_abs (x +ℤ y) ≤ nat_abs x + nat_abs y
    go (inl e) = omega (arith, add-dif x y, nat_abs-parts x, nat_abs-parts y, nat_abs-parts (x +ℤ y))
    go (inr e) = omega (arith, add-dif x y, nat_abs-parts x, nat_abs-parts y, nat_abs-parts (x +ℤ y))

pub within-abs : (n : ℕ) (x : ℤ) → neg_ℤ (pos n) ≤ℤ x → x ≤ℤ pos n → nat_abs x ≤ n
within-abs n (pos a) l h = omega ints
within-abs n (negsuc a) l h = omega (ints, neg-dif (pos n))

pub mul-abs : (x y : ℤ) → nat_abs (x *ℤ y) ≡ nat_abs x * nat_abs y
mul-abs (pos a) (pos b) = refl
mul-abs (pos a) (negsuc b) = neg-abs (pos (a * suc b))
mul-abs (negsuc a) (pos b) = neg-abs (pos (suc a * b))
mul-abs (negsuc a) (negsuc b) = refl

pub nat_abs-mono : {x y : ℤ} → pos 0 ≤ℤ x → x ≤ℤ y → nat_abs x ≤ nat_abs y
nat_abs-mono {x = pos a} {y = pos b} p h = ≤-pos h
nat_abs-mono {x = pos a} {y = negsuc b} p h = absurd h.le
nat_abs-mono {x = negsuc a} p h = absurd p.le

pub zero-abs : (x : ℤ) → nat_abs x ≡ 0 → x ≡ pos 0
zero-abs (pos n) e = ap pos e
zero-abs (negsuc n) e = omega (ints, e)

-- ════ the ordered ring ════

pub zero-cases : (a b : ℤ) → a *ℤ b ≡ pos 0 → (a ≡ pos 0) ⊎ (b ≡ pos 0)
zero-cases a b e = go (nat_abs a) (nat_abs b) refl refl (sym (mul-abs a b) ∙ ap nat_abs e)
  where
    go : (m n : ℕ) → nat_abs a ≡ m → nat_abs b ≡ n → m * n ≡ 0 → (a ≡ pos 0) ⊎ (b ≡ pos 0)
    go zero n p q h = inl (zero-abs a p)
    go (suc m) zero p q h = inr (zero-abs b q)
    go (suc m) (suc n) p q h = let f : ⊥ = omega (arith, N.mul-pos (N.zero-lt-suc m) (N.zero-lt-suc n)) in absurd f

abbrev pub ℤ-ordered : OrderedRing ℤ
ℤ-ordered =
    record {
      comm_ring = ℤ-ring;
      le = ◌≤ℤ◌;
      le_prop = λ a b. ≤ℤ_prop;
      le_refl = ≤ℤ_refl;
      le_trans = ≤ℤ-trans;
      le_antisym = ≤ℤ-antisym;
      le_total = ≤ℤ-total;
      add-le-right = λ c h. +ℤ-mono h (≤ℤ_refl c);
      mul-nonneg = *ℤ-nonneg;
      zero-cases = zero-cases;
      nontrivial = λ e. omega ints;
    }
