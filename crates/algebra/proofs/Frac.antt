-- Fractions of integers: equal ones are an equivalence, which every operation, the order and the reciprocal respect, so that rational numbers
-- can be made of them; and the laws of fractions from which those of the rational numbers follow.
use mathlib.Core.Path.{◌≡◌, refl, sym, ◌∙◌, ap, ap₂}
use mathlib.Core.Bool.{Bool, true, false}
use mathlib.Core.Logic.{Equivalence}
use mathlib.Core.Option.{Option, none, some}
use Prim.Native.Nat.{ℕ, zero, suc, ◌*◌, ◌/◌, ◌≤◌, ◌<◌}
use native.Mathlib.Nat as N
use native.Mathlib.Omega.{arith}
use lib.Dec.{T}
use lib.IntN.{ℤ, pos, negsuc, neg_ℤ, ◌*ℤ◌, ℤ_set, *ℤ_comm, neg_ℤ-neg_ℤ}
use lib.Signed.{◌≤ℤ◌}
use Rattle.algebra.proofs.Ring.{eq-by}
use Rattle.algebra.proofs.Ordered as Ord
use Rattle.algebra.proofs.Solver.{:0, :1, ◌:+◌, ◌:*◌, ◌:-◌, :-◌, ◌:=◌, ring}
use Rattle.algebra.proofs.Linear.{◌:≤◌, ◌:≡◌, ◌⇒◌, ⊢◌, linarith}
use Rattle.algebra.proofs.Int.{ints, ℤ-ring, ℤ-ordered, pos_part-neg, neg-dif, mul-dif, neg-*ℤ, *ℤ-neg, *ℤ-one}
use Rattle.algebra.proofs.Int.{*ℤ-mono, *ℤ-cancel, *ℤ-cancel-≡, *ℤ-nonneg, ≤ℤ-of-≡}
pub use Rattle.algebra.specs.Frac.{Frac, ◌≃◌, d_ℤ, le_f, add, mul, neg, whole, flip, inverted}

infix 4 ◌≼◌ ◌≃ᵒ◌
-- at most: so are the cross products
abbrev pub ◌≼◌ : Frac → Frac → Type 0
x ≼ y = (x.num *ℤ d_ℤ y) ≤ℤ (y.num *ℤ d_ℤ x)

-- ════ equal fractions are an equivalence, which the operations keep ════

pub ≃-sym : {x y : Frac} → x ≃ y → y ≃ x
≃-sym p = record { cross = sym p.cross }

-- transitivity: multiply by the denominator in the middle
pub ≃-trans : {x y z : Frac} → x ≃ y → y ≃ z → x ≃ z
≃-trans {x} {y} {z} p q = record {
  cross =
      *ℤ-cancel-≡ y.den y.den_pos
      (linarith ℤ-ordered 6
      (λ a b c d e f. (a :* e) :* f :≡ (b :* d) :* f ⇒ (b :* f) :* d :≡ (c :* e) :* d ⇒ ⊢ (a :* f) :* e :≡ (c :* d) :* e) (tt, tt)
      x.num y.num z.num (d_ℤ x) (d_ℤ y) (d_ℤ z) (ap (λ t. t *ℤ d_ℤ z) p.cross) (ap (λ t. t *ℤ d_ℤ x) q.cross));
}

pub ≼_trans : (x y z : Frac) → x ≼ y → y ≼ z → x ≼ z
≼_trans x y z p q =
    *ℤ-cancel y.den y.den_pos
    (linarith ℤ-ordered 6
    (λ a b c d e f. (a :* e) :* f :≤ (b :* d) :* f ⇒ (b :* f) :* d :≤ (c :* e) :* d ⇒ ⊢ (a :* f) :* e :≤ (c :* d) :* e) tt
    x.num y.num z.num (d_ℤ x) (d_ℤ y) (d_ℤ z) (*ℤ-mono z.den p) (*ℤ-mono x.den q))

pub ≃-prop : (x y : Frac) → IsProp (x ≃ y)
≃-prop x y p q = λ i. record { cross = ℤ_set _ _ p.cross q.cross i }

pub ≃-equivalence : Equivalence ◌≃◌
≃-equivalence = record { refl = λ x. record { cross = refl }; symm = λ x y p. ≃-sym p; trans = λ x y z p q. ≃-trans p q }

-- fractions with equal numerators and equal denominators
pub same : {x y : Frac} → x.num ≡ y.num → x.den ≡ y.den → x ≃ y
same {x} {y} p q = record { cross = ap₂ (λ a d. a *ℤ pos d) p (sym q) }

pub add_comm : (x y : Frac) → add x y ≃ add y x
add_comm x y =
    same {x = add x y} {y = add y x}
    (ring ℤ-ring 4 (λ a b d e. a :* e :+ b :* d := b :* d :+ a :* e) tt x.num y.num (d_ℤ x) (d_ℤ y)) (N.mul_comm x.den y.den)

pub mul_comm : (x y : Frac) → mul x y ≃ mul y x
mul_comm x y = same {x = mul x y} {y = mul y x} (*ℤ_comm x.num y.num) (N.mul_comm x.den y.den)

add-congʳ : {x y : Frac} (z : Frac) → x ≃ y → add x z ≃ add y z
add-congʳ {x} {y} z p = record {
  cross =
      eq-by ℤ-ring (d_ℤ z *ℤ d_ℤ z) p.cross
      (ring ℤ-ring 6 (λ a b c d e f. (a :* f :+ c :* d) :* (e :* f) :- (b :* f :+ c :* e) :* (d :* f) := f :* f :* (a :* e :- b :* d)) tt
      x.num y.num z.num (d_ℤ x) (d_ℤ y) (d_ℤ z));
}

mul-congʳ : {x y : Frac} (z : Frac) → x ≃ y → mul x z ≃ mul y z
mul-congʳ {x} {y} z p = record {
  cross =
      eq-by ℤ-ring (z.num *ℤ d_ℤ z) p.cross
      (ring ℤ-ring 6 (λ a b c d e f. (a :* c) :* (e :* f) :- (b :* c) :* (d :* f) := c :* f :* (a :* e :- b :* d)) tt
      x.num y.num z.num (d_ℤ x) (d_ℤ y) (d_ℤ z));
}

pub add_cong : {x y u v : Frac} → x ≃ y → u ≃ v → add x u ≃ add y v
add_cong {x} {y} {u} {v} p q = ≃-trans (add-congʳ u p) (≃-trans (add_comm y u) (≃-trans (add-congʳ y q) (add_comm v y)))

pub mul-cong : {x y u v : Frac} → x ≃ y → u ≃ v → mul x u ≃ mul y v
mul-cong {x} {y} {u} {v} p q = ≃-trans (mul-congʳ u p) (≃-trans (mul_comm y u) (≃-trans (mul-congʳ y q) (mul_comm v y)))

pub neg-cong : {x y : Frac} → x ≃ y → neg x ≃ neg y
neg-cong {x} {y} p = record { cross = neg-*ℤ x.num (d_ℤ y) ∙ ap neg_ℤ p.cross ∙ sym (neg-*ℤ y.num (d_ℤ x)) }

pub ≼-of-≃ : (x y : Frac) → x ≃ y → x ≼ y
≼-of-≃ x y p = ≤ℤ-of-≡ p.cross

pub ≼-cong : (x y u v : Frac) → x ≃ y → u ≃ v → x ≼ u → y ≼ v
≼-cong x y u v p q h = ≼_trans y x v (≼-of-≃ y x (≃-sym p)) (≼_trans x u v h (≼-of-≃ u v q))

bool-ext : (b c : Bool) → (T b → T c) → (T c → T b) → b ≡ c
bool-ext true true f g = refl
bool-ext true false f g = absurd (f tt)
bool-ext false true f g = absurd (g tt)
bool-ext false false f g = refl

pub le_f-cong : (a b c d : Frac) → a ≃ c → b ≃ d → le_f a b ≡ le_f c d
le_f-cong a b c d p q =
    bool-ext _ _
    (λ t. (≼-cong a c b d p q (record { le = t })).le)
    (λ t. (≼-cong c a d b (≃-sym p) (≃-sym q) (record { le = t })).le)

-- both none, or both some fractions that are equal
abbrev pub ◌≃ᵒ◌ : Option Frac → Option Frac → Type 0
none ≃ᵒ none = Unit {0}
none ≃ᵒ some y = ⊥
some x ≃ᵒ none = ⊥
some x ≃ᵒ some y = x ≃ y

flip-cong : (a b : ℤ) {d e : ℕ} (p : zero < d) (q : zero < e) → a *ℤ pos e ≡ b *ℤ pos d → flip a d p ≃ᵒ flip b e q
flip-cong (pos zero) (pos zero) p q h = tt
flip-cong (pos zero) (pos (suc m)) p q h = omega ints
flip-cong (pos (suc n)) (pos zero) p q h = omega ints
flip-cong (pos (suc n)) (pos (suc m)) p q h = record { cross = omega ints }
flip-cong (pos zero) (negsuc m) {d} p q h = omega (ints, neg-dif (pos (suc m * d)))
flip-cong (negsuc n) (pos zero) {d} {e} p q h = omega (ints, neg-dif (pos (suc n * e)))
flip-cong (pos (suc n)) (negsuc m) {d} p q h = let f : ⊥ = omega (ints, pos_part-neg (pos (suc m * d))) in absurd f
flip-cong (negsuc n) (pos (suc m)) {d} {e} p q h = let f : ⊥ = omega (ints, pos_part-neg (pos (suc n * e))) in absurd f
flip-cong (negsuc n) (negsuc m) {d} {e} p q h =
    record { cross = neg-*ℤ (pos d) (pos (suc m)) ∙ ap neg_ℤ inner ∙ sym (neg-*ℤ (pos e) (pos (suc n))) }
  where
    inner : pos (d * suc m) ≡ pos (e * suc n)
    inner = omega (ints, neg-dif (pos (suc n * e)), neg-dif (pos (suc m * d)), pos_part-neg (pos (suc n * e)), pos_part-neg (pos (suc m * d)))

-- what is made of the reciprocal, where it is made alike of equal fractions
pub inverted-cong : {X : Type 0} (f : Option Frac → X) → ((x y : Frac) → x ≃ y → f (some x) ≡ f (some y))
    → (x y : Frac) → x ≃ y → f (inverted x) ≡ f (inverted y)
inverted-cong f alike x y p = go (inverted x) (inverted y) (flip-cong x.num y.num x.den_pos y.den_pos p.cross)
  where
    go : (o u : Option Frac) → o ≃ᵒ u → f o ≡ f u
    go none none h = refl
    go none (some b) h = absurd h
    go (some a) none h = absurd h
    go (some a) (some b) h = alike a b h

-- rounded down, n / d is at most m / e where they are equal fractions, and where (n + 1) / d and (m + 1) / e are
quotient-≤ : (n m : ℕ) {d e : ℕ} → zero < d → zero < e → n * e ≡ m * d → n / d ≤ m / e
quotient-≤ n m {d} {e} p q h =
    (N.le-div_iff_mul-le {k = e} q).1
    (N.le_of_mul-le-mul_right {k = d} (omega (arith, N.mul-le-mul_right e (N.div-mul-le_self n d))) p)

quotient-suc-≤ : (n m : ℕ) {d e : ℕ} → zero < d → zero < e → suc n * e ≡ suc m * d → n / d ≤ m / e
quotient-suc-≤ n m {d} {e} p q h =
    (N.le-div_iff_mul-le {k = e} q).1
    (N.le_of_suc-le-suc (N.lt_of_mul-lt-mul_right d {n = suc m} (omega (arith, N.mul-le-mul_right e (N.div-mul-le_self n d)))))

-- a division that rounds toward −∞ gives equal fractions the same
module _ (div : ℤ → ℕ → ℤ) (on-pos : (n d : ℕ) → div (pos n) d ≡ pos (n / d)) (on-neg : (n d : ℕ) → div (negsuc n) d ≡ negsuc (n / d)) where
  pub floor-cong : {x y : Frac} → x ≃ y → div x.num x.den ≡ div y.num y.den
  floor-cong {x} {y} h = go x.num y.num x.den_pos y.den_pos h.cross
    where
      go : (a b : ℤ) {d e : ℕ} → zero < d → zero < e → a *ℤ pos e ≡ b *ℤ pos d → div a d ≡ div b e
      go (pos n) (pos m) {d} {e} p q h =
          let f : n * e ≡ m * d = omega ints in
          on-pos n d ∙ ap pos (N.le_antisymm (quotient-≤ n m p q f) (quotient-≤ m n q p (sym f))) ∙ sym (on-pos m e)
      go (pos n) (negsuc m) {d} p q h = let f : ⊥ = omega (ints, pos_part-neg (pos (suc m * d)), neg-dif (pos (suc m * d))) in absurd f
      go (negsuc n) (pos m) {d} {e} p q h = let f : ⊥ = omega (ints, pos_part-neg (pos (suc n * e)), neg-dif (pos (suc n * e))) in absurd f
      go (negsuc n) (negsuc m) {d} {e} p q h =
          let f : suc n * e ≡ suc m * d = omega (ints, neg-dif (pos (suc n * e)), neg-dif (pos (suc m * d))) in
          on-neg n d ∙ ap negsuc (N.le_antisymm (quotient-suc-≤ n m p q f) (quotient-suc-≤ m n q p (sym f))) ∙ sym (on-neg m e)

-- and one that rounds toward 0: a definition of that kind is refused for what it gives, and not because it gives equal fractions apart (exact's
-- must-fail edit `floor_toward_zero`)
module _ (div : ℤ → ℕ → ℤ) (on-pos : (n d : ℕ) → div (pos n) d ≡ pos (n / d)) (on-neg : (n d : ℕ) → div (negsuc n) d ≡ neg_ℤ (pos (suc n / d))) where
  pub truncated-cong : {x y : Frac} → x ≃ y → div x.num x.den ≡ div y.num y.den
  truncated-cong {x} {y} h = go x.num y.num x.den_pos y.den_pos h.cross
    where
      go : (a b : ℤ) {d e : ℕ} → zero < d → zero < e → a *ℤ pos e ≡ b *ℤ pos d → div a d ≡ div b e
      go (pos n) (pos m) {d} {e} p q h =
          let f : n * e ≡ m * d = omega ints in
          on-pos n d ∙ ap pos (N.le_antisymm (quotient-≤ n m p q f) (quotient-≤ m n q p (sym f))) ∙ sym (on-pos m e)
      go (pos n) (negsuc m) {d} p q h = let f : ⊥ = omega (ints, pos_part-neg (pos (suc m * d)), neg-dif (pos (suc m * d))) in absurd f
      go (negsuc n) (pos m) {d} {e} p q h = let f : ⊥ = omega (ints, pos_part-neg (pos (suc n * e)), neg-dif (pos (suc n * e))) in absurd f
      go (negsuc n) (negsuc m) {d} {e} p q h =
          let f : suc n * e ≡ suc m * d = omega (ints, neg-dif (pos (suc n * e)), neg-dif (pos (suc m * d))) in
          let g : suc n / d ≡ suc m / e = N.le_antisymm (quotient-≤ (suc n) (suc m) p q f) (quotient-≤ (suc m) (suc n) q p (sym f)) in
          on-neg n d ∙ ap (λ k. neg_ℤ (pos k)) g ∙ sym (on-neg m e)

-- ════ the ring ════

pub add_assoc : (x y z : Frac) → add (add x y) z ≃ add x (add y z)
add_assoc x y z =
    same {x = add (add x y) z} {y = add x (add y z)}
    (ring ℤ-ring 6 (λ a b c d e f. (a :* e :+ b :* d) :* f :+ c :* (d :* e) := a :* (e :* f) :+ (b :* f :+ c :* e) :* d) tt
    x.num y.num z.num (d_ℤ x) (d_ℤ y) (d_ℤ z))
    (N.mul_assoc x.den y.den z.den)

pub mul_assoc : (x y z : Frac) → mul (mul x y) z ≃ mul x (mul y z)
mul_assoc x y z =
    same {x = mul (mul x y) z} {y = mul x (mul y z)}
    (ring ℤ-ring 3 (λ a b c. (a :* b) :* c := a :* (b :* c)) tt x.num y.num z.num) (N.mul_assoc x.den y.den z.den)

pub add-zero : (x : Frac) → add x (whole (pos 0)) ≃ x
add-zero x =
    same {x = add x (whole (pos 0))} {y = x}
    (ring ℤ-ring 2 (λ a d. a :* :1 :+ :0 :* d := a) tt x.num (d_ℤ x)) (N.mul-one x.den)

pub mul-one : (x : Frac) → mul x (whole (pos 1)) ≃ x
mul-one x = same {x = mul x (whole (pos 1))} {y = x} (*ℤ-one x.num) (N.mul-one x.den)

pub add-neg : (x : Frac) → add x (neg x) ≃ whole (pos 0)
add-neg x = record { cross = ring ℤ-ring 2 (λ a d. (a :* d :+ :- a :* d) :* :1 := :0 :* (d :* d)) tt x.num (d_ℤ x) }

pub mul-dist : (x y z : Frac) → mul (add x y) z ≃ add (mul x z) (mul y z)
mul-dist x y z = record {
  cross =
      ring ℤ-ring 6
      (λ a b c d e f.
      ((a :* e :+ b :* d) :* c) :* ((d :* f) :* (e :* f)) := ((a :* c) :* (e :* f) :+ (b :* c) :* (d :* f)) :* ((d :* e) :* f))
      tt x.num y.num z.num (d_ℤ x) (d_ℤ y) (d_ℤ z);
}

-- ════ the order ════

pub add-mono : (x y z : Frac) → x ≼ y → add x z ≼ add y z
add-mono x y z h =
    Ord.le-by ℤ-ordered
    (*ℤ-nonneg (Ord.square-nonneg ℤ-ordered (d_ℤ z)) (Ord.sub-nonneg ℤ-ordered h))
    (ring ℤ-ring 6 (λ a b c d e f. (b :* f :+ c :* e) :* (d :* f) :- (a :* f :+ c :* d) :* (e :* f) := f :* f :* (b :* d :- a :* e)) tt
    x.num y.num z.num (d_ℤ x) (d_ℤ y) (d_ℤ z))

pub mul_mono : (x y z : Frac) → whole (pos 0) ≼ z → x ≼ y → mul x z ≼ mul y z
mul_mono x y z p h =
    Ord.le-by ℤ-ordered
    (*ℤ-nonneg (*ℤ-nonneg nonneg (omega ints)) (Ord.sub-nonneg ℤ-ordered h))
    (ring ℤ-ring 6 (λ a b c d e f. (b :* c) :* (d :* f) :- (a :* c) :* (e :* f) := c :* f :* (b :* d :- a :* e)) tt
    x.num y.num z.num (d_ℤ x) (d_ℤ y) (d_ℤ z))
  where
    nonneg : pos 0 ≤ℤ z.num
    nonneg = omega (ints, mul-dif z.num (pos 1))

-- ════ the reciprocal ════

-- what the reciprocal is: none says that the fraction is 0, and some y that the product with y is 1
abbrev pub Flipped : Frac → Option Frac → Type 0
Flipped x none = x ≃ whole (pos 0)
Flipped x (some y) = mul x y ≃ whole (pos 1)

flip-law : (a : ℤ) (d : ℕ) (p : zero < d) → Flipped (record { num = a; den = d; den_pos = p }) (flip a d p)
flip-law (pos zero) d p = record { cross = omega ints }
flip-law (pos (suc n)) d p = record { cross = omega ints }
flip-law (negsuc n) d p = record { cross = *ℤ-one _ ∙ *ℤ-neg (negsuc n) (pos d) ∙ neg_ℤ-neg_ℤ (pos (suc n * d)) ∙ omega ints }

pub inverted-law : (x : Frac) → Flipped x (inverted x)
inverted-law x = flip-law x.num x.den x.den_pos
