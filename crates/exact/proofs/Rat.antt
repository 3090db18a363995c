-- The rational numbers are an ordered field: the laws of ℚ, of its order and of its reciprocal.
use mathlib.Core.Path.{◌≡◌, refl, sym, ◌∙◌, ap, ap₂}
use mathlib.Core.Logic.{◌↔◌, ◌⊎◌, inl, inr}
use mathlib.Core.HLevel.{→_prop}
use mathlib.Core.Bool.{Bool, true, false, not}
use mathlib.Core.Option.{Option, none, some}
use mathlib.Core.Quot.Quotient
use mathlib.Core.Quot.{ind}
use Prim.Native.Nat.{ℕ, zero, ◌*◌, ◌<◌}
use native.Mathlib.Nat as N
use native.Mathlib.Numerals.{add-one}
use lib.Dec.{T, T_prop, T_not, not_T}
use lib.IntN.{ℤ, pos, neg_ℤ, ◌+ℤ◌, ◌*ℤ◌}
use lib.Signed.{◌≤ℤ◌, ≤ℤ_refl}
use Rattle.algebra.proofs.Ring as Ring
use Rattle.algebra.proofs.Ring.{CommRing}
use Rattle.algebra.proofs.Ordered as Ord
use Rattle.algebra.proofs.Ordered.{OrderedRing}
use Rattle.algebra.proofs.Solver.{◌:+◌, ◌:*◌, ◌:-◌, :-◌, ◌:=◌, ring}
use Rattle.algebra.proofs.Int.{ℤ-ring, *ℤ-one, ≤ℤ-antisym, <ℤ→≤ℤ, le_z-no}
use Rattle.algebra.proofs.Frac as F
use Rattle.algebra.proofs.Frac.{Frac, ◌≃◌, ◌≼◌, whole}
use Rattle.exact.specs.Rat.{Frac-setoid, mk, mkᵒ, sound}
pub use Rattle.exact.specs.Rat.{ℚ, ℚ-set, 0ℚ, 1ℚ, ◌-ℚ◌, ◌^ℚ◌, sum_ℚ, ◌≤ℚ◌, ◌<ℚ◌, Recip}
unfoldable pub use Rattle.exact.specs.Rat.{ratio, from_ℤ, ◌+ℚ◌, ◌*ℚ◌, neg_ℚ, le_q, recip}

-- equal numbers are equal fractions
exact : {x y : Frac} → mk x ≡ mk y → x ≃ y
exact e = Quotient.exact Frac-setoid F.≃-prop e

-- ---- a law of ℚ is a law of fractions
≡₁ : (f g : ℚ → ℚ) → ((a : Frac) → f (mk a) ≡ g (mk a)) → (x : ℚ) → f x ≡ g x
≡₁ f g h x = ind (λ x. ℚ-set (f x) (g x)) h x

≡₂ : (f g : ℚ → ℚ → ℚ) → ((a b : Frac) → f (mk a) (mk b) ≡ g (mk a) (mk b)) → (x y : ℚ) → f x y ≡ g x y
≡₂ f g h x y = ≡₁ (λ x. f x y) (λ x. g x y) (λ a. ≡₁ (f (mk a)) (g (mk a)) (h a) y) x

≡₃ : (f g : ℚ → ℚ → ℚ → ℚ) → ((a b c : Frac) → f (mk a) (mk b) (mk c) ≡ g (mk a) (mk b) (mk c)) → (x y z : ℚ) → f x y z ≡ g x y z
≡₃ f g h x y z = ≡₁ (λ x. f x y z) (λ x. g x y z) (λ a. ≡₂ (f (mk a)) (g (mk a)) (h a) y z) x

-- ════ the ring ════

pub +ℚ-comm : (x y : ℚ) → x +ℚ y ≡ y +ℚ x
unfolding ◌+ℚ◌
+ℚ-comm = ≡₂ _ _ (λ a b. sound (F.add_comm a b))

pub +ℚ-assoc : (x y z : ℚ) → (x +ℚ y) +ℚ z ≡ x +ℚ (y +ℚ z)
unfolding ◌+ℚ◌
+ℚ-assoc = ≡₃ _ _ (λ a b c. sound (F.add_assoc a b c))

pub +ℚ-zero : (x : ℚ) → x +ℚ 0ℚ ≡ x
unfolding ◌+ℚ◌ from_ℤ
+ℚ-zero = ≡₁ _ _ (λ a. sound (F.add-zero a))

pub +ℚ-neg : (x : ℚ) → x -ℚ x ≡ 0ℚ
unfolding ◌+ℚ◌ from_ℤ neg_ℚ
+ℚ-neg = ≡₁ _ _ (λ a. sound (F.add-neg a))

pub *ℚ-comm : (x y : ℚ) → x *ℚ y ≡ y *ℚ x
unfolding ◌*ℚ◌
*ℚ-comm = ≡₂ _ _ (λ a b. sound (F.mul_comm a b))

pub *ℚ-assoc : (x y z : ℚ) → (x *ℚ y) *ℚ z ≡ x *ℚ (y *ℚ z)
unfolding ◌*ℚ◌
*ℚ-assoc = ≡₃ _ _ (λ a b c. sound (F.mul_assoc a b c))

pub *ℚ-one : (x : ℚ) → x *ℚ 1ℚ ≡ x
unfolding ◌*ℚ◌ from_ℤ
*ℚ-one = ≡₁ _ _ (λ a. sound (F.mul-one a))

pub *ℚ-dist : (x y z : ℚ) → (x +ℚ y) *ℚ z ≡ x *ℚ z +ℚ y *ℚ z
unfolding ◌+ℚ◌ ◌*ℚ◌
*ℚ-dist = ≡₃ _ _ (λ a b c. sound (F.mul-dist a b c))

pub *ℚ-distˡ : (x y z : ℚ) → x *ℚ (y +ℚ z) ≡ x *ℚ y +ℚ x *ℚ z
*ℚ-distˡ x y z = *ℚ-comm x (y +ℚ z) ∙ *ℚ-dist y z x ∙ ap₂ ◌+ℚ◌ (*ℚ-comm y x) (*ℚ-comm z x)

pub from_ℤ-+ : (a b : ℤ) → from_ℤ a +ℚ from_ℤ b ≡ from_ℤ (a +ℤ b)
unfolding from_ℤ ◌+ℚ◌
from_ℤ-+ a b = sound (F.same (ap₂ ◌+ℤ◌ (*ℤ-one a) (*ℤ-one b)) refl)

abbrev pub ℚ-ring : CommRing ℚ
ℚ-ring =
    record {
      add = ◌+ℚ◌;
      mul = ◌*ℚ◌;
      neg = neg_ℚ;
      𝟘 = 0ℚ;
      𝟙 = 1ℚ;
      is_set = ℚ-set;
      add_assoc = +ℚ-assoc;
      add_comm = +ℚ-comm;
      add-zero = +ℚ-zero;
      add-neg = +ℚ-neg;
      mul_assoc = *ℚ-assoc;
      mul_comm = *ℚ-comm;
      mul-one = *ℚ-one;
      mul-add = *ℚ-distˡ;
      num = λ n. from_ℤ (pos n);
      num-zero = refl;
      num-suc = λ n. sym (from_ℤ-+ (pos n) (pos 1) ∙ ap (λ k. from_ℤ (pos k)) (add-one n));
    }

pub one-*ℚ : (x : ℚ) → 1ℚ *ℚ x ≡ x
one-*ℚ = Ring.one-mul ℚ-ring

pub zero-*ℚ : (x : ℚ) → 0ℚ *ℚ x ≡ 0ℚ
zero-*ℚ = Ring.zero-mul ℚ-ring

pub *ℚ-zero : (x : ℚ) → x *ℚ 0ℚ ≡ 0ℚ
*ℚ-zero = Ring.mul-zero ℚ-ring

pub neg_ℚ-neg_ℚ : (x : ℚ) → neg_ℚ (neg_ℚ x) ≡ x
neg_ℚ-neg_ℚ = Ring.neg-neg ℚ-ring

-- ════ the order ════

pub ≤ℚ-prop : (x y : ℚ) → IsProp (x ≤ℚ y)
≤ℚ-prop x y h k = λ i. record { le = T_prop (le_q x y) h.le k.le i }

-- at fractions
pub ≤-mk : {a b : Frac} → a ≼ b → mk a ≤ℚ mk b
unfolding le_q
≤-mk h = record { le = h.le }

pub ≤-frac : (a b : Frac) → mk a ≤ℚ mk b → a ≼ b
unfolding le_q
≤-frac a b h = record { le = h.le }

pub ≤ℚ-refl : (x : ℚ) → x ≤ℚ x
≤ℚ-refl = ind (λ x. ≤ℚ-prop x x) (λ a. ≤-mk {a = a} {b = a} (≤ℤ_refl _))

pub ≤ℚ-of-≡ : {x y : ℚ} → x ≡ y → x ≤ℚ y
≤ℚ-of-≡ {x} {y} e = rw e (≤ℚ-refl y)

-- a statement about numbers, at fractions
prop₂ : (P : ℚ → ℚ → Type 0) → ((x y : ℚ) → IsProp (P x y)) → ((a b : Frac) → P (mk a) (mk b)) → (x y : ℚ) → P x y
prop₂ P p h x y = ind (λ x. p x y) (λ a. ind (λ y. p (mk a) y) (h a) y) x

prop₃ : (P : ℚ → ℚ → ℚ → Type 0) → ((x y z : ℚ) → IsProp (P x y z)) → ((a b c : Frac) → P (mk a) (mk b) (mk c)) → (x y z : ℚ) → P x y z
prop₃ P p h x y z = ind (λ x. p x y z) (λ a. prop₂ (P (mk a)) (p (mk a)) (h a) y z) x

pub ≤ℚ-trans : {x y z : ℚ} → x ≤ℚ y → y ≤ℚ z → x ≤ℚ z
≤ℚ-trans {x} {y} {z} = prop₃ (λ x y z. x ≤ℚ y → y ≤ℚ z → x ≤ℚ z) (λ x y z. →_prop (→_prop (≤ℚ-prop x z)))
    (λ a b c h k. ≤-mk (F.≼_trans a b c (≤-frac a b h) (≤-frac b c k))) x y z

pub ≤ℚ-antisym : {x y : ℚ} → x ≤ℚ y → y ≤ℚ x → x ≡ y
≤ℚ-antisym {x} {y} = prop₂ (λ x y. x ≤ℚ y → y ≤ℚ x → x ≡ y) (λ x y. →_prop (→_prop (ℚ-set x y)))
    (λ a b h k. sound (record { cross = ≤ℤ-antisym (≤-frac a b h) (≤-frac b a k) })) x y

pub <ℚ→≤ℚ : {x y : ℚ} → x <ℚ y → x ≤ℚ y
unfolding le_q
<ℚ→≤ℚ {x} {y} = prop₂ (λ x y. x <ℚ y → x ≤ℚ y) (λ x y. →_prop (≤ℚ-prop x y)) at-frac x y
  where
    at-frac : (a b : Frac) → mk a <ℚ mk b → mk a ≤ℚ mk b
    at-frac a b h = ≤-mk (<ℤ→≤ℤ (le_z-no h.lt))

-- not both, and one of the two
pub ≤ℚ-not-< : {x y : ℚ} → x ≤ℚ y → y <ℚ x → ⊥
≤ℚ-not-< {x} {y} h k = T_not (le_q x y) k.lt h.le

pub ≤ℚ-or-<ℚ : (x y : ℚ) → (x ≤ℚ y) ⊎ (y <ℚ x)
≤ℚ-or-<ℚ x y = go (le_q x y) (λ t. record { le = t }) (λ t. record { lt = t })
  where
    go : (c : Bool) → (T c → x ≤ℚ y) → (T (not c) → y <ℚ x) → (x ≤ℚ y) ⊎ (y <ℚ x)
    go true f g = inl (f tt)
    go false f g = inr (g tt)

pub ≤ℚ-total : (x y : ℚ) → (x ≤ℚ y) ⊎ (y ≤ℚ x)
≤ℚ-total x y = go (≤ℚ-or-<ℚ x y)
  where
    go : (x ≤ℚ y) ⊎ (y <ℚ x) → (x ≤ℚ y) ⊎ (y ≤ℚ x)
    go (inl h) = inl h
    go (inr h) = inr (<ℚ→≤ℚ h)

-- what is not at most is less
pub not≤ : {x y : ℚ} → (y ≤ℚ x → ⊥) → x <ℚ y
not≤ {x} {y} f = record { lt = not_T (le_q y x) (λ t. f (record { le = t })) }

pub <ℚ-≤ℚ-trans : {x y z : ℚ} → x <ℚ y → y ≤ℚ z → x <ℚ z
<ℚ-≤ℚ-trans h k = not≤ (λ l. ≤ℚ-not-< (≤ℚ-trans k l) h)

pub +ℚ-monoʳ : {x y : ℚ} (z : ℚ) → x ≤ℚ y → x +ℚ z ≤ℚ y +ℚ z
unfolding ◌+ℚ◌
+ℚ-monoʳ {x} {y} z = prop₃ (λ x y z. x ≤ℚ y → x +ℚ z ≤ℚ y +ℚ z) (λ x y z. →_prop (≤ℚ-prop (x +ℚ z) (y +ℚ z))) at-frac x y z
  where
    at-frac : (a b c : Frac) → mk a ≤ℚ mk b → mk a +ℚ mk c ≤ℚ mk b +ℚ mk c
    at-frac a b c h = ≤-mk (F.add-mono a b c (≤-frac a b h))

pub *ℚ-monoʳ : {x y : ℚ} (z : ℚ) → 0ℚ ≤ℚ z → x ≤ℚ y → x *ℚ z ≤ℚ y *ℚ z
unfolding ◌*ℚ◌ from_ℤ
*ℚ-monoʳ {x} {y} z =
    prop₃ (λ x y z. 0ℚ ≤ℚ z → x ≤ℚ y → x *ℚ z ≤ℚ y *ℚ z) (λ x y z. →_prop (→_prop (≤ℚ-prop (x *ℚ z) (y *ℚ z)))) at-frac x y z
  where
    at-frac : (a b c : Frac) → 0ℚ ≤ℚ mk c → mk a ≤ℚ mk b → mk a *ℚ mk c ≤ℚ mk b *ℚ mk c
    at-frac a b c p h = ≤-mk (F.mul_mono a b c (≤-frac (whole (pos 0)) c p) (≤-frac a b h))

pub *ℚ-nonneg : {x y : ℚ} → 0ℚ ≤ℚ x → 0ℚ ≤ℚ y → 0ℚ ≤ℚ x *ℚ y
*ℚ-nonneg {x} {y} h k = rw zero-*ℚ at (*ℚ-monoʳ y k h)

pub 0<1 : 0ℚ <ℚ 1ℚ
unfolding le_q from_ℤ
0<1 = record { lt = tt }

-- ════ the reciprocal ════

Recip-prop : (x : ℚ) (o : Option ℚ) → IsProp (Recip x o)
Recip-prop x none = ℚ-set x 0ℚ
Recip-prop x (some y) = ℚ-set (x *ℚ y) 1ℚ

pub recip-law : (x : ℚ) → Recip x (recip x)
unfolding recip ◌*ℚ◌ from_ℤ
recip-law = ind (λ x. Recip-prop x (recip x)) (λ a. at-frac a (F.inverted a) (F.inverted-law a))
  where
    at-frac : (a : Frac) (o : Option Frac) → F.Flipped a o → Recip (mk a) (mkᵒ o)
    at-frac a none h = sound h
    at-frac a (some b) h = sound h

pub 0≢1 : ¬ (0ℚ ≡ 1ℚ)
0≢1 e = ≤ℚ-not-< (≤ℚ-of-≡ (sym e)) 0<1

-- the reciprocal is the one number whose product with x is 1
pub recip-unique : (x : ℚ) {y z : ℚ} → x *ℚ y ≡ 1ℚ → x *ℚ z ≡ 1ℚ → y ≡ z
recip-unique x {y} {z} h k =
    sym (*ℚ-one y) ∙ ap (λ t. y *ℚ t) (sym k) ∙ sym (*ℚ-assoc y x z) ∙ ap (λ t. t *ℚ z) (*ℚ-comm y x ∙ h) ∙ one-*ℚ z

pub recip-some : (x : ℚ) {y : ℚ} → x *ℚ y ≡ 1ℚ → recip x ≡ some y
recip-some x {y} h = go (recip x) (recip-law x)
  where
    go : (o : Option ℚ) → Recip x o → o ≡ some y
    go none e = absurd (0≢1 (sym (zero-*ℚ y) ∙ ap (λ t. t *ℚ y) (sym e) ∙ h))
    go (some z) k = ap some (recip-unique x k h)

-- ════ the ordered ring ════

pub zero-cases : (x y : ℚ) → x *ℚ y ≡ 0ℚ → (x ≡ 0ℚ) ⊎ (y ≡ 0ℚ)
zero-cases x y h = go (recip x) (recip-law x)
  where
    go : (o : Option ℚ) → Recip x o → (x ≡ 0ℚ) ⊎ (y ≡ 0ℚ)
    go none e = inl e
    go (some r) e =
        inr
        (sym (one-*ℚ y) ∙ ap (λ t. t *ℚ y) (sym e)
        ∙ ring ℚ-ring 3 (λ x y r. x :* r :* y := r :* (x :* y)) tt x y r ∙ ap (λ t. r *ℚ t) h ∙ *ℚ-zero r)

abbrev pub ℚ-ordered : OrderedRing ℚ
ℚ-ordered =
    record {
      comm_ring = ℚ-ring;
      le = ◌≤ℚ◌;
      le_prop = ≤ℚ-prop;
      le_refl = ≤ℚ-refl;
      le_trans = ≤ℚ-trans;
      le_antisym = ≤ℚ-antisym;
      le_total = ≤ℚ-total;
      add-le-right = +ℚ-monoʳ;
      mul-nonneg = *ℚ-nonneg;
      zero-cases = zero-cases;
      nontrivial = 0≢1;
    }

pub neg_ℚ-anti : {x y : ℚ} → x ≤ℚ y → neg_ℚ y ≤ℚ neg_ℚ x
neg_ℚ-anti = Ord.neg-anti ℚ-ordered

-- a product with a positive number is reflected
pub *ℚ-cancel-≤ : {x y z : ℚ} → 0ℚ <ℚ z → x *ℚ z ≤ℚ y *ℚ z → x ≤ℚ y
*ℚ-cancel-≤ {x} {y} {z} p h = Ord.mul-cancel ℚ-ordered (λ k. ≤ℚ-not-< k p) (rw (*ℚ-comm z x, *ℚ-comm z y) h)

-- of two numbers of one sign the greater has the smaller reciprocal: u − v is u·v·(y − x)
pub recip-anti : {x y u v : ℚ} → 0ℚ <ℚ x *ℚ y → x ≤ℚ y → x *ℚ u ≡ 1ℚ → y *ℚ v ≡ 1ℚ → v ≤ℚ u
recip-anti {x} {y} {u} {v} p h e f = Ord.le-by ℚ-ordered (*ℚ-nonneg uv-nonneg (Ord.sub-nonneg ℚ-ordered h)) difference
  where
    difference : u -ℚ v ≡ u *ℚ v *ℚ (y -ℚ x)
    difference =
        sym (ap₂ ◌-ℚ◌ (*ℚ-one u) (*ℚ-one v))
        ∙ ap₂ (λ s t. u *ℚ s -ℚ v *ℚ t) (sym f) (sym e)
        ∙ ring ℚ-ring 4 (λ x y u v. u :* (y :* v) :- v :* (x :* u) := u :* v :* (y :- x)) tt x y u v

    product : u *ℚ v *ℚ (x *ℚ y) ≡ 1ℚ
    product = ring ℚ-ring 4 (λ x y u v. u :* v :* (x :* y) := x :* u :* (y :* v)) tt x y u v ∙ ap₂ ◌*ℚ◌ e f ∙ *ℚ-one 1ℚ

    uv-nonneg : 0ℚ ≤ℚ u *ℚ v
    uv-nonneg = *ℚ-cancel-≤ p (rw (zero-*ℚ, product) (<ℚ→≤ℚ 0<1))

-- ════ ℤ and fractions in ℚ ════

-- the operations and the order at a / d and b / e; the sum and the product are what the operations compute
module _ (a b : ℤ) {d e : ℕ} (p : zero < d) (q : zero < e) where
  pub ratio-≤ : (ratio a d p ≤ℚ ratio b e q) ↔ ((a *ℤ pos e) ≤ℤ (b *ℤ pos d))
  unfolding ratio
  ratio-≤ = (≤-frac _ _, ≤-mk)

  pub ratio-≡ : (ratio a d p ≡ ratio b e q) ↔ (a *ℤ pos e ≡ b *ℤ pos d)
  unfolding ratio
  ratio-≡ = (λ h. (exact h).cross, λ h. sound (record { cross = h }))

  pub ratio-+ : ratio a d p +ℚ ratio b e q ≡ ratio (a *ℤ pos e +ℤ b *ℤ pos d) (d * e) (N.mul-pos p q)
  unfolding ratio ◌+ℚ◌
  ratio-+ = refl

  pub ratio-* : ratio a d p *ℚ ratio b e q ≡ ratio (a *ℤ b) (d * e) (N.mul-pos p q)
  unfolding ratio ◌*ℚ◌
  ratio-* = refl

pub ratio-neg : (a : ℤ) {d : ℕ} (p : zero < d) → neg_ℚ (ratio a d p) ≡ ratio (neg_ℤ a) d p
unfolding ratio neg_ℚ
ratio-neg a p = refl

-- a common denominator
pub ratio-+same : (a b : ℤ) {d : ℕ} (p : zero < d) → ratio a d p +ℚ ratio b d p ≡ ratio (a +ℤ b) d p
ratio-+same a b {d} p = ratio-+ a b p p ∙ (ratio-≡ _ _ _ p).1 (cross a b (pos d))
  where
    cross : (a b d : ℤ) → (a *ℤ d +ℤ b *ℤ d) *ℤ d ≡ (a +ℤ b) *ℤ (d *ℤ d)
    cross = ring ℤ-ring 3 (λ a b d. (a :* d :+ b :* d) :* d := (a :+ b) :* (d :* d)) tt

-- an integer is the fraction over 1
pub from_ℤ-is : (a : ℤ) → from_ℤ a ≡ ratio a 1 (N.zero-lt-suc zero)
unfolding from_ℤ ratio
from_ℤ-is a = refl

pub from_ℤ-* : (a b : ℤ) → from_ℤ a *ℚ from_ℤ b ≡ from_ℤ (a *ℤ b)
unfolding from_ℤ ◌*ℚ◌
from_ℤ-* a b = sound (F.same refl refl)

pub from_ℤ-neg : (a : ℤ) → neg_ℚ (from_ℤ a) ≡ from_ℤ (neg_ℤ a)
unfolding from_ℤ neg_ℚ
from_ℤ-neg a = refl
