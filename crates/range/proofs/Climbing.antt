-- Powers as the code computes them: repeated products of a range of magnitudes give 01's D and U, with every U on the way counted, and each
-- row of 01's table comes from such a power. Assumes nothing.
use mathlib.Core.Path.{◌≡◌, refl, sym, ap, ap₂, ◌∙◌}
use mathlib.Core.Bool.{Bool, true, false, ◌&&◌, cond}
use Prim.Native.Nat.{ℕ, zero, suc, ◌+◌, ◌≤◌}
use native.Mathlib.Omega.{arith}
use native.Mathlib.Numerals.{add-one}
use lib.Dec.{T}
use lib.IntN.{ℤ, pos, neg_ℤ, ◌*ℤ◌}
use lib.Signed.{le_z, ◌≤ℤ◌, ◌<ℤ◌, le_z_yes, ≤ℤ_refl}
use Rattle.algebra.proofs.Ordered as Ord
use Rattle.algebra.proofs.Int.{ints, ℤ-ordered, neg-dif, neg-nonneg, le_z-no, <ℤ→≤ℤ, ≤ℤ-trans, ≤ℤ-antisym}
use Rattle.exact.proofs.Div.{floor_div, ceil_div}
use Rattle.range.specs.declared.Range.{Range}
use Rattle.range.specs.Limit.{from_to, least, most, over, is_valid, both_valid, kept, sticky₂}
use Rattle.range.specs.Arithmetic.{lesser_of, greater_of, ends_neg, neg_of, least_product}
use Rattle.range.specs.Arithmetic.{greatest_product, ends_product, product_of, ends_hull, hull_of}
use Rattle.range.specs.Power.{chain, D, U, ups_within, is_even, pow_above, pow_below, pow_across_even, pow_across_odd}
use Rattle.range.specs.Steps.{up_to, Magnitudes}
use Rattle.range.proofs.Valid.{T_true, true-T, false-T, not-true, ends-of, valid-of, over-invalid, if-passed, both-valid}
use Rattle.range.proofs.Extremes.{end-products, least-product, greatest-product, greater-left, greater-any}
use Rattle.range.proofs.Powers.{chain-low, chain-high, down-up, up_up, D-zero, ups-last}
use Rattle.range.proofs.Fitting.{neg-valid, neg_of-is, neg_of-over, hull_of-is, hull_of-over, over-hull_of}

-- of ranges that are not below 0, the least product is the low ends' and the greatest the high ends'
module _ (a b : Range) (p : pos 0 ≤ℤ a.low) (o : a.low ≤ℤ a.high) (q : pos 0 ≤ℤ b.low) (w : b.low ≤ℤ b.high) where
  pub product-above : ends_product a b ≡ from_to (floor_div (a.low *ℤ b.low) 10000) (ceil_div (a.high *ℤ b.high) 10000)
  unfolding ends_product
  product-above = ap₂ (λ (l h : ℤ). from_to (floor_div l 10000) (ceil_div h 10000)) low high
    where
      q' : pos 0 ≤ℤ b.high
      q' = ≤ℤ-trans q w

      p' : pos 0 ≤ℤ a.high
      p' = ≤ℤ-trans p o

      low : least_product a b ≡ a.low *ℤ b.low
      low =
          ≤ℤ-antisym
          (end-products a b).low-1
          (least-product a b (λ z. (a.low *ℤ b.low) ≤ℤ z)
          (≤ℤ_refl _)
          (Ord.mul_mono ℤ-ordered p (≤ℤ_refl _) q w)
          (Ord.mul_mono ℤ-ordered p o q (≤ℤ_refl _))
          (Ord.mul_mono ℤ-ordered p o q w))

      high : greatest_product a b ≡ a.high *ℤ b.high
      high =
          ≤ℤ-antisym
          (greatest-product a b (λ z. z ≤ℤ (a.high *ℤ b.high))
          (Ord.mul_mono ℤ-ordered p o q w)
          (Ord.mul_mono ℤ-ordered p o q' (≤ℤ_refl _))
          (Ord.mul_mono ℤ-ordered p' (≤ℤ_refl _) q w)
          (≤ℤ_refl _))
          (end-products a b).high-4

-- where r is the power k of the magnitudes m, on the way to the power e
pub record Climbed (m : Range) (e : ℕ) (r : Range) (k : ℕ) : Type 0 where
  pub begun : 1 ≤ k
  pub inside : k ≤ e
  pub power : r ≡ pow_above m k

module _ (m : Range) (v : is_valid m ≡ true) (s : le_z (pos 0) m.low ≡ true) where
  low-nonneg : pos 0 ≤ℤ m.low
  low-nonneg = le_z_yes (true-T s)

  order : m.low ≤ℤ m.high
  order = (ends-of m (true-T v)).order

  -- D and U of the ends: a valid range exactly where U is within the limit
  D-low : (k : ℕ) → pos 0 ≤ℤ D m.low k
  D-low k = chain-low down-up low-nonneg order k

  D-U : (k : ℕ) → D m.low k ≤ℤ U m.high k
  D-U k = chain-high down-up low-nonneg order k

  pub power-ends : (k : ℕ) → is_valid (from_to (D m.low k) (U m.high k)) ≡ le_z (U m.high k) most
  unfolding is_valid
  power-ends k =
      let d = D-low k in
      let u = D-U k in
      let a : least ≤ℤ D m.low k = omega ints in
      let x : le_z least (D m.low k) ≡ true = T_true a.le in
      let y : le_z (D m.low k) (U m.high k) ≡ true = T_true u.le in
      rw (x, y)

  pow_above-one : pow_above m 1 ≡ m
  unfolding pow_above ups_within chain
  pow_above-one = let x : le_z m.high most ≡ true = T_true (ends-of m (true-T v)).below.le in rw x

  -- a further step
  module _ (k : ℕ) where
    step-within : T (ups_within m.high (suc k)) → product_of (pow_above m (suc k)) m ≡ pow_above m (suc (suc k))
    unfolding product_of pow_above ups_within kept chain
    step-within t =
        let r = from_to (D m.low (suc k)) (U m.high (suc k)) in
        let x : ups_within m.high (suc k) ≡ true = T_true t in
        let w : is_valid r ≡ true = power-ends (suc k) ∙ T_true (ups-last m.high k t).le in
        ap (λ (x : Range). sticky₂ ends_product x m) (if-passed (ups_within m.high (suc k)) r over t)
        ∙ if-passed (both_valid r m) (kept (ends_product r m)) over (both-valid r m (true-T w) (true-T v))
        ∙ ap kept (product-above r m (D-low (suc k)) (D-U (suc k)) low-nonneg order)
        ∙ ap (λ (b : Bool). cond b (from_to (D m.low (suc (suc k))) (U m.high (suc (suc k)))) over)
        (power-ends (suc (suc k)) ∙ sym (ap (λ (b : Bool). b && le_z (U m.high (suc (suc k))) most) x))

    step-over : ups_within m.high (suc k) ≡ false → product_of (pow_above m (suc k)) m ≡ pow_above m (suc (suc k))
    unfolding product_of pow_above ups_within both_valid
    step-over e = let x : is_valid over ≡ false = not-true over-invalid in rw (e, x)

    pow_above-step : product_of (pow_above m (suc k)) m ≡ pow_above m (suc (suc k))
    pow_above-step = go (ups_within m.high (suc k)) refl
      where
        go : (b : Bool) → ups_within m.high (suc k) ≡ b → product_of (pow_above m (suc k)) m ≡ pow_above m (suc (suc k))
        go true e = step-within (true-T e)
        go false e = step-over e

  pow_above-more : (k : ℕ) → 1 ≤ k → product_of (pow_above m k) m ≡ pow_above m (suc k)
  pow_above-more zero h = let f : ⊥ = omega arith in absurd f
  pow_above-more (suc k) h = pow_above-step k

  module _ (e : ℕ) where
    pub climb-start : 1 ≤ e → Climbed m e m 1
    climb-start h = record { begun = omega arith; inside = h; power = sym pow_above-one }

    pub climb-next : (r s : Range) (k : ℕ) → Climbed m e r k → suc k ≤ e → s ≡ product_of r m → Climbed m e s (k + 1)
    climb-next r s k i h p = record {
      begun = omega arith;
      inside = omega arith;
      power = p ∙ ap (λ (x : Range). product_of x m) i.power ∙ pow_above-more k i.begun ∙ ap (pow_above m) (sym (add-one k));
    }

    pub climb-end : (r : Range) (k : ℕ) → Climbed m e r k → e ≤ k → r ≡ pow_above m e
    climb-end r k i h = let q : k ≡ e = omega arith in rw (← q) i.power

-- ---- the rows of 01's table, by the powers of magnitudes
-- a magnitude, from 0
module _ (z : ℤ) (p : pos 0 ≤ℤ z) (q : z ≤ℤ most) where
  pub up_to-valid : is_valid (up_to z) ≡ true
  up_to-valid = T_true (valid-of (up_to z) (record { above = le_z_yes tt; order = p; below = q }))

  pub up_to-power : (e : ℕ) → 1 ≤ e → pow_above (up_to z) e ≡ cond (ups_within z e) (up_to (U z e)) over
  unfolding pow_above
  up_to-power zero h = let f : ⊥ = omega arith in absurd f
  up_to-power (suc e) h = ap (λ (l : ℤ). cond (ups_within z (suc e)) (from_to l (U z (suc e))) over) (D-zero e)

-- the magnitudes of a range that is not above 0, and on either side of 0
module _ (a : Range) where
  pub neg-above : le_z a.high (pos 0) ≡ true → le_z (pos 0) (neg_ℤ a.high) ≡ true
  neg-above s = T_true (neg-nonneg {a = a.high} (le_z_yes (true-T s))).le

  module _ (v : is_valid a ≡ true) where
    low-few : neg_ℤ a.low ≤ℤ most
    low-few = let i = ends-of a (true-T v) in omega (ints, neg-dif a.low)

    pub low-magnitude : le_z (pos 0) a.low ≡ false → is_valid (up_to (neg_ℤ a.low)) ≡ true
    low-magnitude s = let l : a.low <ℤ pos 0 = le_z-no (false-T s) in up_to-valid (neg_ℤ a.low) (omega (ints, neg-dif a.low)) low-few

    pub high-magnitude : le_z a.high (pos 0) ≡ false → is_valid (up_to a.high) ≡ true
    high-magnitude s = let l : pos 0 <ℤ a.high = le_z-no (false-T s) in up_to-valid a.high (omega ints) (ends-of a (true-T v)).below

    across-low : le_z (pos 0) a.low ≡ false → pos 0 ≤ℤ greater_of (neg_ℤ a.low) a.high
    across-low s = ≤ℤ-trans (neg-nonneg {a = a.low} (<ℤ→≤ℤ (le_z-no (false-T s)))) (greater-left (neg_ℤ a.low) a.high)

    across-high : greater_of (neg_ℤ a.low) a.high ≤ℤ most
    across-high = greater-any (neg_ℤ a.low) a.high (λ z. z ≤ℤ most) low-few (ends-of a (true-T v)).below

    pub across-magnitude : le_z (pos 0) a.low ≡ false → is_valid (up_to (greater_of (neg_ℤ a.low) a.high)) ≡ true
    across-magnitude s = up_to-valid (greater_of (neg_ℤ a.low) a.high) (across-low s) across-high

-- what the code makes: magnitudes below 0, and the farther of the two sides
pub magnitudes : {r m : Range} {e : ℕ} → r ≡ m → is_valid m ≡ true → le_z (pos 0) m.low ≡ true → 1 ≤ e → Magnitudes r e
magnitudes p v s h = record { valid = ap is_valid p ∙ v; sign = ap (λ (r : Range). le_z (pos 0) r.low) p ∙ s; some = h }

module _ (a : Range) {n x : Range} (p : n ≡ ends_neg a) (q : x ≡ up_to n.high) where
  pub low-made : x ≡ up_to (neg_ℤ a.low)
  low-made = q ∙ ap (λ (r : Range). up_to r.high) p

  pub farther-made : {y h : Range} → y ≡ up_to a.high → h ≡ ends_hull x y → h ≡ up_to (greater_of (neg_ℤ a.low) a.high)
  farther-made r s = s ∙ ap₂ ends_hull low-made r

-- the hull of [−x, 0] and [0, y]
split-hull : (x y : ℤ) → pos 0 ≤ℤ x → x ≤ℤ most → pos 0 ≤ℤ y → y ≤ℤ most → hull_of (neg_of (up_to x)) (up_to y) ≡ from_to (neg_ℤ x) y
split-hull x y p q r s =
    let n = neg_of-is (up_to x) (up_to-valid x p q) in
    ap (λ (z : Range). hull_of z (up_to y)) n
    ∙ hull_of-is (ends_neg (up_to x)) (up_to y) (neg-valid (up_to x) (up_to-valid x p q)) (up_to-valid y r s)
    ∙ ap₂ from_to low high
  where
    low : lesser_of (neg_ℤ x) (pos 0) ≡ neg_ℤ x
    low = let h : neg_ℤ x ≤ℤ pos 0 = omega (ints, neg-dif x) in if-passed (le_z (neg_ℤ x) (pos 0)) (neg_ℤ x) (pos 0) h.le

    high : greater_of (neg_ℤ (pos 0)) y ≡ y
    high = if-passed (le_z (pos 0) y) y (pos 0) r.le

module _ (a : Range) (v : is_valid a ≡ true) (e : ℕ) (h : 1 ≤ e) where
  pub below-even : {z : Range} → is_even e ≡ true → z ≡ pow_above (ends_neg a) e → z ≡ pow_below a e
  unfolding pow_above pow_below
  below-even t p = p ∙ rw t

  -- the powers of valid magnitudes are a range where every U counts
  counted : (m : Range) → is_valid m ≡ true → le_z (pos 0) m.low ≡ true → (e : ℕ) → 1 ≤ e → T (ups_within m.high e)
      → is_valid (from_to (D m.low e) (U m.high e)) ≡ true
  counted m w s zero h t = let f : ⊥ = omega arith in absurd f
  counted m w s (suc e) h t = power-ends m w s (suc e) ∙ T_true (ups-last m.high e t).le

  pub below-odd : {z : Range} → le_z a.high (pos 0) ≡ true → is_even e ≡ false → z ≡ neg_of (pow_above (ends_neg a) e) → z ≡ pow_below a e
  unfolding pow_above pow_below
  below-odd {z} s t p = p ∙ go (ups_within (neg_ℤ a.low) e) refl
    where
      ends : Range
      ends = from_to (D (neg_ℤ a.high) e) (U (neg_ℤ a.low) e)

      go : (b : Bool) → ups_within (neg_ℤ a.low) e ≡ b → neg_of (cond b ends over) ≡ cond b (cond (is_even e) ends (ends_neg ends)) over
      go true x = rw t (neg_of-is ends (counted (ends_neg a) (neg-valid a v) (neg-above a s) e h (true-T x)))
      go false x = neg_of-over

  pub across-even : {z : Range} → le_z (pos 0) a.low ≡ false → z ≡ pow_above (up_to (greater_of (neg_ℤ a.low) a.high)) e
      → z ≡ pow_across_even a e
  unfolding pow_across_even
  across-even s p = p ∙ up_to-power (greater_of (neg_ℤ a.low) a.high) (across-low a v s) (across-high a v) e h

  pub across-odd : {z : Range} → le_z (pos 0) a.low ≡ false → le_z a.high (pos 0) ≡ false
      → z ≡ hull_of (neg_of (pow_above (up_to (neg_ℤ a.low)) e)) (pow_above (up_to a.high) e) → z ≡ pow_across_odd a e
  unfolding pow_across_odd
  across-odd {z} s t p =
      let i = ends-of a (true-T v) in
      let l : a.low <ℤ pos 0 = le_z-no (false-T s) in
      let u : pos 0 <ℤ a.high = le_z-no (false-T t) in
      let low : pos 0 ≤ℤ neg_ℤ a.low = omega (ints, neg-dif a.low) in
      let high : pos 0 ≤ℤ a.high = omega ints in
      let few : neg_ℤ a.low ≤ℤ most = omega (ints, neg-dif a.low) in
      p
      ∙ ap₂ (λ (x y : Range). hull_of (neg_of x) y) (up_to-power (neg_ℤ a.low) low few e h) (up_to-power a.high high i.below e h)
      ∙ go (ups_within (neg_ℤ a.low) e) (ups_within a.high e)
      (λ x. up_to-U (neg_ℤ a.low) low few e h x) (λ x. up_to-U a.high high i.below e h x)
    where
      -- a power from 0 is a range where every U counts
      up_to-U : (z : ℤ) → pos 0 ≤ℤ z → z ≤ℤ most → (e : ℕ) → 1 ≤ e → T (ups_within z e) → (pos 0 ≤ℤ U z e) × (U z e ≤ℤ most)
      up_to-U z p q zero h t = let f : ⊥ = omega arith in absurd f
      up_to-U z p q (suc e) h t = (chain-low up_up p (≤ℤ_refl z) (suc e), ups-last z e t)

      go : (b c : Bool) → (T b → (pos 0 ≤ℤ U (neg_ℤ a.low) e) × (U (neg_ℤ a.low) e ≤ℤ most))
          → (T c → (pos 0 ≤ℤ U a.high e) × (U a.high e ≤ℤ most))
          → hull_of (neg_of (cond b (up_to (U (neg_ℤ a.low) e)) over)) (cond c (up_to (U a.high e)) over)
          ≡ cond (b && c) (from_to (neg_ℤ (U (neg_ℤ a.low) e)) (U a.high e)) over
      go true true f g = split-hull _ _ (f tt).0 (f tt).1 (g tt).0 (g tt).1
      go true false f g = hull_of-over _
      go false c f g = ap (λ (x : Range). hull_of x (cond c (up_to (U a.high e)) over)) neg_of-over ∙ over-hull_of _
