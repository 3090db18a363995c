-- The operations beside 01's arithmetic without a limit: of operands that are what that arithmetic gives, or `over`, the result is so too,
-- and it is `over` exactly where an operand is or an end of the result passes the limit. Assumes nothing.
use mathlib.Core.Path.{◌≡◌, refl, sym, ap, ◌∙◌}
use mathlib.Core.Bool.{Bool, true, false, ◌&&◌, cond}
use mathlib.Core.List.{List}
use Prim.Native.Nat.{ℕ, zero, suc}
use lib.Dec.{T, eqb-suc-zero}
use lib.IntN.{ℤ, pos, neg_ℤ}
use lib.Signed.{le_z, le_z_yes}
use Rattle.algebra.proofs.Int.{ints, neg-dif}
use Rattle.range.specs.declared.Range.{Range}
use Rattle.range.specs.Limit.{from_to, least, most, over, is_valid, both_valid, kept, sticky₁, sticky₂}
use Rattle.range.specs.Arithmetic.{greater_of, ends_sum, ends_neg, ends_times, ends_product, ends_inverse, ends_hull, holds_zero, sum_of, neg_of, times_of, product_of, inverse_of, hull_of}
use Rattle.range.specs.Power.{D, U, ups_within, is_even, ends_above, ends_below, ends_across_even, ends_across_odd, pow_above, pow_below, pow_across_even, pow_across_odd, pow_across, pow_by_sign, pow_of, ends_pow}
use Rattle.range.specs.Sums.{valid_over, ends_products, products_of, ends_squares, squares_of, ends_root, root_of}
use Rattle.range.specs.Star.{ends_star, is_half, star_of}
use Rattle.range.specs.Steps.{up_to}
use Rattle.range.proofs.Valid.{T_true, true-T, false-T, not-true, and_left, and_right, and_both, ends-of, valid-of, over-invalid, if-passed}
use Rattle.range.proofs.Powers.{D-zero, ups-last}
use Rattle.range.proofs.PowerForms.{pow_of_valid}
use Rattle.range.proofs.Climbing.{power-ends, neg-above, low-magnitude, high-magnitude, across-magnitude}
use Rattle.range.proofs.Fitting.{neg-valid}
use Rattle.range.proofs.Ordered.{Ordered, sum-ordered, neg-ordered, times-ordered, product-ordered, hull-ordered, inverse-ordered, products-ordered, squares-ordered, root-ordered}
use Rattle.range.proofs.StarLaws.{star-valid}

-- no end passes the limit
abbrev pub fits : Range → Bool
fits r = le_z least r.low && le_z r.high most

-- a, worked out with a limit, beside u, worked out without one, and the test c of the ends on the way: where it passes, a is u, a valid
-- range, and elsewhere `over`.
pub record Limited (a u : Range) (c : Bool) : Type 0 where
  pub is : a ≡ cond c u over
  pub valid : T c → T (is_valid u)

-- valid exactly where the test passes
pub limited-valid : {a u : Range} {c : Bool} → Limited a u c → is_valid a ≡ c
unfolding is_valid
limited-valid {a} {u} {c} l = ap is_valid l.is ∙ go c l.valid
  where
    go : (c : Bool) → (T c → T (is_valid u)) → is_valid (cond c u over) ≡ c
    go true f = T_true (f tt)
    go false f = refl

-- ---- tests and kept results
pub given-limited : {r : Range} → T (is_valid r) → Limited r r true
given-limited t = record { is = refl; valid = λ u. t }

over-limited : {u : Range} → Limited over u false
over-limited = record { is = refl; valid = λ t. absurd t }

-- ends in order are a valid range exactly where none passes the limit
fits-valid : (r : Range) → Ordered r → T (fits r) → T (is_valid r)
fits-valid r o t =
    let above = le_z least r.low in
    let below = le_z r.high most in
    valid-of r (record { above = le_z_yes (and_left above below t); order = o; below = le_z_yes (and_right above below t) })

valid-fits : (r : Range) → T (is_valid r) → T (fits r)
valid-fits r t = let e = ends-of r t in and_both (le_z least r.low) _ e.above.le e.below.le

kept-limited : (r : Range) → Ordered r → Limited (kept r) r (fits r)
unfolding kept is_valid
kept-limited r o = let e : le_z r.low r.high ≡ true = T_true o.le in record { is = rw e; valid = fits-valid r o }

-- ---- sticky operations whose ends are in order where their operands' are
over-not : is_valid over ≡ false
over-not = not-true over-invalid

module _ (f : Range → Range) (ordered : (u : Range) → Ordered u → Ordered (f u)) where
  limited₁ : {a u : Range} {p : Bool} → Limited a u p → Limited (sticky₁ f a) (f u) (p && fits (f u))
  limited₁ {a} {u} {p} l = rw l.is (go p l.valid)
    where
      go : (p : Bool) → (T p → T (is_valid u)) → Limited (sticky₁ f (cond p u over)) (f u) (p && fits (f u))
      go true v = let e : is_valid u ≡ true = T_true (v tt) in rw e (kept-limited (f u) (ordered u (ends-of u (v tt)).order))
      go false v = rw over-not over-limited

module _ (f : Range → Range → Range) (ordered : (u v : Range) → Ordered u → Ordered v → Ordered (f u v)) where
  limited₂ : {a b u v : Range} {p q : Bool} → Limited a u p → Limited b v q → Limited (sticky₂ f a b) (f u v) (p && (q && fits (f u v)))
  unfolding both_valid
  limited₂ {u = u} {v = v} {p = p} {q = q} l m = rw (l.is, m.is) (go p q l.valid m.valid)
    where
      go : (p q : Bool) → (T p → T (is_valid u)) → (T q → T (is_valid v))
          → Limited (sticky₂ f (cond p u over) (cond q v over)) (f u v) (p && (q && fits (f u v)))
      go true true g h =
          let d : is_valid u ≡ true = T_true (g tt) in
          let e : is_valid v ≡ true = T_true (h tt) in
          rw (d, e) (kept-limited (f u v) (ordered u v (ends-of u (g tt)).order (ends-of v (h tt)).order))
      go true false g h = let d : is_valid u ≡ true = T_true (g tt) in rw (d, over-not) over-limited
      go false q g h = rw over-not over-limited

-- ---- the operations
module _ {a b u v : Range} {p q : Bool} (l : Limited a u p) (m : Limited b v q) where
  pub sum-limited : Limited (sum_of a b) (ends_sum u v) (p && (q && fits (ends_sum u v)))
  unfolding sum_of
  sum-limited = limited₂ ends_sum sum-ordered l m

  pub product-limited : Limited (product_of a b) (ends_product u v) (p && (q && fits (ends_product u v)))
  unfolding product_of
  product-limited = limited₂ ends_product (λ u v o w. product-ordered u v) l m

  pub hull-limited : Limited (hull_of a b) (ends_hull u v) (p && (q && fits (ends_hull u v)))
  unfolding hull_of
  hull-limited = limited₂ ends_hull hull-ordered l m

module _ {a u : Range} {p : Bool} (l : Limited a u p) where
  pub neg-limited : Limited (neg_of a) (ends_neg u) (p && fits (ends_neg u))
  unfolding neg_of
  neg-limited = limited₁ ends_neg neg-ordered l

  pub times-limited : (k : ℕ) → Limited (times_of k a) (ends_times k u) (p && fits (ends_times k u))
  unfolding times_of
  times-limited k = limited₁ (ends_times k) (times-ordered k) l

  -- of a range that does not hold 0: refusal 11 comes before
  pub inverse-limited : holds_zero u ≡ false → Limited (inverse_of a) (ends_inverse u) (p && fits (ends_inverse u))
  unfolding inverse_of
  inverse-limited n = rw l.is (go p l.valid)
    where
      go : (p : Bool) → (T p → T (is_valid u)) → Limited (inverse_of (cond p u over)) (ends_inverse u) (p && fits (ends_inverse u))
      go true v =
          let e : is_valid u ≡ true = T_true (v tt) in
          rw (n, e) (kept-limited (ends_inverse u) (inverse-ordered u (false-T n) (ends-of u (v tt)).order))
      go false v = rw over-not over-limited

-- ---- sums over a set of which the members are valid
module _ (s : ℕ) (g h : List Range) (t : T (valid_over s g)) (w : T (valid_over s h)) where
  members-limited : (r : Range) → Ordered r → Limited (cond (valid_over s g && valid_over s h) (kept r) over) r (fits r)
  members-limited r o = let d : valid_over s g ≡ true = T_true t in let e : valid_over s h ≡ true = T_true w in rw (d, e) (kept-limited r o)

  pub products-limited : Limited (products_of s g h) (ends_products s g h) (fits (ends_products s g h))
  unfolding products_of
  products-limited = members-limited (ends_products s g h) (products-ordered s g h)

  pub root-limited : Limited (root_of s g h) (ends_root s g h) (fits (ends_root s g h))
  unfolding root_of
  root-limited = members-limited (ends_root s g h) (root-ordered s g h)

pub squares-limited : (s : ℕ) (g : List Range) → T (valid_over s g) → Limited (squares_of s g) (ends_squares s g) (fits (ends_squares s g))
unfolding squares_of
squares-limited s g t = let d : valid_over s g ≡ true = T_true t in rw d (kept-limited (ends_squares s g) (squares-ordered s g))

-- ---- powers
-- the test of the U values that count, by the signs of the ends
abbrev pub ups_test : Range → ℕ → Bool
ups_test r e =
    cond (le_z (pos 0) r.low) (ups_within r.high e)
    (cond (le_z r.high (pos 0)) (ups_within (neg_ℤ r.low) e)
    (cond (is_even e) (ups_within (greater_of (neg_ℤ r.low) r.high) e) (ups_within (neg_ℤ r.low) e && ups_within r.high e)))

-- a row of 01's, with the test of its U values and its ends, which are a valid range where that test passes
record Row (a u : Range) (c : Bool) : Type 0 where
  limited : Limited a u (c && fits u)

row : (c : Bool) (r : Range) → (T c → T (is_valid r)) → Row (cond c r over) r c
row true r f = record { limited = record { is = sym (if-passed (fits r) r over (valid-fits r (f tt))); valid = λ t. f tt } }
row false r f = record { limited = over-limited }

either-row : {a b u v : Range} {p q : Bool} (c : Bool) → (c ≡ true → Row a u p) → (c ≡ false → Row b v q)
    → Row (cond c a b) (cond c u v) (cond c p q)
either-row true f g = f refl
either-row false f g = g refl

-- D of the least magnitude and U of the greatest are a range where every U counts
counted : (m : Range) (e : ℕ) → is_valid m ≡ true → le_z (pos 0) m.low ≡ true → T (ups_within m.high (suc e))
    → is_valid (from_to (D m.low (suc e)) (U m.high (suc e))) ≡ true
counted m e v s t = power-ends m v s (suc e) ∙ T_true (ups-last m.high e t).le

-- each row is a valid range where its U values count
module _ (r : Range) (v : is_valid r ≡ true) (e : ℕ) where
  above-valid : le_z (pos 0) r.low ≡ true → T (ups_within r.high (suc e)) → T (is_valid (ends_above r (suc e)))
  above-valid s t = true-T (counted r e v s t)

  below-valid : le_z r.high (pos 0) ≡ true → T (ups_within (neg_ℤ r.low) (suc e)) → T (is_valid (ends_below r (suc e)))
  below-valid s t = go (is_even (suc e)) _ (counted (ends_neg r) e (neg-valid r v) (neg-above r s) t)
    where
      go : (c : Bool) (ends : Range) → is_valid ends ≡ true → T (is_valid (cond c ends (ends_neg ends)))
      go true ends w = true-T w
      go false ends w = true-T (neg-valid ends w)

  -- from 0 to U of a magnitude
  up-valid : (m : ℤ) → is_valid (up_to m) ≡ true → T (ups_within m (suc e)) → T (is_valid (up_to (U m (suc e))))
  up-valid m w t = true-T (rw (D-zero e) at (counted (up_to m) e w refl t))

  module _ (s : le_z (pos 0) r.low ≡ false) where
    across-even-valid : T (ups_within (greater_of (neg_ℤ r.low) r.high) (suc e)) → T (is_valid (ends_across_even r (suc e)))
    across-even-valid t = up-valid (greater_of (neg_ℤ r.low) r.high) (across-magnitude r v s) t

    across-odd-valid : le_z r.high (pos 0) ≡ false → T (ups_within (neg_ℤ r.low) (suc e) && ups_within r.high (suc e))
        → T (is_valid (ends_across_odd r (suc e)))
    across-odd-valid z t =
        let below = ups_within (neg_ℤ r.low) (suc e) in
        let above = ups_within r.high (suc e) in
        let m = ends-of (up_to (U (neg_ℤ r.low) (suc e))) (up-valid (neg_ℤ r.low) (low-magnitude r v s) (and_left below above t)) in
        let n = ends-of (up_to (U r.high (suc e))) (up-valid r.high (high-magnitude r v z) (and_right below above t)) in
        let d = neg-dif (U (neg_ℤ r.low) (suc e)) in
        valid-of (ends_across_odd r (suc e)) (record { above = omega ints; order = omega ints; below = n.below })

  rows : Row (pow_of_valid r (suc e)) (ends_pow r (suc e)) (ups_test r (suc e))
  unfolding pow_by_sign pow_above pow_below pow_across pow_across_even pow_across_odd ends_pow
  rows =
      let below = ups_within (neg_ℤ r.low) (suc e) in
      let above = ups_within r.high (suc e) in
      rw (eqb-suc-zero e)
      (either-row (le_z (pos 0) r.low) (λ s. row above (ends_above r (suc e)) (above-valid s))
      (λ s. either-row (le_z r.high (pos 0)) (λ z. row below (ends_below r (suc e)) (below-valid z))
      (λ z. either-row (is_even (suc e))
      (λ i. row (ups_within (greater_of (neg_ℤ r.low) r.high) (suc e)) (ends_across_even r (suc e)) (across-even-valid s))
      (λ i. row (below && above) (ends_across_odd r (suc e)) (across-odd-valid s z)))))

-- the power 0 has no U value
ups-none : (r : Range) → ups_test r zero ≡ true
unfolding ups_within
ups-none r = go (le_z (pos 0) r.low) (le_z r.high (pos 0))
  where
    go : (b c : Bool) → cond b true (cond c true true) ≡ true
    go true c = refl
    go false true = refl
    go false false = refl

pub power-limited : {a u : Range} {p : Bool} (e : ℕ) → Limited a u p
    → Limited (pow_of a e) (ends_pow u e) (p && (ups_test u e && fits (ends_pow u e)))
unfolding pow_of ends_pow is_valid
power-limited {u = u} {p = p} e l = rw l.is (go p l.valid e)
  where
    go : (p : Bool) → (T p → T (is_valid u)) → (e : ℕ)
        → Limited (pow_of (cond p u over) e) (ends_pow u e) (p && (ups_test u e && fits (ends_pow u e)))
    go true v zero = let d : is_valid u ≡ true = T_true (v tt) in rw (d, ups-none u) (given-limited tt)
    go true v (suc e) = let d : is_valid u ≡ true = T_true (v tt) in rw d (rows u d e).limited
    go false v e = rw over-not over-limited

-- ---- request 4's rule: twice each operand is tested
half-limited : {a u : Range} {p : Bool} → Limited a u p → is_half a ≡ (p && fits (ends_times 2 u))
unfolding is_half is_valid
half-limited {a} {u} {p} l = rw l.is (go p l.valid)
  where
    go : (p : Bool) → (T p → T (is_valid u)) → is_half (cond p u over) ≡ (p && fits (ends_times 2 u))
    go true v =
        let d = ends_times 2 u in
        let e : le_z d.low d.high ≡ true = T_true (times-ordered 2 u (ends-of u (v tt)).order).le in
        rw e
    go false v = refl

-- what an operand is where its test passes
limited-is : {a u : Range} {p : Bool} (q : Bool) → Limited a u p → T (p && q) → a ≡ u
limited-is {u = u} {p = p} q l t = l.is ∙ if-passed p u over (and_left p q t)

pub star-limited : {a b c u v w : Range} {p q r : Bool} → Limited a u p → Limited b v q → Limited c w r
    → Limited (star_of a b c) (ends_star u v w)
    ((p && fits (ends_times 2 u)) && ((q && fits (ends_times 2 v)) && ((r && fits (ends_times 2 w)) && fits (ends_star u v w))))
unfolding star_of
star-limited {a} {b} {c} {u} {v} {w} l m n =
    let d = half-limited l in
    let e = half-limited m in
    let f = half-limited n in
    rw (d, e, f) (go _ _ _ d e f (limited-is _ l) (limited-is _ m) (limited-is _ n))
  where
    go : (P Q R : Bool) → is_half a ≡ P → is_half b ≡ Q → is_half c ≡ R → (T P → a ≡ u) → (T Q → b ≡ v) → (T R → c ≡ w)
        → Limited (cond (P && (Q && R)) (ends_star a b c) over) (ends_star u v w) (P && (Q && (R && fits (ends_star u v w))))
    go true true true d e f x y z =
        let ends = ends_star u v w in
        let t : T (is_valid ends) = rw (x tt, y tt, z tt) at (star-valid (record { first = true-T d; second = true-T e; third = true-T f })) in
        rw (x tt, y tt, z tt) (record { is = sym (if-passed (fits ends) ends over (valid-fits ends t)); valid = λ u. t })
    go true true false d e f x y z = over-limited
    go true false R d e f x y z = over-limited
    go false Q R d e f x y z = over-limited
