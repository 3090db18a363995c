-- Inclusion isotonicity: valid narrower operands give a valid narrower result, `isotonicity`. Assumes nothing.
use mathlib.Core.Bool.{Bool, true, false, ◌&&◌, not, cond}
use mathlib.Core.List.{List}
use mathlib.Core.Logic.{inl, inr}
use Prim.Native.Nat.{ℕ, zero, suc, ◌*◌, ◌<◌, zero-le}
use native.Mathlib.Nat as N
use lib.Dec.{T}
use lib.IntN.{ℤ, pos, ◌*ℤ◌, nat_abs}
use lib.Signed.{le_z, ◌≤ℤ◌, ≤ℤ_refl, <ℤ-≤ℤ_trans, le_z_yes}
use Rattle.algebra.proofs.Ordered as Ord
use Rattle.algebra.proofs.Int.{ℤ-ordered}
use Rattle.algebra.proofs.Int.{ints, neg-dif, +ℤ-mono, neg-anti, pos-≤, nat_abs-mono, ≤ℤ-trans, ≤ℤ-<ℤ-trans}
use Rattle.exact.proofs.Div.{floor-mono, ceil-mono, floor≤ceil}
use Rattle.exact.proofs.Sqrt.{ceil_sqrt, ceil-root-mono}
use Rattle.range.specs.declared.Range.{Range}
use Rattle.range.specs.Limit.{from_to, one_range, over, is_valid, kept}
use Rattle.range.specs.Arithmetic.{lesser_of, greater_of, least_product, greatest_product, ends_sum, ends_neg, ends_times, ends_product}
use Rattle.range.specs.Arithmetic.{ends_inverse, ends_hull, holds_zero, sum_of, neg_of, times_of, product_of, inverse_of, hull_of}
use Rattle.range.specs.Power.{chain, ups_within, is_even, pow_of}
use Rattle.range.specs.Sums.{has, at, valid_over, ends_products, products_of, largest_square, square_sum, squares_of, root_sum, ends_root, root_of}
use Rattle.range.specs.Laws.{◌⊑◌, Narrower, Isotonicity}
use Rattle.range.proofs.Valid.{and_left, and_right, and_both, ends-of, sticky₁-of}
use Rattle.range.proofs.Extremes.{end-products, least-product, greatest-product, lesser-any}
use Rattle.range.proofs.Extremes.{greater-any, lesser-left, lesser-right, greater-left, greater-right}
use Rattle.range.proofs.Powers.{ten-thousand, Grows, chain-high, down-down, down-up, up_up}
use Rattle.range.proofs.PowerForms.{above_zero, below_zero, farthest, pow_even, odd_within, pow_odd}
use Rattle.range.proofs.PowerForms.{pow_of_valid, pow-form, ups-mono, above-mono, below-anti}
use Rattle.exact.proofs.Div.{OneSign, floor_quot-anti, ceil_quot-anti, floor_quot≤ceil_quot}
use Rattle.range.proofs.Inverting.{one-sign}
use Rattle.range.proofs.SumOver.{sum_over-mono, members-valid, valid-over, square_sum-nonneg}
use Rattle.range.proofs.Roots.{around_of}
use Rattle.range.proofs.Within.{Within, within_of, within-⊑, ⊑_refl, if-isotone}
use Rattle.range.proofs.Narrowing.{times-within, nearest-anti, farthest-mono, ordered, farthest-nonneg}
use Rattle.range.proofs.StarLaws.{star-isotone}
use Rattle.range.proofs.Within.{unless-isotone, kept-isotone, sticky₁-isotone, sticky₂-isotone}

-- ---- sum, negation, multiple, hull
module _ {a b c d : Range} (m : Within a c) (n : Within b d) where
  sum-within : Within (ends_sum a b) (ends_sum c d)
  sum-within = record { low = +ℤ-mono m.low n.low; order = +ℤ-mono m.order n.order; high = +ℤ-mono m.high n.high }

  hull-within : Within (ends_hull a b) (ends_hull c d)
  hull-within = record {
    low = lesser-any a.low b.low (λ z. lesser_of c.low d.low ≤ℤ z)
        (≤ℤ-trans (lesser-left c.low d.low) m.low)
        (≤ℤ-trans (lesser-right c.low d.low) n.low);
    order = ≤ℤ-trans (lesser-left a.low b.low) (≤ℤ-trans m.order (greater-left a.high b.high));
    high = greater-any a.high b.high (λ z. z ≤ℤ greater_of c.high d.high)
        (≤ℤ-trans m.high (greater-left c.high d.high))
        (≤ℤ-trans n.high (greater-right c.high d.high));
  }

module _ {a c : Range} (w : Within a c) where
  neg-within : Within (ends_neg a) (ends_neg c)
  neg-within = record { low = neg-anti w.high; order = neg-anti w.order; high = neg-anti w.low }

-- ---- product
module _ {a b c d : Range} (m : Within a c) (n : Within b d) where
  -- a product of numbers in the narrower operands lies between the extremes of the wider ones' end products
  between : {x y : ℤ} → a.low ≤ℤ x → x ≤ℤ a.high → b.low ≤ℤ y → y ≤ℤ b.high
      → (least_product c d ≤ℤ (x *ℤ y)) × ((x *ℤ y) ≤ℤ greatest_product c d)
  between p q r s =
      let e = end-products c d in
      let p' = ≤ℤ-trans m.low p in
      let q' = ≤ℤ-trans q m.high in
      let r' = ≤ℤ-trans n.low r in
      let s' = ≤ℤ-trans s n.high in (
        Ord.product-lower ℤ-ordered p' q' r' s' e.low-1 e.low-2 e.low-3 e.low-4,
        Ord.product-upper ℤ-ordered p' q' r' s' e.high-1 e.high-2 e.high-3 e.high-4,
      )

  product-within : Within (ends_product a b) (ends_product c d)
  unfolding ends_product
  product-within =
      let al = ≤ℤ_refl a.low in
      let ah = ≤ℤ_refl a.high in
      let bl = ≤ℤ_refl b.low in
      let bh = ≤ℤ_refl b.high in
      let ll = between al m.order bl n.order in
      let lh = between al m.order n.order bh in
      let hl = between m.order ah bl n.order in
      let hh = between m.order ah n.order bh in
      let e = end-products a b in
      record {
        low = floor-mono ten-thousand (least-product a b (λ z. least_product c d ≤ℤ z) ll.0 lh.0 hl.0 hh.0);
        order = ≤ℤ-trans (floor≤ceil (least_product a b) ten-thousand) (ceil-mono ten-thousand (≤ℤ-trans e.low-1 e.high-1));
        high = ceil-mono ten-thousand (greatest-product a b (λ z. z ≤ℤ greatest_product c d) ll.1 lh.1 hl.1 hh.1);
      }

-- ---- inverse
-- a part of a range that is on one side of 0
part-sign : {x y u v : ℤ} → x ≤ℤ u → v ≤ℤ y → OneSign x y → OneSign u v
part-sign h k (inl o) = inl (<ℤ-≤ℤ_trans o h)
part-sign h k (inr o) = inr (≤ℤ-<ℤ-trans k o)

module _ {a c : Range} (w : Within a c) where
  zero-wider : T (holds_zero a) → T (holds_zero c)
  zero-wider t =
      let l : a.low ≤ℤ pos 0 = le_z_yes (and_left (le_z a.low (pos 0)) (le_z (pos 0) a.high) t) in
      let h : pos 0 ≤ℤ a.high = le_z_yes (and_right (le_z a.low (pos 0)) (le_z (pos 0) a.high) t) in
      and_both (le_z c.low (pos 0)) (le_z (pos 0) c.high) (≤ℤ-trans w.low l).le (≤ℤ-trans h w.high).le

  inverse-within : T (not (holds_zero c)) → Within (ends_inverse a) (ends_inverse c)
  unfolding ends_inverse
  inverse-within t =
      let o = one-sign c t in
      let n : pos 0 ≤ℤ pos 100000000 = pos-≤ zero-le in
      record {
        low = floor_quot-anti n w.high (part-sign (≤ℤ-trans w.low w.order) (≤ℤ_refl c.high) o);
        order = floor_quot≤ceil_quot n w.order (part-sign w.low w.high o);
        high = ceil_quot-anti n w.low (part-sign (≤ℤ_refl c.low) (≤ℤ-trans w.order w.high) o);
      }

inverse-isotone : {a c : Range} → a ⊑ c → inverse_of a ⊑ inverse_of c
unfolding inverse_of
inverse-isotone {a} {c} n =
    unless-isotone (holds_zero a) (holds_zero c)
    (λ t. zero-wider (within_of n (sticky₁-of ends_inverse c t).operand))
    (λ t. sticky₁-isotone ends_inverse (λ w. inverse-within w t) n)

-- ---- power
grow : {f g : ℤ → ℤ} → Grows f g → {k : ℕ} {m : ℤ} → pos k ≤ℤ m → (e : ℕ) → chain f (pos k) e ≤ℤ chain g m e
grow s h e = chain-high s (pos-≤ zero-le) h e

module _ {a c : Range} (w : Within a c) where
  module _ (e : ℕ) where
    even-isotone : pow_even a e ⊑ pow_even c e
    even-isotone =
        if-isotone (ups_within (farthest a) e) (ups_within (farthest c) e)
        (ups-mono (farthest-nonneg w) (farthest-mono w) e)
        (λ t. within-⊑ (record {
          low = grow down-down (nearest-anti w) e;
          order = grow down-up (ordered w) e;
          high = chain-high up_up (farthest-nonneg w) (farthest-mono w) e;
        }))

    odd-isotone : pow_odd a e ⊑ pow_odd c e
    odd-isotone =
        let low_below = below-anti w.low in
        let high-above = above-mono w.high in
        if-isotone (odd_within a e) (odd_within c e)
        (λ t. and_both
        (ups_within (below_zero a.low) e)
        (ups_within (above_zero a.high) e)
        (ups-mono (pos-≤ zero-le) low_below e (and_left (ups_within (below_zero c.low) e) (ups_within (above_zero c.high) e) t))
        (ups-mono (pos-≤ zero-le) high-above e (and_right (ups_within (below_zero c.low) e) (ups_within (above_zero c.high) e) t)))
        (λ t. within-⊑ (record {
          low = Ord.sub-mono ℤ-ordered (grow down-down (above-mono w.low) e) (grow up_up low_below e);
          order = Ord.sub-mono ℤ-ordered (grow down-up (above-mono w.order) e) (grow down-up (below-anti w.order) e);
          high = Ord.sub-mono ℤ-ordered (grow up_up high-above e) (grow down-down (below-anti w.high) e);
        }))

valid-isotone : {a c : Range} → Within a c → c.low ≤ℤ c.high → (e : ℕ) → pow_of_valid a e ⊑ pow_of_valid c e
valid-isotone w o zero = ⊑_refl one_range
valid-isotone {a} {c} w o (suc e) = rw (pow-form a w.order e, pow-form c o e) (go (is_even (suc e)))
  where
    go : (p : Bool) → cond p (pow_even a (suc e)) (pow_odd a (suc e)) ⊑ cond p (pow_even c (suc e)) (pow_odd c (suc e))
    go true = even-isotone w (suc e)
    go false = odd-isotone w (suc e)

power-isotone : {a c : Range} (e : ℕ) → a ⊑ c → pow_of a e ⊑ pow_of c e
unfolding pow_of
power-isotone {a} {c} e n =
    if-isotone (is_valid a) (is_valid c) (λ t. (n.inside t).valid) (λ t. valid-isotone (within_of n t) (ends-of c t).order e)

-- ---- sums over a set
-- what lists give of which the wider one's members are valid
record MembersWithin (s : ℕ) (f h : List Range) : Type 0 where
  valid : T (valid_over s f)
  within : (a : ℕ) → a < 8 → T (has s a) → Within (at f a) (at h a)

members-of : {s : ℕ} {f h : List Range} → Narrower s f h → T (valid_over s h) → MembersWithin s f h
members-of {s} {f} {h} n t =
    let v = members-valid s h t in
    record {
      valid = valid-over s f (λ a l u. ((n.each a l u).inside (v a l u)).valid);
      within = λ a l u. within_of (n.each a l u) (v a l u);
    }

-- a test of the members of one list, and of two, before a total that counts
one-isotone : {s : ℕ} {f h : List Range} {x y : Range} → (MembersWithin s f h → Within x y) → Narrower s f h
    → cond (valid_over s f) (kept x) over ⊑ cond (valid_over s h) (kept y) over
one-isotone {s} {f} {h} w n =
    if-isotone (valid_over s f) (valid_over s h) (λ t. (members-of n t).valid) (λ t. kept-isotone (w (members-of n t)))

two-isotone : {s : ℕ} {f g h k : List Range} {x y : Range}
    → (MembersWithin s f h → MembersWithin s g k → Within x y)
    → Narrower s f h
    → Narrower s g k
    → cond (valid_over s f && valid_over s g) (kept x) over ⊑ cond (valid_over s h && valid_over s k) (kept y) over
two-isotone {s} {f} {g} {h} {k} w m n =
    if-isotone (valid_over s f && valid_over s g) (valid_over s h && valid_over s k)
    (λ t. and_both (valid_over s f) (valid_over s g) (left t).valid (right t).valid)
    (λ t. kept-isotone (w (left t) (right t)))
  where
    left : T (valid_over s h && valid_over s k) → MembersWithin s f h
    left t = members-of m (and_left (valid_over s h) (valid_over s k) t)

    right : T (valid_over s h && valid_over s k) → MembersWithin s g k
    right t = members-of n (and_right (valid_over s h) (valid_over s k) t)

products-within : {s : ℕ} {f g h k : List Range} → MembersWithin s f h → MembersWithin s g k
    → Within (ends_products s f g) (ends_products s h k)
unfolding ends_products
products-within {s} {f} {g} {h} {k} m n =
    record {
      low = sum_over-mono ℤ-ordered s (λ a l u. (each a l u).low);
      order = sum_over-mono ℤ-ordered s (λ a l u. (each a l u).order);
      high = sum_over-mono ℤ-ordered s (λ a l u. (each a l u).high);
    }
  where
    each : (a : ℕ) → a < 8 → T (has s a) → Within (ends_product (at f a) (at g a)) (ends_product (at h a) (at k a))
    each a l u = product-within (m.within a l u) (n.within a l u)

-- ---- squares
square-mono : {a c : Range} → Within a c → largest_square a ≤ℤ largest_square c
unfolding largest_square
square-mono {a} {c} w =
    let l = greater-left (c.low *ℤ c.low) (c.high *ℤ c.high) in
    let r = greater-right (c.low *ℤ c.low) (c.high *ℤ c.high) in
    greater-any (a.low *ℤ a.low) (a.high *ℤ a.high) (λ z. z ≤ℤ greater_of (c.low *ℤ c.low) (c.high *ℤ c.high))
    (Ord.square-upper ℤ-ordered w.low (≤ℤ-trans w.order w.high) l r)
    (Ord.square-upper ℤ-ordered (≤ℤ-trans w.low w.order) w.high l r)

squares-mono : {s : ℕ} {f g : List Range} → MembersWithin s f g → square_sum s f ≤ℤ square_sum s g
unfolding square_sum
squares-mono {s} m = ceil-mono ten-thousand (sum_over-mono ℤ-ordered s (λ a l u. square-mono (m.within a l u)))

squares-within : {s : ℕ} {f g : List Range} → MembersWithin s f g → Within (from_to (pos 0) (square_sum s f)) (from_to (pos 0) (square_sum s g))
squares-within {s} {f} m = record { low = ≤ℤ_refl (pos 0); order = square_sum-nonneg s f; high = squares-mono m }

-- ---- root
-- from −β to β, β the root of the product of two sums, for any that are not negative
pub around-within : {x y u v : ℤ} → pos 0 ≤ℤ x → x ≤ℤ u → pos 0 ≤ℤ y → y ≤ℤ v
    → Within (around_of (ceil_sqrt (nat_abs x * nat_abs y))) (around_of (ceil_sqrt (nat_abs u * nat_abs v)))
around-within {x} {y} {u} {v} p h q k =
    let b = ceil_sqrt (nat_abs x * nat_abs y) in
    let l : pos b ≤ℤ pos (ceil_sqrt (nat_abs u * nat_abs v)) = pos-≤ (ceil-root-mono (N.mul-le-mul (nat_abs-mono p h) (nat_abs-mono q k))) in
    record { low = neg-anti l; order = omega (ints, neg-dif (pos b)); high = l }

root-within : {s : ℕ} {f g h k : List Range} → MembersWithin s f h → MembersWithin s g k → Within (ends_root s f g) (ends_root s h k)
unfolding root_sum
root-within {s} {f} {g} m n = around-within (square_sum-nonneg s f) (squares-mono m) (square_sum-nonneg s g) (squares-mono n)

-- ---- the operations
pub isotonicity : Isotonicity
unfolding sum_of neg_of times_of product_of hull_of products_of squares_of root_of
isotonicity = record {
  sum = sticky₂-isotone ends_sum sum-within;
  negation = sticky₁-isotone ends_neg neg-within;
  multiple = λ k. sticky₁-isotone (ends_times k) (λ w. times-within w k);
  product = sticky₂-isotone ends_product product-within;
  inverse = inverse-isotone;
  power = power-isotone;
  hull = sticky₂-isotone ends_hull hull-within;
  products = two-isotone products-within;
  squares = one-isotone squares-within;
  root = two-isotone root-within;
  star = star-isotone;
}
