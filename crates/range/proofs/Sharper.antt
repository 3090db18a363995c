-- Request 4's rule beside 01's: what it gives lies between −M and M added to the hull of A and B, and M is no larger than any β with β² at least
-- the product of two rounded sums in which the largest squares of the two slopes are. Assumes nothing.
use mathlib.Core.Path.{subst, sym}
use Prim.Native.Nat.{◌<◌, zero-le}
use lib.Dec.{T, lit<}
use lib.IntN.{ℤ, pos, neg_ℤ, ◌+ℤ◌, ◌-ℤ◌, ◌*ℤ◌}
use lib.Signed.{◌≤ℤ◌, ≤ℤ_refl}
use Rattle.algebra.proofs.Ordered as Ord
use Rattle.algebra.proofs.Solver.{lit, :0, ◌:+◌, ◌:*◌, ◌:-◌, :-◌, ◌:=◌, ring}
use Rattle.algebra.proofs.Linear.{◌:≤◌, ◌⇒◌, ⊢◌, linarith}
use Rattle.algebra.proofs.Int.{ℤ-ring, ℤ-ordered, neg-≤, ≤ℤ-trans, pos-≤}
use Rattle.exact.proofs.Div.{floor-iff, ceil-iff}
use Rattle.range.specs.declared.Range.{Range}
use Rattle.range.specs.Limit.{from_to, zero_range, over, is_valid}
use Rattle.range.specs.Arithmetic.{lesser_of, greater_of, least_product, greatest_product, ends_sum, ends_hull, ends_product, sum_of, hull_of}
use Rattle.range.specs.Sums.{largest_square}
use Rattle.range.specs.Star.{magnitude_of, star_root, ends_star, is_half, star_of}
use Rattle.range.specs.Laws.{ValidInside, ◌⊑◌}
use Rattle.range.proofs.Valid.{if-valid, if-passed, ends-of, sticky₂-of, sticky₂-is}
use Rattle.range.proofs.Extremes.{lesser-left, lesser-right, greater-left, greater-right, greater-any, lesser-any, least-product, greatest-product}
use Rattle.range.proofs.Powers.{ten-thousand}
use Rattle.range.proofs.Within.{Within, within-inside}
use Rattle.range.proofs.Narrowing.{farthest-nonneg}
use Rattle.range.proofs.StarRoot.{root-spread}
use Rattle.range.proofs.StarLaws.{are_half, halves, half-valid, star-ordered}

-- ---- narrower ranges
pub ⊑_trans : {a b c : Range} → a ⊑ b → b ⊑ c → a ⊑ c
⊑_trans m n = record {
  inside = λ t.
      let j = n.inside t in
      let i = m.inside j.valid in
      record { valid = i.valid; low = ≤ℤ-trans j.low i.low; high = ≤ℤ-trans i.high j.high };
}

module _ (a b : Range) where
  pub hull-left-wider : a ⊑ hull_of a b
  unfolding hull_of
  hull-left-wider = record {
    inside = λ t.
        let k = sticky₂-of ends_hull a b t in
        subst (λ r. ValidInside a r) (sym k.is) (record { valid = k.left; low = lesser-left a.low b.low; high = greater-left a.high b.high });
  }

  pub hull-right-wider : b ⊑ hull_of a b
  unfolding hull_of
  hull-right-wider = record {
    inside = λ t.
        let k = sticky₂-of ends_hull a b t in
        subst (λ r. ValidInside b r) (sym k.is) (record { valid = k.right; low = lesser-right a.low b.low; high = greater-right a.high b.high });
  }

-- the hull is the least range that holds both
pub hull-least : {a b c : Range} → a ⊑ c → b ⊑ c → hull_of a b ⊑ c
unfolding hull_of
hull-least {a} {b} {c} m n = record {
  inside = λ t.
      let i = m.inside t in
      let j = n.inside t in
      let k = within-inside (both i j) t in
      subst (λ r. ValidInside r c) (sym (sticky₂-is ends_hull a b i.valid j.valid k.valid)) k;
}
  where
    both : ValidInside a c → ValidInside b c → Within (ends_hull a b) c
    both i j = record {
      low = lesser-any a.low b.low (λ z. c.low ≤ℤ z) i.low j.low;
      order = ≤ℤ-trans (lesser-left a.low b.low) (≤ℤ-trans (ends-of a i.valid).order (greater-left a.high b.high));
      high = greater-any a.high b.high (λ z. z ≤ℤ c.high) i.high j.high;
    }

-- with zero added
pub sum-wider : (a : Range) → a ⊑ sum_of zero_range a
unfolding sum_of
sum-wider a = record {
  inside = λ t.
      let k = sticky₂-of ends_sum zero_range a t in
      subst (λ r. ValidInside a r) (sym k.is) (record {
        valid = k.right;
        low = linarith ℤ-ordered 1 (λ z. ⊢ :0 :+ z :≤ z) tt a.low;
        high = linarith ℤ-ordered 1 (λ z. ⊢ z :≤ :0 :+ z) tt a.high;
      });
}

-- ---- the rule
abbrev pub around : ℤ → Range
around m = from_to (neg_ℤ m) m

two : 0 < 2
two = lit< tt

star-around : (a b c : Range) → a.low ≤ℤ a.high → b.low ≤ℤ b.high → pos 0 ≤ℤ magnitude_of c
    → Within (ends_star a b c) (ends_sum (around (magnitude_of c)) (ends_hull a b))
unfolding ends_star
star-around a b c o w p =
    let m = magnitude_of c in
    let l = lesser_of a.low b.low in
    let h = greater_of a.high b.high in
    record {
      low = (floor-iff (neg_ℤ m +ℤ l) _ two).1 (low_twice a.low b.low l m p (lesser-left a.low b.low) (lesser-right a.low b.low));
      order = star-ordered a b c o w;
      high = (ceil-iff (m +ℤ h) _ two).1 (high_twice a.high b.high h m p (greater-left a.high b.high) (greater-right a.high b.high));
    }
  where
    low_twice : (a b l m : ℤ) → pos 0 ≤ℤ m → l ≤ℤ a → l ≤ℤ b → ((neg_ℤ m +ℤ l) *ℤ pos 2) ≤ℤ (a +ℤ b -ℤ star_root a b m)
    low_twice a b l m p h k =
        linarith ℤ-ordered 5 (λ a b l m r. r :≤ a :- l :+ (b :- l) :+ lit 2 :* m ⇒ ⊢ (:- m :+ l) :* lit 2 :≤ a :+ b :- r) tt a b l m (star_root a b m)
        (root-spread a b m (a -ℤ l +ℤ (b -ℤ l)) p
        (linarith ℤ-ordered 3 (λ a b l. l :≤ b ⇒ ⊢ a :- b :≤ a :- l :+ (b :- l)) tt a b l k)
        (linarith ℤ-ordered 3 (λ a b l. l :≤ a ⇒ ⊢ :- (a :- l :+ (b :- l)) :≤ a :- b) tt a b l h))

    high_twice : (a b u m : ℤ) → pos 0 ≤ℤ m → a ≤ℤ u → b ≤ℤ u → (a +ℤ b +ℤ star_root a b m) ≤ℤ ((m +ℤ u) *ℤ pos 2)
    high_twice a b u m p h k =
        linarith ℤ-ordered 5 (λ a b u m r. r :≤ u :- a :+ (u :- b) :+ lit 2 :* m ⇒ ⊢ a :+ b :+ r :≤ (m :+ u) :* lit 2) tt a b u m (star_root a b m)
        (root-spread a b m (u -ℤ a +ℤ (u -ℤ b)) p
        (linarith ℤ-ordered 3 (λ a b u. a :≤ u ⇒ ⊢ a :- b :≤ u :- a :+ (u :- b)) tt a b u h)
        (linarith ℤ-ordered 3 (λ a b u. b :≤ u ⇒ ⊢ :- (u :- a :+ (u :- b)) :≤ a :- b) tt a b u k))

half-order : (r : Range) → T (is_half r) → r.low ≤ℤ r.high
half-order r t = (ends-of r (half-valid r t)).order

pub magnitude-nonneg : (c : Range) → T (is_half c) → pos 0 ≤ℤ magnitude_of c
unfolding magnitude_of
magnitude-nonneg c t = farthest-nonneg (record { low = ≤ℤ_refl c.low; order = half-order c t; high = ≤ℤ_refl c.high })

pub star-sharper : (a b c : Range) → T (is_valid (star_of a b c)) → star_of a b c ⊑ sum_of (around (magnitude_of c)) (hull_of a b)
unfolding star_of sum_of hull_of
star-sharper a b c t =
    let p = (if-valid (are_half a b c) (ends_star a b c) t).0 in
    let h = halves a b c p in
    let w = star-around a b c (half-order a h.first) (half-order b h.second) (magnitude-nonneg c h.third) in
    record {
      inside = λ u.
          let k = sticky₂-of ends_sum (around (magnitude_of c)) (hull_of a b) u in
          let l = sticky₂-of ends_hull a b k.right in
          rw (if-passed (are_half a b c) (ends_star a b c) over p, k.is, l.is) (within-inside w (rw l.is at k.result));
    }

-- ---- M
low-square : (r : Range) → (r.low *ℤ r.low) ≤ℤ largest_square r
unfolding largest_square
low-square r = greater-left (r.low *ℤ r.low) (r.high *ℤ r.high)

high-square : (r : Range) → (r.high *ℤ r.high) ≤ℤ largest_square r
unfolding largest_square
high-square r = greater-right (r.low *ℤ r.low) (r.high *ℤ r.high)

-- s and t are sums of squares, divided by 10,000 and rounded up, in which those of a and b are, and β is the root of their product
module _ (a b : Range) (s t β : ℤ) (left : largest_square a ≤ℤ (s *ℤ pos 10000)) (right : largest_square b ≤ℤ (t *ℤ pos 10000))
    (p : pos 0 ≤ℤ β) (h : (s *ℤ t) ≤ℤ (β *ℤ β)) where
  -- of an end of each
  corner : (x y : ℤ) → (x *ℤ x) ≤ℤ largest_square a → (y *ℤ y) ≤ℤ largest_square b
      → ((neg_ℤ β *ℤ pos 10000) ≤ℤ (x *ℤ y)) × ((x *ℤ y) ≤ℤ (β *ℤ pos 10000))
  corner x y m n =
      let q = ℤ-ordered.mul-nonneg p (pos-≤ zero-le) in (
        Ord.eq-le ℤ-ordered (ring ℤ-ring 1 (λ b. :- b :* lit 10000 := :- (b :* lit 10000)) tt β) (Ord.neg-le-of-squares ℤ-ordered q squared),
        Ord.le-of-squares ℤ-ordered q squared,
      )
    where
      squared : ((x *ℤ y) *ℤ (x *ℤ y)) ≤ℤ ((β *ℤ pos 10000) *ℤ (β *ℤ pos 10000))
      squared =
          linarith ℤ-ordered 5
          (λ x y s t b.
          x :* x :* (y :* y) :≤ s :* lit 10000 :* (t :* lit 10000) ⇒ s :* t :≤ b :* b
          ⇒ ⊢ x :* y :* (x :* y) :≤ b :* lit 10000 :* (b :* lit 10000)) tt
          x y s t β
          (Ord.mul_mono ℤ-ordered (Ord.square-nonneg ℤ-ordered x) (≤ℤ-trans m left) (Ord.square-nonneg ℤ-ordered y) (≤ℤ-trans n right)) h

  pub product-magnitude : magnitude_of (ends_product a b) ≤ℤ β
  unfolding magnitude_of ends_product
  product-magnitude =
      let ll = corner a.low b.low (low-square a) (low-square b) in
      let lh = corner a.low b.high (low-square a) (high-square b) in
      let hl = corner a.high b.low (high-square a) (low-square b) in
      let hh = corner a.high b.high (high-square a) (high-square b) in
      greater-any _ _ (λ z. z ≤ℤ β)
      (neg-≤ ((floor-iff (neg_ℤ β) (least_product a b) ten-thousand).1
      (least-product a b (λ z. (neg_ℤ β *ℤ pos 10000) ≤ℤ z) ll.0 lh.0 hl.0 hh.0)))
      ((ceil-iff β (greatest_product a b) ten-thousand).1
      (greatest-product a b (λ z. z ≤ℤ (β *ℤ pos 10000)) ll.1 lh.1 hl.1 hh.1))
