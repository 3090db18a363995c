-- The loop that adds up the products: quotients and remainders of the slopes' ends, times the differences, are summed apart, and stand for the exact
-- sum (`Summed`). Assumes nothing.
use mathlib.Core.Path.{◌≡◌, refl, sym, ap, ap₂, ◌∙◌}
use mathlib.Core.Bool.{Bool, true, false, cond}
use mathlib.Core.List.{List}
use Prim.Native.Nat.{ℕ, ◌+◌, ◌*◌, ◌≤◌, ◌<◌, zero-le}
use native.Mathlib.Nat as N
use native.Mathlib.Numerals.{add-one}
use native.Mathlib.Omega.{arith}
use lib.Dec.{lit<}
use lib.IntN.{ℤ, pos, negsuc, neg_ℤ, nat_abs, ◌+ℤ◌, ◌-ℤ◌, ◌*ℤ◌}
use lib.Signed.{le_z, ◌≤ℤ◌, ≤ℤ_refl}
use mir.Syntax.{w64}
use mir.Val.{to_z, of_z}
use mir.ValLaws.{to_z-of_z}
use Rattle.algebra.proofs.Int.{ints, ℤ-ring, ℤ-ordered, add-dif, neg-abs, add-abs, mul-abs, sub-dif, mul-dif, mul-pos-dif, ≤ℤ-antisym, <ℤ→≤ℤ}
use Rattle.algebra.proofs.Ordered as Ord
use Rattle.algebra.proofs.Solver.{◌:+◌, ◌:-◌, ◌:*◌, ◌:=◌, ring}
use Rattle.algebra.proofs.Sum.{sum, sum_below, sum-ext}
use Rattle.exact.specs.Div.{floor_div, ceil_div}
use Rattle.exact.proofs.Div.{floor-le, floor-lt}
use Rattle.exact.proofs.DivSum.{ceil-raised, floor-sums, ceil-sums}
use Rattle.exact.proofs.Machine.{le_z-true, le_z-false, fits-abs}
use Rattle.range.specs.declared.Range.{Range}
use Rattle.range.specs.Arithmetic.{lesser_of, greater_of}
use Rattle.range.specs.Limit.{from_to, is_valid}
use Rattle.range.specs.Sums.{at}
use Rattle.range.proofs.Extremes.{lesser-any, lesser-left, lesser-right, greater-any, greater-left, greater-right}
use Rattle.range.proofs.Fitting.{InLimit, low-within, high-within}
use Rattle.range.proofs.Valid.{ends-of, true-T}
use Rattle.increments.specs.declared.total.Total.{Total}
use Rattle.increments.specs.Call.{first, second, apart_by, least_sum, greatest_sum}
use Rattle.increments.specs.Steps.{least_end, greatest_end, Room, with_product, rounded_down, rounded_up, Apart}
use Rattle.increments.proofs.Shifting.{floor-abs}

-- ════ the ends ════

-- the end with the lesser product is the low one where d is not negative, else the high one
module _ (g : Range) (d : ℤ) (v : is_valid g ≡ true) where
  in_order : g.low ≤ℤ g.high
  in_order = (ends-of g (true-T v)).order

  abbrev l : ℤ
  l = g.low *ℤ d

  abbrev h : ℤ
  h = g.high *ℤ d

  rising : le_z (pos 0) d ≡ true → l ≤ℤ h
  rising e = Ord.mul-le-right ℤ-ordered (le_z-true (pos 0) d e) in_order

  falling : le_z (pos 0) d ≡ false → h ≤ℤ l
  falling e =
      rw (ℤ-ring.mul_comm g.low d, ℤ-ring.mul_comm g.high d)
      (Ord.mul-le-left-neg ℤ-ordered (<ℤ→≤ℤ (le_z-false (pos 0) d e)) in_order)

  pub least-is : least_end g d *ℤ d ≡ lesser_of l h
  least-is = go (le_z (pos 0) d) refl
    where
      go : (b : Bool) → le_z (pos 0) d ≡ b → least_end g d *ℤ d ≡ lesser_of l h
      go true e = rw e (≤ℤ-antisym (lesser-any l h (λ z. l ≤ℤ z) (≤ℤ_refl l) (rising e)) (lesser-left l h))
      go false e = rw e (≤ℤ-antisym (lesser-any l h (λ z. h ≤ℤ z) (falling e) (≤ℤ_refl h)) (lesser-right l h))

  pub greatest-is : greatest_end g d *ℤ d ≡ greater_of l h
  greatest-is = go (le_z (pos 0) d) refl
    where
      go : (b : Bool) → le_z (pos 0) d ≡ b → greatest_end g d *ℤ d ≡ greater_of l h
      go true e = rw e (≤ℤ-antisym (greater-right l h) (greater-any l h (λ z. z ≤ℤ h) (rising e) (≤ℤ_refl h)))
      go false e = rw e (≤ℤ-antisym (greater-left l h) (greater-any l h (λ z. z ≤ℤ l) (≤ℤ_refl l) (falling e)))

  -- either is within the limit
  end-within : (b : Bool) → InLimit (cond b g.low g.high)
  end-within true = low-within g v
  end-within false = high-within g v

  pub least-within : InLimit (least_end g d)
  least-within = end-within (le_z (pos 0) d)

  pub greatest-within : InLimit (greatest_end g d)
  greatest-within = go (le_z (pos 0) d)
    where
      go : (b : Bool) → InLimit (cond b g.high g.low)
      go true = high-within g v
      go false = low-within g v

-- ════ an end, parted ════

abbrev pub quotient : ℤ → ℤ
quotient e = floor_div e 10000

abbrev pub remainder : ℤ → ℤ
remainder e = e -ℤ pos 10000 *ℤ quotient e

-- e·d from the products with the quotient and the remainder
parted : (e d : ℤ) → quotient e *ℤ d *ℤ pos 10000 +ℤ remainder e *ℤ d ≡ e *ℤ d
parted e d = ring ℤ-ring 4 (λ e q d t. q :* d :* t :+ (e :- t :* q) :* d := e :* d) tt e (quotient e) d (pos 10000)

module _ (e : ℤ) (w : InLimit e) where
  pub quotient-few : nat_abs (quotient e) ≤ 200000
  unfolding floor_div
  quotient-few = go e w
    where
      go : (e : ℤ) → InLimit e → nat_abs (quotient e) ≤ 200000
      go (pos n) w = omega arith
      go (negsuc n) w = omega arith

  pub remainder-few : nat_abs (remainder e) ≤ 9999
  remainder-few = small (remainder e) above below
    where
      above : pos 0 ≤ℤ remainder e
      above = omega (ints, floor-le e {d = 10000} (lit< tt), sub-dif e (pos 10000 *ℤ quotient e), mul-dif (pos 10000) (quotient e), mul-pos-dif (quotient e) 10000)

      below : remainder e ≤ℤ pos 9999
      below = omega (ints, floor-lt e {d = 10000} (lit< tt), sub-dif e (pos 10000 *ℤ quotient e), mul-dif (pos 10000) (quotient e), mul-pos-dif (quotient e +ℤ pos 1) 10000, add-dif (quotient e) (pos 1))

      small : (z : ℤ) → pos 0 ≤ℤ z → z ≤ℤ pos 9999 → nat_abs z ≤ 9999
      small (pos n) p q = omega ints
      small (negsuc n) p q = absurd p.le

-- ════ one product more, as an `i64` works it out ════

pub few-read : (z : ℤ) → nat_abs z ≤ 9223372036854775807 → to_z w64 (of_z w64 z) ≡ z
few-read z h = to_z-of_z w64 z (fits-abs z h)

-- the product of few and few is few
times-few : (x y : ℤ) {m n : ℕ} → nat_abs x ≤ m → nat_abs y ≤ n → nat_abs (x *ℤ y) ≤ m * n
times-few x y h k = rw (mul-abs x y) (N.mul-le-mul h k)

abbrev pub Near : ℤ → Type 0
Near d = nat_abs d ≤ 4000000000

module _ (e d : ℤ) (w : InLimit e) (f : Near d) where
  pub quotient-times : nat_abs (quotient e *ℤ d) ≤ 800000000000000
  quotient-times = times-few (quotient e) d (quotient-few e w) f

  pub remainder-times : nat_abs (remainder e *ℤ d) ≤ 39996000000000
  remainder-times = times-few (remainder e) d (remainder-few e w) f

  pub multiple-few : nat_abs (pos 10000 *ℤ quotient e) ≤ 2000000000
  multiple-few = times-few (pos 10000) (quotient e) {m = 10000} (omega arith) (quotient-few e w)

module _ (t : Total) (r : Room t) where
  pub whole-more : (x : ℤ) → nat_abs x ≤ 1000000000000000 → nat_abs (t.whole +ℤ x) ≤ 11000000000000000
  whole-more x h = omega (arith, add-abs t.whole x, r.whole)

  pub rest_more : (x : ℤ) → nat_abs x ≤ 1000000000000000 → nat_abs (t.rest +ℤ x) ≤ 2000000000000000
  rest_more x h = omega (arith, add-abs t.rest x, r.rest)

-- the sum, rounded; rounded up it is that of 9,999 more, rounded down
pub down-read : (t : Total) → nat_abs t.whole ≤ 10000000000000000 → nat_abs t.rest ≤ 1000000000000000
    → to_z w64 (of_z w64 (rounded_down t)) ≡ rounded_down t
down-read t w r =
    let q = floor_div t.rest 10000 in
    few-read (rounded_down t) (omega (arith, add-abs t.whole q, floor-abs t.rest))

abbrev pub raised_total : Total → Total
raised_total t = record { whole = t.whole; rest = t.rest +ℤ pos 9999 }

pub up-down : (t : Total) → rounded_up t ≡ rounded_down (raised_total t)
up-down t = ap (t.whole +ℤ◌) (ceil-raised {d = 10000} (lit< tt) t.rest 9999 refl)

module _ (t : Total) (r : Room t) where
  pub raised-few : nat_abs (t.rest +ℤ pos 9999) ≤ 1000000000000000
  raised-few = omega (arith, add-abs t.rest (pos 9999), r.rest)

  pub up-read : to_z w64 (of_z w64 (rounded_up t)) ≡ rounded_up t
  up-read = rw (up-down t) (down-read (raised_total t) r.whole raised-few)

-- ════ the loop ════

abbrev pub no_total : Total
no_total = record { whole = pos 0; rest = pos 0 }

-- of n factors with the slopes g, and a choice of ends
module _ (n : ℕ) (g : List Range) (bs : List ℤ) (end : Range → ℤ → ℤ) where
  abbrev end_at : ℕ → ℤ
  end_at a = end (at g a) (apart_by n bs a)

  abbrev quotients : ℕ → ℤ
  quotients a = quotient (end_at a) *ℤ apart_by n bs a

  abbrev remainders : ℕ → ℤ
  remainders a = remainder (end_at a) *ℤ apart_by n bs a

  -- the sums so far, and that they stay small
  pub record Summed (t : Total) (a : ℕ) : Type 0 where
    pub few-whole : nat_abs t.whole ≤ a * 800000000000000
    pub few-rest : nat_abs t.rest ≤ a * 39996000000000
    pub whole : t.whole ≡ sum ℤ-ring a quotients
    pub rest : t.rest ≡ sum ℤ-ring a remainders

  pub summed-start : Summed no_total 0
  unfolding sum_below
  summed-start = record { few-whole = zero-le; few-rest = zero-le; whole = refl; rest = refl }

  module _ (t : Total) (a : ℕ) (i : Summed t a) where
    pub summed-room : a ≤ 8 → Room t
    summed-room l = record { whole = omega (arith, i.few-whole); rest = omega (arith, i.few-rest) }

    pub summed-next : InLimit (end_at a) → Near (apart_by n bs a) → Summed (with_product t (end_at a) (apart_by n bs a)) (a + 1)
    unfolding sum_below
    summed-next w f =
        let e = end_at a in
        let d = apart_by n bs a in
        record {
          few-whole = omega (arith, add-abs t.whole (quotient e *ℤ d), quotient-times e d w f, i.few-whole);
          few-rest = omega (arith, add-abs t.rest (remainder e *ℤ d), remainder-times e d w f, i.few-rest);
          whole = rw (add-one a) (ap (◌+ℤ quotient e *ℤ d) i.whole ∙ ℤ-ring.add_comm (sum ℤ-ring a quotients) (quotient e *ℤ d));
          rest = rw (add-one a) (ap (◌+ℤ remainder e *ℤ d) i.rest ∙ ℤ-ring.add_comm (sum ℤ-ring a remainders) (remainder e *ℤ d));
        }

  -- the sum of the products themselves
  products-are : sum ℤ-ring n (λ a. quotients a *ℤ pos 10000 +ℤ remainders a) ≡ sum ℤ-ring n (λ a. end_at a *ℤ apart_by n bs a)
  products-are = sum-ext ℤ-ring n (λ a l. parted (end_at a) (apart_by n bs a))

  module _ (t : Total) (i : Summed t n) where
    pub down_is : rounded_down t ≡ floor_div (sum ℤ-ring n (λ a. end_at a *ℤ apart_by n bs a)) 10000
    down_is =
        ap₂ (λ (x y : ℤ). x +ℤ floor_div y 10000) i.whole i.rest
        ∙ sym (floor-sums {d = 10000} (lit< tt) n quotients remainders)
        ∙ ap (λ (z : ℤ). floor_div z 10000) products-are

    pub up_is : rounded_up t ≡ ceil_div (sum ℤ-ring n (λ a. end_at a *ℤ apart_by n bs a)) 10000
    up_is =
        ap₂ (λ (x y : ℤ). x +ℤ ceil_div y 10000) i.whole i.rest
        ∙ sym (ceil-sums {d = 10000} (lit< tt) n quotients remainders)
        ∙ ap (λ (z : ℤ). ceil_div z 10000) products-are

-- ════ the values of two boats, as they are read ════

module _ (n : ℕ) (g : List Range) (bs : List ℤ) (p : Apart n g bs) (a : ℕ) (l : a < n) where
  pub first_read : to_z w64 (of_z w64 (first bs a)) ≡ first bs a
  first_read = few-read (first bs a) (omega (arith, p.first a l))

  pub second-read : to_z w64 (of_z w64 (second n bs a)) ≡ second n bs a
  second-read = few-read (second n bs a) (omega (arith, p.second a l))

  pub near : Near (apart_by n bs a)
  near = omega (arith, add-abs (second n bs a) (neg_ℤ (first bs a)), neg-abs (first bs a), p.first a l, p.second a l)

  pub apart-read : to_z w64 (of_z w64 (to_z w64 (of_z w64 (second n bs a)) -ℤ to_z w64 (of_z w64 (first bs a)))) ≡ apart_by n bs a
  apart-read = rw (second-read, first_read) (few-read (apart_by n bs a) (omega (arith, near)))

  -- the ends that the code chose by x, which is the difference
  module _ {e : Range} {x : ℤ} (is : x ≡ apart_by n bs a) (chosen : e ≡ from_to (least_end (at g a) x) (greatest_end (at g a) x)) where
    abbrev d : ℤ
    d = apart_by n bs a

    pub low-read : to_z w64 (of_z w64 e.low) ≡ least_end (at g a) d
    low-read = rw (chosen, is) (few-read (least_end (at g a) d) (omega (arith, least-within (at g a) d (p.slopes a l))))

    pub high-read : to_z w64 (of_z w64 e.high) ≡ greatest_end (at g a) d
    high-read = rw (chosen, is) (few-read (greatest_end (at g a) d) (omega (arith, greatest-within (at g a) d (p.slopes a l))))

-- ════ the least and the greatest ════

module _ (n : ℕ) (g : List Range) (bs : List ℤ) (v : (a : ℕ) → a < n → is_valid (at g a) ≡ true) where
  pub least-total : (t : Total) → Summed n g bs least_end t n → rounded_down t ≡ floor_div (least_sum n g bs) 10000
  unfolding least_sum
  least-total t i =
      down_is n g bs least_end t i
      ∙ ap (λ (z : ℤ). floor_div z 10000) (sum-ext ℤ-ring n (λ a l. least-is (at g a) (apart_by n bs a) (v a l)))

  pub greatest-total : (t : Total) → Summed n g bs greatest_end t n → rounded_up t ≡ ceil_div (greatest_sum n g bs) 10000
  unfolding greatest_sum
  greatest-total t i =
      up_is n g bs greatest_end t i
      ∙ ap (λ (z : ℤ). ceil_div z 10000) (sum-ext ℤ-ring n (λ a l. greatest-is (at g a) (apart_by n bs a) (v a l)))
