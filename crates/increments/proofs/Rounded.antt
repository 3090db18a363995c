-- The call's two sums, divided by 10,000 and rounded, are the least and the greatest difference of `Sisters`, rounded to units: `least-down`,
-- `greatest-up`. Assumes nothing.
use mathlib.Core.Path.{◌≡◌, refl, sym, ap, ap₂, ◌∙◌}
use mathlib.Core.Logic.Iff
use mathlib.Core.Logic.{◌↔◌}
use mathlib.Core.Bool.{Bool, true, false, cond}
use mathlib.Core.List.{List}
use Prim.Native.Nat.{ℕ, zero, suc, ◌*◌, ◌<◌}
use native.Mathlib.Nat as N
use lib.IntN.{ℤ, pos, neg_ℤ, ◌*ℤ◌}
use lib.Signed.{le_z, ◌≤ℤ◌, clash_ℤ, ≤ℤ_refl}
use Rattle.algebra.proofs.Int.{ℤ-ring, *ℤ-assoc, *ℤ-mono, *ℤ-cancel, ≤ℤ-antisym}
use Rattle.algebra.proofs.Sum.{sum, sum_below, sum-ext}
use Rattle.exact.specs.Div.{floor_div, ceil_div}
use Rattle.exact.proofs.Div.{floor-iff, ceil-iff}
use Rattle.exact.proofs.Machine.{le_z-true, le_z-false}
use Rattle.exact.proofs.Rat.{ℚ, ratio, ◌+ℚ◌, ◌-ℚ◌, ◌*ℚ◌, ◌≤ℚ◌, le_q, ℚ-ring, ratio-≤, ratio-≡, ratio-*, ratio-+same, from_ℤ-is}
use Rattle.exact.proofs.Units.{units, scale, scale-pos, down, up, units-+, units-neg, down-iff, up-iff}
use Rattle.range.specs.declared.Range.{Range}
use Rattle.range.specs.Arithmetic.{lesser_of, greater_of}
use Rattle.range.specs.Sums.{at}
use Rattle.range.proofs.Valid.{T_true, not-true}
use Rattle.rules.specs.Sisters.{difference, least_product, greatest_product, least_difference, greatest_difference}
use Rattle.increments.specs.Call.{first, second, apart_by, least_sum, greatest_sum}
use Rattle.increments.specs.Promises.{one, other}
use Rattle.increments.proofs.Points.{one_at, other_at}

-- the sum of what f makes of the products of each slope's ends with that factor's difference
abbrev pub products : (ℤ → ℤ → ℤ) → ℕ → List Range → List ℤ → ℤ
products f n g bs = sum ℤ-ring n (λ a. f ((at g a).low *ℤ apart_by n bs a) ((at g a).high *ℤ apart_by n bs a))

-- ════ products of units ════

abbrev squared-pos : zero < scale * scale
squared-pos = N.mul-pos scale-pos scale-pos

-- z is a product of two numbers of units: z / 100,000,000
abbrev squared : ℤ → ℚ
squared z = ratio z (scale * scale) squared-pos

product_is : (u v : ℤ) → units u *ℚ units v ≡ squared (u *ℤ v)
unfolding units
product_is u v = ratio-* u v scale-pos scale-pos

sum-squared : (n : ℕ) (f : ℕ → ℤ) → sum ℚ-ring n (λ a. squared (f a)) ≡ squared (sum ℤ-ring n f)
unfolding sum_below
sum-squared zero f = from_ℤ-is (pos 0) ∙ (ratio-≡ (pos 0) (pos 0) _ _).1 refl
sum-squared (suc n) f = ap (squared (f n) +ℚ◌) (sum-squared n f) ∙ ratio-+same (f n) (sum ℤ-ring n f) _

-- ---- the lesser and the greater
squared-≤ : (x y : ℤ) → le_q (squared x) (squared y) ≡ le_z x y
squared-≤ x y = go (le_z x y) refl
  where
    order : (squared x ≤ℚ squared y) ↔ ((x *ℤ pos (scale * scale)) ≤ℤ (y *ℤ pos (scale * scale)))
    order = ratio-≤ x y _ _

    go : (b : Bool) → le_z x y ≡ b → le_q (squared x) (squared y) ≡ b
    go true e = T_true (order.1 (*ℤ-mono (scale * scale) (le_z-true x y e))).le
    go false e =
        not-true (λ t. clash_ℤ (le_z-false x y e) (*ℤ-cancel (scale * scale) squared-pos (order.0 (record { le = t }))))

squared-cond : (b : Bool) (x y : ℤ) → cond b (squared x) (squared y) ≡ squared (cond b x y)
squared-cond true x y = refl
squared-cond false x y = refl

module _ (g : Range) (d : ℤ) where
  abbrev l : ℤ
  l = g.low *ℤ d

  abbrev h : ℤ
  h = g.high *ℤ d

  least-product : least_product g (units d) ≡ squared (lesser_of l h)
  unfolding least_product
  least-product = rw (product_is g.low d, product_is g.high d, squared-≤ l h) (squared-cond (le_z l h) l h)

  greatest-product : greatest_product g (units d) ≡ squared (greater_of l h)
  unfolding greatest_product
  greatest-product = rw (product_is g.low d, product_is g.high d, squared-≤ l h) (squared-cond (le_z l h) h l)

-- ════ rounded to units ════

-- 10,000 is cancelled once
scaled : (q : ℤ) → q *ℤ pos (scale * scale) ≡ q *ℤ pos scale *ℤ pos scale
scaled q = sym (*ℤ-assoc q (pos scale) (pos scale))

cancelled : (x y : ℤ) → ((x *ℤ pos scale) ≤ℤ (y *ℤ pos scale)) ↔ (x ≤ℤ y)
cancelled x y = (*ℤ-cancel scale scale-pos, *ℤ-mono scale)

-- of the sum s of products, the quotient is the number of units
module _ (s : ℤ) where
  units-below : (q : ℤ) → (units q ≤ℚ squared s) ↔ ((q *ℤ pos scale) ≤ℤ s)
  unfolding units
  units-below q = Iff.trans (rw (scaled q) at (ratio-≤ q s scale-pos squared-pos)) (cancelled (q *ℤ pos scale) s)

  units-above : (q : ℤ) → (squared s ≤ℚ units q) ↔ (s ≤ℤ (q *ℤ pos scale))
  unfolding units
  units-above q = Iff.trans (rw (scaled q) at (ratio-≤ s q squared-pos scale-pos)) (cancelled s (q *ℤ pos scale))

  floor-down : floor_div s scale ≡ down (squared s)
  floor-down =
      let f = floor_div s scale in
      let q = down (squared s) in
      ≤ℤ-antisym
      ((down-iff f (squared s)).1 ((units-below f).1 ((floor-iff f s scale-pos).0 (≤ℤ_refl f))))
      ((floor-iff q s scale-pos).1 ((units-below q).0 ((down-iff q (squared s)).0 (≤ℤ_refl q))))

  ceil-up : ceil_div s scale ≡ up (squared s)
  ceil-up =
      let c = ceil_div s scale in
      let q = up (squared s) in
      ≤ℤ-antisym
      ((ceil-iff q s scale-pos).1 ((units-above q).0 ((up-iff q (squared s)).0 (≤ℤ_refl q))))
      ((up-iff c (squared s)).1 ((units-above c).1 ((ceil-iff c s scale-pos).0 (≤ℤ_refl c))))

-- ════ the sums ════

module _ (n : ℕ) (g : List Range) (bs : List ℤ) where
  abbrev d : ℕ → ℤ
  d = apart_by n bs

  difference-is : (a : ℕ) → a < n → difference (one n bs) (other n bs) a ≡ units (d a)
  difference-is a l =
      ap₂ ◌-ℚ◌ (other_at n bs a) (one_at n bs a l)
      ∙ ap (units (second n bs a) +ℚ◌) (units-neg (first bs a))
      ∙ units-+ (second n bs a) (neg_ℤ (first bs a))

  sum_is : (f : Range → ℚ → ℚ) (h : ℤ → ℤ → ℤ)
      → ((r : Range) (z : ℤ) → f r (units z) ≡ squared (h (r.low *ℤ z) (r.high *ℤ z)))
      → squared (products h n g bs) ≡ sum ℚ-ring n (λ a. f (at g a) (difference (one n bs) (other n bs) a))
  sum_is f h e = sym (sum-ext ℚ-ring n (λ a l. ap (f (at g a)) (difference-is a l) ∙ e (at g a) (d a)) ∙ sum-squared n _)

  pub least-down : floor_div (least_sum n g bs) 10000 ≡ down (least_difference n g (one n bs) (other n bs))
  unfolding least_sum least_difference
  least-down = floor-down (products lesser_of n g bs) ∙ ap down (sum_is least_product lesser_of least-product)

  pub greatest-up : ceil_div (greatest_sum n g bs) 10000 ≡ up (greatest_difference n g (one n bs) (other n bs))
  unfolding greatest_sum greatest_difference
  greatest-up = ceil-up (products greater_of n g bs) ∙ ap up (sum_is greatest_product greater_of greatest-product)
