-- The laws of rounded division.
use mathlib.Core.Path.{◌≡◌, refl}
use mathlib.Core.Logic.{◌↔◌, ◌⊎◌, inl, inr, ⊎_elim}
use Prim.Native.Nat.{ℕ, zero, suc, ◌*◌, ◌/◌, ◌<◌}
use native.Mathlib.Nat as N
use lib.IntN.{ℤ, pos, negsuc, neg_ℤ, ◌+ℤ◌, ◌*ℤ◌, zero-*ℤ}
use lib.Signed.{◌≤ℤ◌, ◌<ℤ◌, ≤ℤ_refl}
use Rattle.algebra.proofs.Ordered as Ord
use Rattle.algebra.proofs.Solver.{:1, ◌:+◌, ◌:*◌, ◌:=◌, ring}
use Rattle.algebra.proofs.Int.{ints, ℤ-ring, ℤ-ordered, pos_part-neg, neg_part-neg, add-dif, mul-dif, mul-pos-dif, <-pos}
use Rattle.algebra.proofs.Int.{neg-≤, ≤-neg, neg-anti, neg_cancel, neg-*ℤ, *ℤ-neg, *ℤ-mono, *ℤ-cancel, *ℤ-cancel-<}
use Rattle.algebra.proofs.Int.{≤ℤ-trans, ≤ℤ-<ℤ-trans, <suc→≤ℤ, ≤ℤ-or-<ℤ}
unfoldable pub use Rattle.exact.specs.Div.{floor_div, ceil_div, floor_quot, ceil_quot}
pub use Rattle.exact.specs.Div.{by_sign}

-- ════ the laws that determine the quotients ════

-- the quotient times the divisor is at most a, and that of the next integer is more
pub floor-le : (a : ℤ) {d : ℕ} → zero < d → (floor_div a d *ℤ pos d) ≤ℤ a
unfolding floor_div
floor-le (pos n) {d} p = omega (ints, N.div-mul-le_self n d)
floor-le (negsuc n) {d} p =
    omega (ints, pos_part-neg (pos (suc (n / d) * d)), neg_part-neg (pos (suc (n / d) * d)), N.lt-div-mul-add {a = n} p)

floor-lt' : (a : ℤ) {d : ℕ} → zero < d → a <ℤ (floor_div a d *ℤ pos d +ℤ pos d)
unfolding floor_div
floor-lt' (pos n) {d} p = omega (ints, N.lt-div-mul-add {a = n} p)
floor-lt' (negsuc n) {d} p = omega (ints, add-dif (negsuc (n / d) *ℤ pos d) (pos d), mul-pos-dif (negsuc (n / d)) d, N.div-mul-le_self n d)

pub floor-lt : (a : ℤ) {d : ℕ} → zero < d → a <ℤ ((floor_div a d +ℤ pos 1) *ℤ pos d)
floor-lt a {d} p = rw (ring ℤ-ring 2 (λ q d. (q :+ :1) :* d := q :* d :+ d) tt (floor_div a d) (pos d)) (floor-lt' a p)

pub floor-iff : (q a : ℤ) {d : ℕ} → zero < d → (q ≤ℤ floor_div a d) ↔ ((q *ℤ pos d) ≤ℤ a)
floor-iff q a {d} p = (λ h. ≤ℤ-trans (*ℤ-mono d h) (floor-le a p), λ h. <suc→≤ℤ (*ℤ-cancel-< d (≤ℤ-<ℤ-trans h (floor-lt a p))))

pub ceil-iff : (q a : ℤ) {d : ℕ} → zero < d → (ceil_div a d ≤ℤ q) ↔ (a ≤ℤ (q *ℤ pos d))
unfolding ceil_div
ceil-iff q a {d} p = (λ h. from ((floor-iff (neg_ℤ q) (neg_ℤ a) p).0 (neg-≤ h)), λ h. neg-≤ ((floor-iff (neg_ℤ q) (neg_ℤ a) p).1 (to h)))
  where
    from : (neg_ℤ q *ℤ pos d) ≤ℤ neg_ℤ a → a ≤ℤ (q *ℤ pos d)
    from h = neg_cancel (rw neg-*ℤ at h)

    to : a ≤ℤ (q *ℤ pos d) → (neg_ℤ q *ℤ pos d) ≤ℤ neg_ℤ a
    to h = rw neg-*ℤ (neg-anti h)

pub floor-mono : {a b : ℤ} {d : ℕ} → zero < d → a ≤ℤ b → floor_div a d ≤ℤ floor_div b d
floor-mono {a} {b} p h = (floor-iff _ b p).1 (≤ℤ-trans (floor-le a p) h)

-- ════ rounded up ════

pub ceil-ge : (a : ℤ) {d : ℕ} → zero < d → a ≤ℤ (ceil_div a d *ℤ pos d)
ceil-ge a {d} p = (ceil-iff (ceil_div a d) a p).0 (≤ℤ_refl _)

pub ceil-mono : {a b : ℤ} {d : ℕ} → zero < d → a ≤ℤ b → ceil_div a d ≤ℤ ceil_div b d
ceil-mono {a} {b} p h = (ceil-iff _ a p).1 (≤ℤ-trans h (ceil-ge b p))

pub floor≤ceil : (a : ℤ) {d : ℕ} → zero < d → floor_div a d ≤ℤ ceil_div a d
floor≤ceil a {d} p = *ℤ-cancel d p (≤ℤ-trans (floor-le a p) (ceil-ge a p))

-- ════ by an integer of either sign ════

module _ (q a : ℤ) where
  pub floor_quot-pos : {d : ℤ} → pos 0 <ℤ d → (q ≤ℤ floor_quot a d) ↔ ((q *ℤ d) ≤ℤ a)
  unfolding floor_quot
  floor_quot-pos {d = pos d} p = floor-iff q a (<-pos p)
  floor_quot-pos {d = negsuc d} p = absurd p.lt

  pub ceil_quot-pos : {d : ℤ} → pos 0 <ℤ d → (ceil_quot a d ≤ℤ q) ↔ (a ≤ℤ (q *ℤ d))
  unfolding ceil_quot
  ceil_quot-pos {d = pos d} p = ceil-iff q a (<-pos p)
  ceil_quot-pos {d = negsuc d} p = absurd p.lt

  -- a negative divisor turns the inequality
  pub floor_quot-neg : {d : ℤ} → d <ℤ pos 0 → (q ≤ℤ floor_quot a d) ↔ (a ≤ℤ (q *ℤ d))
  unfolding floor_quot
  floor_quot-neg {d = pos d} p = let f : ⊥ = omega ints in absurd f
  floor_quot-neg {d = negsuc d} p =
      let i = floor-iff q (neg_ℤ a) (N.zero-lt-suc d) in
      rw (*ℤ-neg q (pos (suc d))) (λ h. ≤-neg (i.0 h), λ h. i.1 (≤-neg h))

  pub ceil_quot-neg : {d : ℤ} → d <ℤ pos 0 → (ceil_quot a d ≤ℤ q) ↔ ((q *ℤ d) ≤ℤ a)
  unfolding ceil_quot
  ceil_quot-neg {d = pos d} p = let f : ⊥ = omega ints in absurd f
  ceil_quot-neg {d = negsuc d} p =
      let i = ceil-iff q (neg_ℤ a) (N.zero-lt-suc d) in
      rw (*ℤ-neg q (pos (suc d))) (λ h. neg-≤ (i.0 h), λ h. i.1 (neg-≤ h))

quot-order : (a d : ℤ) → ¬ (d ≡ pos 0) → floor_quot a d ≤ℤ ceil_quot a d
unfolding floor_quot ceil_quot
quot-order a (pos zero) f = absurd (f refl)
quot-order a (pos (suc k)) f = floor≤ceil a (N.zero-lt-suc k)
quot-order a (negsuc k) f = floor≤ceil (neg_ℤ a) (N.zero-lt-suc k)

-- ════ a smaller divisor ════

-- what lies between d and e is on one side of 0
abbrev pub OneSign : ℤ → ℤ → Type 0
OneSign d e = (pos 0 <ℤ d) ⊎ (e <ℤ pos 0)

-- of a number that is not negative, the smaller of two divisors of one sign gives the greater quotient
module _ {n d e : ℤ} (n-nonneg : pos 0 ≤ℤ n) (h : d ≤ℤ e) where
  pub floor_quot-anti : OneSign d e → floor_quot n e ≤ℤ floor_quot n d
  floor_quot-anti (inl p) =
      let r : pos 0 <ℤ e = omega ints in
      let nonneg : pos 0 ≤ℤ floor_quot n e = (floor_quot-pos (pos 0) n r).1 (rw (zero-*ℤ e) n-nonneg) in
      (floor_quot-pos _ n p).1 (≤ℤ-trans (Ord.mul-le-left ℤ-ordered nonneg h) ((floor_quot-pos _ n r).0 (≤ℤ_refl _)))
  floor_quot-anti (inr p) =
      let r : d <ℤ pos 0 = omega ints in
      (floor_quot-neg _ n r).1 (≤ℤ-trans ((floor_quot-neg _ n p).0 (≤ℤ_refl _)) (Ord.mul-le-left-neg ℤ-ordered nonpos h))
    where
      nonpos : floor_quot n e ≤ℤ pos 0
      nonpos =
          ⊎_elim (λ k. k)
          (λ k. let f = (floor_quot-neg (pos 1) n p).0 (omega ints) in let g : ⊥ = omega (ints, mul-dif (pos 1) e) in absurd g)
          (≤ℤ-or-<ℤ (floor_quot n e) (pos 0))

  pub ceil_quot-anti : OneSign d e → ceil_quot n e ≤ℤ ceil_quot n d
  ceil_quot-anti (inl p) =
      let r : pos 0 <ℤ e = omega ints in
      (ceil_quot-pos _ n r).1 (≤ℤ-trans ((ceil_quot-pos _ n p).0 (≤ℤ_refl _)) (Ord.mul-le-left ℤ-ordered nonneg h))
    where
      nonneg : pos 0 ≤ℤ ceil_quot n d
      nonneg =
          ⊎_elim (λ k. k)
          (λ k. let f = (ceil_quot-pos (negsuc 0) n p).0 (omega ints) in let g : ⊥ = omega (ints, mul-dif (negsuc 0) d) in absurd g)
          (≤ℤ-or-<ℤ (pos 0) (ceil_quot n d))
  ceil_quot-anti (inr p) =
      let r : d <ℤ pos 0 = omega ints in
      let nonpos : ceil_quot n d ≤ℤ pos 0 = (ceil_quot-neg (pos 0) n r).1 (rw (zero-*ℤ d) n-nonneg) in
      (ceil_quot-neg _ n p).1 (≤ℤ-trans (Ord.mul-le-left-neg ℤ-ordered nonpos h) ((ceil_quot-neg _ n r).0 (≤ℤ_refl _)))

  pub floor_quot≤ceil_quot : OneSign d e → floor_quot n e ≤ℤ ceil_quot n d
  floor_quot≤ceil_quot s = ≤ℤ-trans (floor_quot-anti s) (quot-order n d (nonzero s))
    where
      nonzero : OneSign d e → ¬ (d ≡ pos 0)
      nonzero (inl p) z = omega ints
      nonzero (inr p) z = omega ints
