-- A sum, divided and rounded once: a multiple of the divisor is divided apart, quotients and remainders are summed apart, and the sum stands beside
-- that of its summands, each divided and rounded up.
use mathlib.Core.Path.{◌≡◌, ◌∙◌, ap}
use Prim.Native.Nat.{ℕ, zero, suc, ◌<◌}
use lib.IntN.{ℤ, pos, neg_ℤ, ◌+ℤ◌, ◌-ℤ◌, ◌*ℤ◌, +ℤ_idr, zero-*ℤ}
use lib.Signed.{◌≤ℤ◌, ◌<ℤ◌, ≤ℤ_refl}
use Rattle.algebra.proofs.Int.{ints, ℤ-ring, ℤ-ordered, add-dif, +ℤ-mono, *ℤ-cancel-<, <suc→≤ℤ, ≤ℤ-trans, ≤ℤ-antisym, <ℤ→≤ℤ}
use Rattle.algebra.proofs.Linear.{◌:≤◌, ◌⇒◌, ⊢◌, linarith}
use Rattle.algebra.proofs.Solver.{:1, ◌:+◌, ◌:-◌, ◌:*◌, :-◌, ◌:=◌, ring}
use Rattle.algebra.proofs.Sum.{sum, sum_below, sum-add, sum-ext, sum-scale}
use Rattle.exact.proofs.Div.{floor_div, ceil_div, floor-le, floor-lt, floor-iff, ceil-iff, ceil-ge}

module _ {d : ℕ} (p : zero < d) where
  -- ════ quotients and remainders apart ════

  -- a multiple of the divisor is divided apart
  pub floor-shift : (x k : ℤ) → floor_div (x +ℤ k *ℤ pos d) d ≡ floor_div x d +ℤ k
  floor-shift x k =
      let f = floor_div x d in
      let z = floor_div (x +ℤ k *ℤ pos d) d in
      ≤ℤ-antisym
      (linarith ℤ-ordered 3 (λ f k z. z :- k :≤ f ⇒ ⊢ z :≤ f :+ k) tt f k z
      ((floor-iff (z -ℤ k) x p).1
      (linarith ℤ-ordered 4 (λ x k z d. z :* d :≤ x :+ k :* d ⇒ ⊢ (z :- k) :* d :≤ x) tt x k z (pos d) (floor-le _ p))))
      ((floor-iff (f +ℤ k) _ p).1
      (linarith ℤ-ordered 4 (λ x k f d. f :* d :≤ x ⇒ ⊢ (f :+ k) :* d :≤ x :+ k :* d) tt x k f (pos d) (floor-le x p)))

  -- and taken off the quotient again
  pub floor-back : (x k : ℤ) → floor_div (x +ℤ k *ℤ pos d) d -ℤ k ≡ floor_div x d
  floor-back x k = ap (◌-ℤ k) (floor-shift x k) ∙ ring ℤ-ring 2 (λ f k. f :+ k :- k := f) tt (floor_div x d) k

  pub ceil-apart : (q r : ℤ) → ceil_div (q *ℤ pos d +ℤ r) d ≡ q +ℤ ceil_div r d
  ceil-apart q r =
      let c = ceil_div r d in
      let z = ceil_div (q *ℤ pos d +ℤ r) d in
      ≤ℤ-antisym
      ((ceil-iff (q +ℤ c) _ p).1
      (linarith ℤ-ordered 4 (λ q r c d. r :≤ c :* d ⇒ ⊢ q :* d :+ r :≤ (q :+ c) :* d) tt q r c (pos d) (ceil-ge r p)))
      (linarith ℤ-ordered 3 (λ q c z. c :≤ z :- q ⇒ ⊢ q :+ c :≤ z) tt q c z
      ((ceil-iff (z -ℤ q) r p).1
      (linarith ℤ-ordered 4 (λ q r z d. q :* d :+ r :≤ z :* d ⇒ ⊢ r :≤ (z :- q) :* d) tt q r z (pos d) (ceil-ge _ p))))

  -- a number more than a rest of d − 1 rounds up
  pub ceil-raised : (x : ℤ) (k : ℕ) → suc k ≡ d → ceil_div x d ≡ floor_div (x +ℤ pos k) d
  ceil-raised x k e =
      let c = ceil_div x d in
      let f = floor_div (x +ℤ pos k) d in
      let above : (x +ℤ pos k) <ℤ (f *ℤ pos d +ℤ pos d) = rw (← next f) (floor-lt (x +ℤ pos k) p) in
      let below : (f *ℤ pos d) <ℤ (c *ℤ pos d +ℤ pos d) =
      omega (ints, e, floor-le (x +ℤ pos k) p, ceil-ge x p, add-dif x (pos k), add-dif (c *ℤ pos d) (pos d)) in
      ≤ℤ-antisym
      ((ceil-iff f x p).1 (omega (ints, e, add-dif x (pos k), add-dif (f *ℤ pos d) (pos d))))
      (<suc→≤ℤ (*ℤ-cancel-< d (rw (next c) below)))
    where
      next : (q : ℤ) → (q +ℤ pos 1) *ℤ pos d ≡ q *ℤ pos d +ℤ pos d
      next q = ring ℤ-ring 2 (λ q d. (q :+ :1) :* d := q :* d :+ d) tt q (pos d)

  -- summed apart
  module _ (n : ℕ) (q r : ℕ → ℤ) where
    abbrev whole : ℤ
    whole = sum ℤ-ring n (λ a. q a *ℤ pos d +ℤ r a)

    parted : whole ≡ sum ℤ-ring n q *ℤ pos d +ℤ sum ℤ-ring n r
    parted =
        sum-add ℤ-ring n (λ a. q a *ℤ pos d) r
        ∙ ap (◌+ℤ sum ℤ-ring n r)
        (sum-ext ℤ-ring n (λ a l. ℤ-ring.mul_comm (q a) (pos d)) ∙ sum-scale ℤ-ring n (pos d) q ∙ ℤ-ring.mul_comm (pos d) (sum ℤ-ring n q))

    pub floor-sums : floor_div whole d ≡ sum ℤ-ring n q +ℤ floor_div (sum ℤ-ring n r) d
    floor-sums =
        ap (λ (z : ℤ). floor_div z d) (parted ∙ ℤ-ring.add_comm (sum ℤ-ring n q *ℤ pos d) (sum ℤ-ring n r))
        ∙ floor-shift (sum ℤ-ring n r) (sum ℤ-ring n q)
        ∙ ℤ-ring.add_comm (floor_div (sum ℤ-ring n r) d) (sum ℤ-ring n q)

    pub ceil-sums : ceil_div whole d ≡ sum ℤ-ring n q +ℤ ceil_div (sum ℤ-ring n r) d
    ceil-sums = ap (λ (z : ℤ). ceil_div z d) parted ∙ ceil-apart (sum ℤ-ring n q) (sum ℤ-ring n r)

  -- ════ rounded once, and each ════

  -- what rounding adds is at most the divisor
  ceil-le : (a : ℤ) → (ceil_div a d *ℤ pos d) ≤ℤ (a +ℤ pos d)
  unfolding ceil_div
  ceil-le a =
      linarith ℤ-ordered 3 (λ f a d. :- a :≤ (f :+ :1) :* d ⇒ ⊢ :- f :* d :≤ a :+ d) tt
      (floor_div (neg_ℤ a) d) a (pos d) (<ℤ→≤ℤ (floor-lt (neg_ℤ a) p))

  -- of two summands
  ceil-two : (a b : ℤ) → ceil_div (a +ℤ b) d ≤ℤ (ceil_div a d +ℤ ceil_div b d)
  ceil-two a b =
      (ceil-iff _ (a +ℤ b) p).1
      (linarith ℤ-ordered 5 (λ a b x y d. a :≤ x :* d ⇒ b :≤ y :* d ⇒ ⊢ a :+ b :≤ (x :+ y) :* d) tt
      a b (ceil_div a d) (ceil_div b d) (pos d) (ceil-ge a p) (ceil-ge b p))

  two-near : (a b : ℤ) → (ceil_div a d +ℤ ceil_div b d) ≤ℤ (ceil_div (a +ℤ b) d +ℤ pos 1)
  two-near a b =
      let x = ceil_div a d in
      let y = ceil_div b d in
      let c = ceil_div (a +ℤ b) d in
      linarith ℤ-ordered 3 (λ x y c. x :≤ c :+ :1 :- y ⇒ ⊢ x :+ y :≤ c :+ :1) tt x y c
      ((ceil-iff (c +ℤ pos 1 -ℤ y) a p).1
      (linarith ℤ-ordered 5 (λ a b y c d. a :+ b :≤ c :* d ⇒ y :* d :≤ b :+ d ⇒ ⊢ a :≤ (c :+ :1 :- y) :* d) tt
      a b y c (pos d) (ceil-ge (a +ℤ b) p) (ceil-le b)))

  -- of any number
  module _ (f : ℕ → ℤ) where
    abbrev each : ℕ → ℤ
    each a = ceil_div (f a) d

    pub ceil-sum : (n : ℕ) → ceil_div (sum ℤ-ring n f) d ≤ℤ sum ℤ-ring n each
    unfolding sum_below
    ceil-sum zero = (ceil-iff (pos 0) (pos 0) p).1 (rw (zero-*ℤ (pos d)) (≤ℤ_refl (pos 0)))
    ceil-sum (suc n) = ≤ℤ-trans (ceil-two (f n) (sum ℤ-ring n f)) (+ℤ-mono (≤ℤ_refl (each n)) (ceil-sum n))

    -- n + 1 summands have n roundings more
    pub sum_near : (n : ℕ) → sum ℤ-ring (suc n) each ≤ℤ (ceil_div (sum ℤ-ring (suc n) f) d +ℤ pos n)
    unfolding sum_below
    sum_near zero = rw (+ℤ_idr (each 0), +ℤ_idr (f 0), +ℤ_idr (ceil_div (f 0) d)) (≤ℤ_refl (each 0))
    sum_near (suc n) =
        let s = sum ℤ-ring (suc n) f in
        let t = sum ℤ-ring (suc n) each in
        let c = ceil_div (f (suc n) +ℤ s) d in
        omega (
          ints,
          two-near (f (suc n)) s,
          sum_near n,
          add-dif (each (suc n)) t,
          add-dif (each (suc n)) (ceil_div s d),
          add-dif (ceil_div s d) (pos n),
          add-dif c (pos 1),
          add-dif c (pos (suc n)),
        )
