-- The code's loops over the factors of a set, from the lowest bit of its mask on: `Scan s rest a` says that `rest` is what is left of the
-- mask s at the factor a. One invariant for a test of all members, one for a sum of ranges, whose ends stay small. Assumes nothing.
use mathlib.Core.Path.{◌≡◌, refl, sym, ap, ap₂, ◌∙◌}
use mathlib.Core.Bool.{Bool, true, false, ◌||◌, not, cond}
use mathlib.Core.List.{List}
use Prim.Native.Nat.{ℕ, zero, suc, ◌+◌, ◌*◌, ◌-◌, ◌/◌, ◌%◌, ◌^◌, ◌≤◌, ◌<◌, zero-le}
use native.Mathlib.Nat as N
use native.Mathlib.Numerals.{add-one}
use native.Mathlib.Omega.{arith}
use borrow.Author.Count.{below_more}
use borrow.Author.Tests.{eq-eqb, ne_eqb}
use lib.Dec.{T, eqb}
use lib.Pow.{pow_pos, pow_mono}
use lib.IntN.{ℤ, pos, nat_abs, ◌+ℤ◌, +ℤ_comm, +ℤ_idl}
use Rattle.algebra.specs.Sum.{sum, sum_below}
use Rattle.algebra.proofs.Int.{ℤ-ring, add-abs}
use Rattle.range.specs.declared.Range.{Range}
use Rattle.range.specs.Limit.{from_to, zero_range, is_valid}
use Rattle.range.specs.Arithmetic.{ends_sum}
use Rattle.range.specs.Sums.{has, sum_over, sum_over_ℤ, at, valid_below, valid_over}
use Rattle.range.specs.Steps.{Small}

pub record Scan (s rest a : ℕ) : Type 0 where
  pub small : s < 256
  pub within : a ≤ 8
  pub left : rest ≡ s / 2 ^ a

pub scan-start : (s : ℕ) → s < 256 → Scan s s 0
scan-start s h = record { small = h; within = zero-le; left = sym (N.div-one s) }

module _ (s rest a : ℕ) (i : Scan s rest a) where
  -- past the eighth factor nothing is left
  pub scan-ended : 8 ≤ a → rest ≡ 0
  scan-ended h = i.left ∙ N.div-eq_of_lt (N.lt_of_lt_of_le i.small (pow_mono {i = 8} {j = a} h))

  pub scan-index : ¬ (rest ≡ 0) → a < 8
  scan-index f = N.lt_of_not-le (λ k. f (scan-ended k))

  pub scan-next : a < 8 → Scan s (rest / 2) (a + 1)
  scan-next h = record {
    small = i.small;
    within = omega arith;
    left =
        ap (λ (r : ℕ). r / 2) i.left
        ∙ N.div-div-eq-div-mul s (2 ^ a) 2
        ∙ ap (λ (n : ℕ). s / n) (sym (N.pow-suc 2 a))
        ∙ ap (λ (n : ℕ). s / 2 ^ n) (sym (add-one a));
  }

  -- its bit
  pub scan-has : has s a ≡ eqb (rest % 2) 1
  unfolding has
  scan-has = ap (λ (r : ℕ). eqb (r % 2) 1) (sym i.left)

  pub scan-member : rest % 2 ≡ 1 → has s a ≡ true
  scan-member m = scan-has ∙ eq-eqb (rest % 2) 1 m

  pub scan-outside : ¬ (rest % 2 ≡ 1) → has s a ≡ false
  scan-outside m = scan-has ∙ ne_eqb (rest % 2) 1 m

  -- where nothing is left, no later factor is in the set
  pub scan-none : rest ≡ 0 → (b : ℕ) → a ≤ b → has s b ≡ false
  unfolding has
  scan-none e b h = ap (λ (r : ℕ). eqb (r % 2) 1) (N.div-eq_of_lt below)
    where
      below : s < 2 ^ b
      below =
          N.lt_of_lt_of_le
          (rw N.one-mul at ((N.div-lt_iff_lt-mul {k = 2 ^ a} {x = s} {y = 1} (pow_pos a)).0 (omega (arith, sym i.left ∙ e))))
          (pow_mono {i = a} {j = b} h)

-- ---- all members valid
module _ (s : ℕ) (g : List Range) where
  -- a turn: a member is valid, or the factor is outside the set
  pub valid-member : (a : ℕ) → valid_below a s g ≡ true → is_valid (at g a) ≡ true → valid_below (a + 1) s g ≡ true
  unfolding valid_below
  valid-member a e v = rw (add-one a, e, v) (or-true (not (has s a)))
    where
      or-true : (b : Bool) → (b || true) ≡ true
      or-true true = refl
      or-true false = refl

  pub valid-skip : (a : ℕ) → valid_below a s g ≡ true → has s a ≡ false → valid_below (a + 1) s g ≡ true
  unfolding valid_below
  valid-skip a e m = rw (add-one a, e, m)

  valid-rest : (n a : ℕ) → ((b : ℕ) → a ≤ b → has s b ≡ false) → valid_below a s g ≡ true → valid_below (n + a) s g ≡ true
  unfolding valid_below
  valid-rest zero a f e = rw N.zero-add e
  valid-rest (suc n) a f e = rw (N.suc-add n a, valid-rest n a f e, f (n + a) (omega arith))

  -- the end
  pub valid-end : (rest a : ℕ) → Scan s rest a → valid_below a s g ≡ true → rest ≡ 0 → valid_over s g ≡ true
  valid-end rest a i e z =
      ap (λ (k : ℕ). valid_below k s g) (omega (arith, i.within)) ∙ valid-rest (8 - a) a (scan-none s rest a i z) e

-- ---- a sum of ranges, end by end
abbrev pub member_or : ℕ → (ℕ → ℤ) → ℕ → ℤ
member_or s f a = cond (has s a) (f a) (pos 0)

-- what a member adds, of which eight have a sum that fits
abbrev pub few : ℕ
few = 400000000000000

pub record Few (r : Range) : Type 0 where
  pub low : nat_abs r.low ≤ few
  pub high : nat_abs r.high ≤ few

pub few-small : {r : Range} → Few r → Small r
few-small h = record { low = omega (arith, h.low); high = omega (arith, h.high) }

module _ (s : ℕ) (f : ℕ → ℤ) where
  sum-rest : (n a : ℕ) → ((b : ℕ) → a ≤ b → has s b ≡ false) → sum ℤ-ring (n + a) (member_or s f) ≡ sum ℤ-ring a (member_or s f)
  unfolding sum_below
  sum-rest zero a z = ap (λ (k : ℕ). sum ℤ-ring k (member_or s f)) (N.zero-add a)
  sum-rest (suc n) a z =
      ap (λ (k : ℕ). sum ℤ-ring k (member_or s f)) (N.suc-add n a)
      ∙ ap (λ (b : Bool). cond b (f (n + a)) (pos 0) +ℤ sum ℤ-ring (n + a) (member_or s f)) (z (n + a) (omega arith))
      ∙ +ℤ_idl (sum ℤ-ring (n + a) (member_or s f))
      ∙ sum-rest n a z

  pub sum-end : (rest a : ℕ) → Scan s rest a → rest ≡ 0 → sum ℤ-ring a (member_or s f) ≡ sum_over_ℤ s f
  unfolding sum_over
  sum-end rest a i z =
      sym (sum-rest (8 - a) a (scan-none s rest a i z)) ∙ ap (λ (k : ℕ). sum ℤ-ring k (member_or s f)) (omega (arith, i.within))

  sum-few : (a : ℕ) → ((b : ℕ) → b < a → T (has s b) → nat_abs (f b) ≤ few) → nat_abs (sum ℤ-ring a (member_or s f)) ≤ a * few
  unfolding sum_below
  sum-few zero h = zero-le
  sum-few (suc a) h = omega (
    arith,
    add-abs (member_or s f a) (sum ℤ-ring a (member_or s f)),
    member (has s a) (h a (N.lt-suc_self a)),
    sum-few a (λ b l. h b (omega arith)),
    N.suc-mul a few,
  )
    where
      member : (c : Bool) → (T c → nat_abs (f a) ≤ few) → nat_abs (cond c (f a) (pos 0)) ≤ few
      member true k = k tt
      member false k = zero-le

module _ (s : ℕ) (term : ℕ → Range) where
  abbrev low_sum : ℕ → ℤ
  low_sum a = sum ℤ-ring a (member_or s (λ k. (term k).low))

  abbrev high_sum : ℕ → ℤ
  high_sum a = sum ℤ-ring a (member_or s (λ k. (term k).high))

  -- the sum of the members' terms below a
  pub record Summed (total : Range) (rest a : ℕ) : Type 0 where
    pub scan : Scan s rest a
    pub each : (b : ℕ) → b < a → T (has s b) → Few (term b)
    pub is : total ≡ from_to (low_sum a) (high_sum a)

  pub summed-start : s < 256 → Summed zero_range s 0
  unfolding sum_below
  summed-start h = record { scan = scan-start s h; each = λ b l t. let f : ⊥ = omega arith in absurd f; is = refl }

  module _ (total : Range) (rest a : ℕ) (i : Summed total rest a) where
    pub summed-small : Small total
    summed-small =
        rw i.is record {
          low = omega (arith, i.scan.within, sum-few s (λ k. (term k).low) a (λ b l t. (i.each b l t).low));
          high = omega (arith, i.scan.within, sum-few s (λ k. (term k).high) a (λ b l t. (i.each b l t).high));
        }

    -- a turn: a member's term is added, and nothing for a factor outside the set
    pub summed-member : (next : Range) → a < 8 → has s a ≡ true → Few (term a) → next ≡ ends_sum total (term a)
        → Summed next (rest / 2) (a + 1)
    unfolding sum_below
    summed-member next l m h n = record {
      scan = scan-next s rest a i.scan l;
      each = below_more (λ b. T (has s b) → Few (term b)) a i.each (λ t. h);
      is = n ∙ rw (add-one a, i.is, m) (ap₂ from_to (+ℤ_comm (low_sum a) (term a).low) (+ℤ_comm (high_sum a) (term a).high));
    }

    pub summed-skip : a < 8 → has s a ≡ false → Summed total (rest / 2) (a + 1)
    unfolding sum_below
    summed-skip l m = record {
      scan = scan-next s rest a i.scan l;
      each = below_more (λ b. T (has s b) → Few (term b)) a i.each (λ t. absurd (rw m at t));
      is = i.is ∙ rw (add-one a, m) (ap₂ from_to (sym (+ℤ_idl (low_sum a))) (sym (+ℤ_idl (high_sum a))));
    }

    -- the end
    pub summed-end : rest ≡ 0 → total ≡ from_to (sum_over_ℤ s (λ k. (term k).low)) (sum_over_ℤ s (λ k. (term k).high))
    summed-end z =
        i.is
        ∙ ap₂ from_to (sum-end s (λ k. (term k).low) rest a i.scan z) (sum-end s (λ k. (term k).high) rest a i.scan z)
