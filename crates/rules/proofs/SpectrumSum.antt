-- 01's lift and join: a spectrum extended to a larger set, and the spectrum of a sum. Each bounds what it stands for. Assumes nothing.
use mathlib.Core.Path.{◌≡◌, refl, sym, ap}
use mathlib.Core.Bool.{Bool, true, false, cond}
use Prim.Native.Nat.{ℕ}
use lib.Dec.{T, eqb, eqb→eq}
use Rattle.exact.proofs.Rat.{ℚ, ◌+ℚ◌}
use Rattle.range.specs.declared.Range.{Range}
use Rattle.range.specs.Limit.{zero_range, is_valid}
use Rattle.range.specs.Arithmetic.{hull_of}
use Rattle.range.proofs.Valid.{T_true, true-T}
use Rattle.range.proofs.Fitting.{hull-valid, hull_of-is}
use Rattle.range.proofs.Bounded.{Bounded, bounded_at, either-bounded, sum-bounded, hull-zero-bounded, hull-sum-bounded}
use Rattle.rules.specs.Formula.{given, sticky}
use Rattle.rules.specs.Sets.{◌∪◌, apart}
use Rattle.rules.specs.Table.{extended, spectrum_of_sum}
use Rattle.rules.proofs.Members.{◌⊆◌, left-in, right-in}
use Rattle.rules.proofs.InnerProducts.{weight, weight-nonneg, weight-larger, weight-apart}

module _ (b c : ℕ) (v : ℕ → ℚ) where
  pub extended-bounded : {e : Range} {x : ℚ} → b ⊆ c → Bounded (weight b v) e x → Bounded (weight c v) (sticky (extended (given e) b c)) x
  extended-bounded i h =
      either-bounded (eqb b c)
      (λ t. bounded_at h (ap (λ s. weight s v) (eqb→eq b c t)))
      (λ t. hull-zero-bounded (weight-nonneg b v) (weight-larger v i) h)

module _ (b c : ℕ) (v : ℕ → ℚ) where
  pub spectrum_of_sum-bounded : {e f : Range} {x y : ℚ} → Bounded (weight b v) e x → Bounded (weight c v) f y
      → Bounded (weight (b ∪ c) v) (sticky (spectrum_of_sum (given e) b (given f) c)) (x +ℚ y)
  spectrum_of_sum-bounded h k =
      either-bounded (apart b c)
      (λ t. bounded_at (hull-sum-bounded (weight-nonneg b v) (weight-nonneg c v) h k) (sym (weight-apart b c v t)))
      (λ t. sum-bounded (extended-bounded b (b ∪ c) v (left-in b c) h) (extended-bounded c (b ∪ c) v (right-in b c) k))

-- an extended spectrum is within the limit where the spectrum is
pub extended-valid : (e : Range) (b c : ℕ) → T (is_valid e) → T (is_valid (sticky (extended (given e) b c)))
unfolding is_valid
extended-valid e b c t = go (eqb b c)
  where
    zero-valid : is_valid zero_range ≡ true
    zero-valid = refl

    go : (d : Bool) → T (is_valid (cond d e (hull_of e zero_range)))
    go true = t
    go false = rw (hull_of-is e zero_range (T_true t) zero-valid) (true-T (hull-valid e zero_range (T_true t) zero-valid))
