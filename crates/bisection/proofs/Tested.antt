-- The refusals before the parts, 10, 8 and 9, as plain rating has them, and 16: `tested`. Assumes nothing.
use mathlib.Core.Path.{◌≡◌, refl}
use mathlib.Core.Bool.{Bool, true, false, cond}
use mathlib.Core.List.{List, [], ◌∷◌}
use mathlib.Core.Logic.{◌↔◌}
use Prim.Native.Nat.{ℕ, zero, suc, ◌*◌, ◌-◌}
use native.Mathlib.Omega.{arith}
use lib.Dec.{T, eqb, ltb}
use lib.IntN.{ℤ, pos}
use lib.ListN.{length, get_or-eq_default}
use lib.Signed.{le_z, le_z_yes}
use borrow.Author.Tests.{eqb-true, eq-eqb, ltb-true, ltb-false}
use Rattle.codelist.specs.declared.Codelist.{Codelist}
use Rattle.codelist.specs.Codelist.{Ratable, ratable}
use Rattle.codelist.proofs.Ratable.{decides}
use Rattle.range.specs.declared.Range.{Range}
use Rattle.range.specs.Limit.{zero_range, is_valid}
use Rattle.range.specs.Sums.{at}
use Rattle.range.proofs.Valid.{T_true, true-T, and_left, and_right, and_both}
use Rattle.rules.specs.declared.Refusal.TheVariants.{NoCodelist, RangeCount, BadRange}
use Rattle.rules.specs.Rate.{pairs, first_bad, rate_ranges, rate_of}
use Rattle.rules.specs.Refused.{range_of, Runnable, RefusedFor}
use Rattle.rules.proofs.Accepted.{pairs-length}
use Rattle.rules.proofs.Passing.{good-iff}
use Rattle.rules.proofs.Refused.{refused-exactly}
use Rattle.bisection.specs.Cut.{is_depth}
use Rattle.bisection.specs.Promises.{IsDepth}
use Rattle.bisection.proofs.Covers.{Valid}
use Rattle.bisection.proofs.Plain.{Ready}

-- ---- tests
pub depth-iff : (d : ℤ) → (is_depth d ≡ true) ↔ IsDepth d
depth-iff d =
    let low = le_z (pos 0) d in
    let high = le_z d (pos 6) in (
      λ e. (le_z_yes (and_left low high (true-T e)), le_z_yes (and_right low high (true-T e))),
      λ i. T_true (and_both low high i.0.le i.1.le),
    )

-- no bad range: each is valid
pub all_valid : (a : ℕ) (rs : List Range) → first_bad (suc a) rs ≡ 0 → Valid rs
unfolding first_bad is_valid
all_valid a [] e = λ i. tt
all_valid a (r ∷ rs) e = go (is_valid r) refl e (all_valid (suc a) rs)
  where
    go : (b : Bool) → is_valid r ≡ b → cond b (first_bad (suc (suc a)) rs) (suc a) ≡ 0 → (first_bad (suc (suc a)) rs ≡ 0 → Valid rs)
        → Valid (r ∷ rs)
    go false v e f i = absurd (omega arith)
    go true v e f zero = true-T v
    go true v e f (suc i) = f e i

module _ {c : Codelist} {xs : List ℤ} where
  pub ready : Runnable c xs → Ready c (pairs xs)
  unfolding is_valid
  ready t = record { codelist = t.codelist; count = count; valid = λ a. go a (ltb a (length (pairs xs))) refl }
    where
      count : length (pairs xs) ≡ c.factors
      count = pairs-length xs c.factors t.count

      go : (a : ℕ) (b : Bool) → ltb a (length (pairs xs)) ≡ b → T (is_valid (at (pairs xs) a))
      go a true e =
          let l = ltb-true a (length (pairs xs)) e in
          let s : suc a - 1 ≡ a = omega arith in
          true-T ((good-iff (at (pairs xs) a)).1 (rw s at (t.good (suc a) (omega arith) (omega (arith, count)))))
      go a false e = rw (get_or-eq_default (pairs xs) zero_range (ltb-false a (length (pairs xs)) e)) tt

  runnable : Ratable c → length xs ≡ 2 * c.factors → Valid (pairs xs) → Runnable c xs
  runnable w n v = record { codelist = w; count = n; good = λ a p l. (good-iff (range_of xs a)).0 (T_true (v (a - 1))) }

-- ---- 10, 8 and 9
pub data Tested (c : Codelist) (xs : List ℤ) : Type 0 where
  no-codelist : RefusedFor c xs NoCodelist → Tested c xs
  range-count : RefusedFor c xs RangeCount → Tested c xs
  bad-range : (a : ℕ) → RefusedFor c xs (BadRange a) → Tested c xs
  runs : Runnable c xs → Tested c xs

module _ (c : Codelist) (xs : List ℤ) where
  pub tested : Tested c xs
  unfolding rate_of rate_ranges
  tested = go (ratable c) (eqb (length xs) (2 * c.factors)) (first_bad 1 (pairs xs)) refl refl refl
    where
      go : (b t : Bool) (n : ℕ) → ratable c ≡ b → eqb (length xs) (2 * c.factors) ≡ t → first_bad 1 (pairs xs) ≡ n → Tested c xs
      go false t n w m f = no-codelist ((refused-exactly.where-listed c xs NoCodelist).0 (rw w))
      go true false n w m f = range-count ((refused-exactly.where-listed c xs RangeCount).0 (rw (w, m)))
      go true true zero w m f =
          runs (runnable ((decides c).0 w) (eqb-true (length xs) (2 * c.factors) m) (all_valid 0 (pairs xs) f))
      go true true (suc a) w m f = bad-range (suc a) ((refused-exactly.where-listed c xs (BadRange (suc a))).0 (rw (w, m, f)))

  -- the lowest bad range is found
  pub bad-found : (a : ℕ) → RefusedFor c xs (BadRange a) → first_bad 1 (pairs xs) ≡ a
  unfolding rate_of rate_ranges
  bad-found a t = go (first_bad 1 (pairs xs)) refl
    where
      go : (n : ℕ) → first_bad 1 (pairs xs) ≡ n → n ≡ a
      go zero f = absurd ((good-iff (range_of xs a)).0 (T_true (all_valid 0 (pairs xs) f (a - 1))) t.bad)
      go (suc k) f =
          let w = (decides c).1 t.codelist in
          let m = eq-eqb (length xs) (2 * c.factors) t.count in
          let s : BadRange (suc k) ≡ BadRange a =
          refused-exactly.one-refusal c xs (BadRange (suc k)) (BadRange a) ((refused-exactly.where-listed c xs (BadRange (suc k))).0 (rw (w, m, f))) t in
          cc
