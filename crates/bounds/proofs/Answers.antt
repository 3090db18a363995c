-- The answer of rating, by the tests that led to it. Assumes nothing.
use mathlib.Core.Path.{◌≡◌, refl, sym, ap, ◌∙◌}
use mathlib.Core.Bool.{Bool, true, false, cond}
use mathlib.Core.List.{List}
use Prim.Native.Nat.{ℕ, zero, suc, ◌*◌}
use borrow.Author.Tests.{eq-eqb, ne_eqb}
use lib.IntN.{ℤ}
use lib.ListN.{length}
use Rattle.codelist.specs.declared.Codelist.{Codelist}
use Rattle.codelist.specs.Codelist.{ratable}
use Rattle.rules.specs.declared.Refusal.{Refusal}
use Rattle.rules.specs.declared.Refusal.TheVariants.{NoCodelist, RangeCount, BadRange}
use Rattle.rules.specs.Run.{lines_of}
use Rattle.rules.specs.Rate.{refused, finished, pairs, first_bad, rate_ranges, rate_of}

module _ (c : Codelist) (xs : List ℤ) where
  -- 10
  pub no-codelist : ratable c ≡ false → refused NoCodelist ≡ rate_of c xs
  unfolding rate_of
  no-codelist e = rw e

  -- a refusal that comes first only where the codelist can be rated
  pub or-no-codelist : (r : Refusal) → (ratable c ≡ true → refused r ≡ rate_of c xs) → cond (ratable c) (refused r) (refused NoCodelist) ≡ rate_of c xs
  or-no-codelist r f = go (ratable c) refl
    where
      go : (b : Bool) → ratable c ≡ b → cond b (refused r) (refused NoCodelist) ≡ rate_of c xs
      go true e = f e
      go false e = no-codelist e

  module _ (w : ratable c ≡ true) where
    -- 8
    pub bad-count : ¬ (length xs ≡ 2 * c.factors) → refused RangeCount ≡ rate_of c xs
    unfolding rate_of
    bad-count f = rw (w, ne_eqb _ _ f)

    module _ (n : length xs ≡ 2 * c.factors) where
      by-ranges : (b : ℕ) → b ≡ first_bad 1 (pairs xs) → rate_ranges c (pairs xs) b ≡ rate_of c xs
      unfolding rate_of
      by-ranges b e = rw (w, eq-eqb _ _ n) (ap (rate_ranges c (pairs xs)) e)

      -- 9
      pub bad-range : (b : ℕ) → b ≡ first_bad 1 (pairs xs) → ¬ (b ≡ 0) → refused (BadRange b) ≡ rate_of c xs
      unfolding rate_ranges
      bad-range zero e f = absurd (f refl)
      bad-range (suc b) e f = by-ranges (suc b) e

      pub all_lines : (b : ℕ) → b ≡ first_bad 1 (pairs xs) → b ≡ 0 → finished c.factors (lines_of c (pairs xs)) ≡ rate_of c xs
      unfolding rate_ranges
      all_lines b e z = by-ranges 0 (sym z ∙ e)
