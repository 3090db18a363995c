-- The answer of rating in parts, by the tests that led to it. Assumes nothing.
use mathlib.Core.Path.{◌≡◌, refl, sym, ap, ◌∙◌}
use mathlib.Core.Bool.{true, false}
use mathlib.Core.List.{List, ◌++◌}
use Prim.Native.Nat.{ℕ, zero, suc, ◌*◌, ◌≤◌, ◌<◌}
use borrow.Author.Tests.{eq-eqb, ne_eqb}
use native.Mathlib.Omega.{arith}
use lib.Dec.{T}
use lib.IntN.{ℤ, pos, negsuc, nat_abs}
use lib.ListN.{length, take}
use lib.Seq.{take-append_seam}
use lib.Signed.{non_neg}
use Rattle.std.specs.Prelude.{Some, None, Ok}
use mir.Syntax.{w8}
use mir.Val.{Fits}
use Rattle.algebra.proofs.Int.{≤-pos}
use Rattle.codelist.specs.Codelist.{ratable}
use Rattle.codelist.proofs.Ratable.{decides}
use Rattle.rules.specs.declared.Refusal.TheVariants.{NoCodelist, RangeCount, BadRange}
use Rattle.rules.specs.declared.Refusal as rules
use Rattle.rules.specs.declared.Limits.{Limits}
use Rattle.rules.specs.InFull.{Rating}
use Rattle.rules.specs.Rate.{rated, refused, pairs, first_bad}
use Rattle.bounds.specs.FirstBad.{or_none}
use Rattle.bounds.proofs.Ranges.{pairs-count, bad-few}
use Rattle.engine.specs.declared.Engine.{Engine}
use Rattle.bisection.specs.declared.Refusal.TheVariants.{Depth, Rate}
use Rattle.bisection.specs.Cut.{parts, answer_of, refused_with, is_depth, parts_of, counted_of, cut_of, in_full}
use Rattle.bisection.specs.Box.{box_of, BoxOf}
use Rattle.bisection.proofs.Tested.{depth-iff, all_valid}

-- a depth is not below 0 and fits a byte
pub depth-fits : (d : ℤ) → is_depth d ≡ true → T (non_neg d) × Fits w8 (nat_abs d)
depth-fits (pos n) i = (tt, omega (arith, ≤-pos ((depth-iff (pos n)).0 i).1))
depth-fits (negsuc n) i = let z : ◌≡◌ {A = ℕ} 0 1 = cc in absurd (omega arith)

-- the numbers as they are copied
pub copied-box : (n : ℕ) (ends xs : List ℤ) → take (length xs) ends ≡ xs → length xs ≡ 2 * n → box_of n ends ≡ pairs xs
copied-box n ends xs e l = ap pairs (ap (λ k. take k ends) (sym l) ∙ e)

module _ (e : Engine) (xs : List ℤ) (d : ℤ) where
  -- 10
  pub no-codelist : ratable e.codelist ≡ false → refused_with (Rate NoCodelist) ≡ cut_of e xs d
  unfolding cut_of
  no-codelist w = rw w

  module _ (w : ratable e.codelist ≡ true) where
    -- 16
    pub bad-depth : is_depth d ≡ false → refused_with Depth ≡ cut_of e xs d
    unfolding cut_of
    bad-depth i = rw (w, i)

    module _ (i : is_depth d ≡ true) where
      -- 8
      pub bad-count : ¬ (length xs ≡ 2 * e.codelist.factors) → refused_with (Rate RangeCount) ≡ cut_of e xs d
      unfolding cut_of counted_of
      bad-count n = rw (w, i, ne_eqb (length xs) (2 * e.codelist.factors) n)

      module _ (n : length xs ≡ 2 * e.codelist.factors) where
        by-ranges : (b : ℕ) → b ≡ first_bad 1 (pairs xs) → answer_of (parts_of (nat_abs d) e.codelist (pairs xs) b) ≡ cut_of e xs d
        unfolding cut_of counted_of
        by-ranges b f =
            rw (w, i, eq-eqb (length xs) (2 * e.codelist.factors) n) (ap (λ b. answer_of (parts_of (nat_abs d) e.codelist (pairs xs) b)) f)

        -- 9
        pub bad-range : (b : ℕ) → b ≡ first_bad 1 (pairs xs) → ¬ (b ≡ 0) → refused_with (Rate (BadRange b)) ≡ cut_of e xs d
        unfolding parts_of
        bad-range zero f z = absurd (z refl)
        bad-range (suc b) f z = by-ranges (suc b) f

        pub by_parts : 0 ≡ first_bad 1 (pairs xs) → answer_of (parts (nat_abs d) e.codelist (pairs xs)) ≡ cut_of e xs d
        unfolding parts_of
        by_parts f = by-ranges 0 f

        pub box-of : (ends : List ℤ) → length ends ≡ 16 → take (length xs) ends ≡ xs → 0 ≡ first_bad 1 (pairs xs)
            → BoxOf e.codelist e.codelist.factors ends
        box-of ends s t f =
            let c = (decides e.codelist).0 w in
            record {
              codelist = c;
              count = refl;
              boxed = record {
                size = record { array = s; few = c.factors.1 };
                some = c.factors.0;
                valid = rw (copied-box e.codelist.factors ends xs t n) (all_valid 0 (pairs xs) (sym f));
              };
            }

-- ---- as the code has it: the lowest bad range as an option, and the parts as a result
bad-some : (k : ℕ) {a : ℕ} → Some a ≡ or_none k → (a ≡ k) × (¬ (a ≡ 0))
bad-some zero e = absurd (let z : ◌≡◌ {A = ℕ} 0 1 = cc in omega arith)
bad-some (suc k) {a} e = let p : a ≡ suc k = cc in (p, λ z. omega (arith, p, z))

bad-none : (k : ℕ) → None ≡ or_none k → 0 ≡ k
bad-none zero e = refl
bad-none (suc k) e = absurd (let z : ◌≡◌ {A = ℕ} 0 1 = cc in omega arith)

pub few-numbers : (e : Engine) (xs : List ℤ) → ratable e.codelist ≡ true → {k : ℕ} → k ≡ e.codelist.factors → length xs ≡ 2 * k → length xs ≤ 16
few-numbers e xs w is n = let f = ((decides e.codelist).0 w).factors.1 in omega (arith, n, f, is)

module _ (e : Engine) (xs : List ℤ) (d : ℤ) (w : ratable e.codelist ≡ true) (i : is_depth d ≡ true) (k : ℕ) (is : k ≡ e.codelist.factors) where
  module _ (n : length xs ≡ 2 * k) where
    counts : length xs ≡ 2 * e.codelist.factors
    counts = n ∙ ap (λ k. 2 * k) is

    module _ {a : ℕ} (o : Some a ≡ or_none (first_bad 1 (pairs xs))) where
      pub bad-byte : a < 256
      bad-byte =
          let f = ((decides e.codelist).0 w).factors.1 in
          omega (arith, (bad-some _ o).0, bad-few 0 (pairs xs), pairs-count xs e.codelist.factors counts, f)

      pub bad-refused : refused_with (Rate (BadRange a)) ≡ cut_of e xs d
      bad-refused = bad-range e xs d w i counts a (bad-some _ o).0 (bad-some _ o).1

    module _ (o : None ≡ or_none (first_bad 1 (pairs xs))) {ys : List ℤ} (rest : List ℤ) (copied : ys ≡ xs) where
      pub box-made : length (ys ++ rest) ≡ 16 → BoxOf e.codelist k (ys ++ rest)
      box-made s = rw is (box-of e xs d w i counts (ys ++ rest) s (rw copied (take-append_seam xs rest)) (bad-none _ o))

      answers : {x : Rating} → x ≡ parts (nat_abs d) e.codelist (box_of k (ys ++ rest)) → answer_of x ≡ cut_of e xs d
      answers p =
          ap answer_of (p ∙ ap (parts (nat_abs d) e.codelist) (copied-box k (ys ++ rest) xs (rw copied (take-append_seam xs rest)) n))
          ∙ by_parts e xs d w i counts (bad-none _ o)

      pub parts-refused : {r : rules.Refusal} → refused r ≡ parts (nat_abs d) e.codelist (box_of k (ys ++ rest)) → refused_with (Rate r) ≡ cut_of e xs d
      parts-refused p = answers p

      pub parts-rated : {l : Limits} → rated l ≡ parts (nat_abs d) e.codelist (box_of k (ys ++ rest)) → in_full (Ok l) ≡ cut_of e xs d
      parts-rated p = answers p
