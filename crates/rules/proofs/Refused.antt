-- Rating refuses exactly as 01's tables say: `refused-exactly`. Assumes nothing.
use mathlib.Core.Path.{◌≡◌, refl, sym, ap, subst, ◌∙◌}
use mathlib.Core.Bool.{Bool, true, false, cond}
use mathlib.Core.List.{List}
use mathlib.Core.Logic.{◌⊎◌, inl, inr, ◌↔◌}
use Prim.Native.Nat.{ℕ, zero, suc, ◌*◌, ◌-◌, ◌≤◌, ◌<◌}
use native.Mathlib.Omega.{arith}
use lib.Dec.{eqb}
use lib.IntN.{ℤ}
use lib.ListN.{length}
use borrow.Author.Tests.{eq-eqb, eqb-true}
use Rattle.codelist.specs.declared.Codelist.{Codelist}
use Rattle.codelist.specs.Codelist.{Ratable, ratable}
use Rattle.codelist.proofs.Ratable.{decides}
use Rattle.rules.specs.declared.Refusal.{Refusal}
use Rattle.rules.specs.declared.Refusal.TheVariants.{NoCodelist, RangeCount, BadRange, Divisor, Overflow}
use Rattle.rules.specs.InFull.{Refused}
use Rattle.rules.specs.declared.Limits.{Limits}
use Rattle.rules.specs.InFull.{Rating}
use Rattle.rules.specs.Run.{Lines, through, stopped, factor_lines, always_bent, operations, lines_of}
use Rattle.rules.specs.Rate.{limits_of, last, rated, refused, pairs, finished, first_bad, rate_ranges, rate_of}
use Rattle.rules.specs.Refused.{range_of, Bad, Runnable, RefusedFor, RefusedExactly}
use Rattle.rules.proofs.Accepted.{pairs-length, not-rated}
use Rattle.rules.proofs.Passing.{refuted-iff}
use Rattle.rules.proofs.Stopped.{RunRefused, run-refused-iff}
use Rattle.rules.proofs.FirstBad.{Good, Found, no-bad, bad-at, found, none-bad, lowest-bad, factors-within}

-- ---- rating
same-refusal : {r s : Refusal} → refused r ≡ refused s → r ≡ s
same-refusal {r} {s} h = let e : Refused r ≡ Refused s = ap (λ (x : Rating). x.outcome) h in cc

module _ (c : Codelist) (xs : List ℤ) where
  ratable-iff : (ratable c ≡ true) ↔ Ratable c
  ratable-iff = decides c

  count-iff : (eqb (length xs) (2 * c.factors) ≡ true) ↔ (length xs ≡ 2 * c.factors)
  count-iff = (eqb-true (length xs) (2 * c.factors), eq-eqb (length xs) (2 * c.factors))

  -- factors are counted from 1 in a refusal, and ranges from 0 in a list
  from_zero : {n : ℕ} → ((a : ℕ) → 1 ≤ a → a ≤ n → ¬ (Bad (range_of xs a))) → Good n (pairs xs)
  from_zero f i l = let e : suc i - 1 ≡ i = omega arith in rw e at (f (suc i) (omega arith) (omega arith))

  good-ranges : Runnable c xs → Good (length (pairs xs)) (pairs xs)
  good-ranges t = rw (pairs-length xs c.factors t.count) (from_zero t.good)

  -- the ranges are looked at
  pub counted : Ratable c → length xs ≡ 2 * c.factors → rate_of c xs ≡ rate_ranges c (pairs xs) (first_bad 1 (pairs xs))
  unfolding rate_of
  counted w n = let f = ratable-iff.1 w in let g = count-iff.1 n in rw (f, g)

  -- the lines are run
  module _ (t : Runnable c xs) where
    ran : rate_of c xs ≡ finished c.factors (lines_of c (pairs xs))
    unfolding rate_ranges
    ran = counted t.codelist t.count ∙ ap (rate_ranges c (pairs xs)) (none-bad 1 (pairs xs) (good-ranges t))

    run-iff : (r : Refusal) → (lines_of c (pairs xs) ≡ stopped r) ↔ RunRefused r (operations c) (factor_lines (always_bent c) 0 (pairs xs))
    unfolding lines_of
    run-iff r =
        let f = factors-within (always_bent c) 0 (pairs xs) (good-ranges t) in
        run-refused-iff (operations c) (factor_lines (always_bent c) 0 (pairs xs)) t.codelist.each
        (record { each = f.each; count = f.count ∙ pairs-length xs c.factors t.count })
        r

  -- ---- as the tables say
  data Class (x : Rating) : Type 0 where
    kept : (l : Limits) → x ≡ rated l → Class x
    turned_down : (r : Refusal) → x ≡ refused r → RefusedFor c xs r → Class x

  class-lines : Runnable c xs → Class (finished c.factors (lines_of c (pairs xs)))
  class-lines t = go (lines_of c (pairs xs)) (λ r. (run-iff t r).0)
    where
      go : (x : Lines) → ((r : Refusal) → x ≡ stopped r → RunRefused r (operations c) (factor_lines (always_bent c) 0 (pairs xs)))
          → Class (finished c.factors x)
      go (through ls) f = kept (limits_of c.factors (last ls)) refl
      go (stopped NoCodelist) f = absurd (f NoCodelist refl)
      go (stopped RangeCount) f = absurd (f RangeCount refl)
      go (stopped (BadRange a)) f = absurd (f (BadRange a) refl)
      go (stopped (Divisor k)) f = turned_down (Divisor k) refl (t, f (Divisor k) refl)
      go (stopped (Overflow k)) f = turned_down (Overflow k) refl (t, f (Overflow k) refl)

  class-ranges : Ratable c → length xs ≡ 2 * c.factors → (n : ℕ) → Found 1 (pairs xs) n → Class (rate_ranges c (pairs xs) n)
  unfolding rate_ranges
  class-ranges w m zero (no-bad e g) =
      class-lines (record { codelist = w; count = m; good = λ a p l. g (a - 1) (omega (arith, pairs-length xs c.factors m)) })
  class-ranges w m zero (bad-at i e l b g) = absurd (omega arith)
  class-ranges w m (suc n) (no-bad e g) = absurd (omega arith)
  class-ranges w m (suc n) (bad-at i e l b g) =
      let first : suc n - 1 ≡ i = omega arith in
      turned_down (BadRange (suc n)) refl
      (record {
        codelist = w;
        count = m;
        factor = (omega arith, omega (arith, pairs-length xs c.factors m));
        bad = rw first b;
        lower = λ a p k. g (a - 1) (omega arith);
      })

  classify : Class (rate_of c xs)
  unfolding rate_of
  classify = go (ratable c) (eqb (length xs) (2 * c.factors)) refl refl
    where
      go : (b d : Bool) → ratable c ≡ b → eqb (length xs) (2 * c.factors) ≡ d
          → Class (cond b (cond d (rate_ranges c (pairs xs) (first_bad 1 (pairs xs))) (refused RangeCount)) (refused NoCodelist))
      go false d p q = turned_down NoCodelist refl ((refuted-iff true ratable-iff).0 p)
      go true false p q = turned_down RangeCount refl (ratable-iff.0 p, (refuted-iff true count-iff).0 q)
      go true true p q = class-ranges (ratable-iff.0 p) (count-iff.0 q) (first_bad 1 (pairs xs)) (found 1 (pairs xs))

  refused-sound : (r : Refusal) → rate_of c xs ≡ refused r → RefusedFor c xs r
  refused-sound r h = go classify
    where
      go : Class (rate_of c xs) → RefusedFor c xs r
      go (kept l e) = absurd (not-rated (sym h ∙ e))
      go (turned_down q e t) = subst (RefusedFor c xs) (same-refusal (sym e ∙ h)) t

  late-complete : Runnable c xs → (r : Refusal) → RunRefused r (operations c) (factor_lines (always_bent c) 0 (pairs xs)) → rate_of c xs ≡ refused r
  late-complete t r s = ran t ∙ ap (finished c.factors) ((run-iff t r).1 s)

  refused-complete : (r : Refusal) → RefusedFor c xs r → rate_of c xs ≡ refused r
  unfolding rate_of rate_ranges
  refused-complete NoCodelist n = let f = (refuted-iff true ratable-iff).1 n in rw f
  refused-complete RangeCount (w, n) = let f = ratable-iff.1 w in let g = (refuted-iff true count-iff).1 n in rw (f, g)
  refused-complete (BadRange zero) t = absurd (omega (arith, t.factor.0))
  refused-complete (BadRange (suc a)) t =
      let e : suc a - 1 ≡ a = omega arith in
      let l : a < length (pairs xs) = omega (arith, t.factor.1, pairs-length xs c.factors t.count) in
      let n : first_bad 1 (pairs xs) ≡ suc a =
      lowest-bad 1 (pairs xs) a l (rw e at t.bad) (from_zero (λ b p k. t.lower b p (omega arith))) ∙ omega arith in
      counted t.codelist t.count ∙ ap (rate_ranges c (pairs xs)) n
  refused-complete (Divisor k) (t, s) = late-complete t (Divisor k) s
  refused-complete (Overflow k) (t, s) = late-complete t (Overflow k) s

-- REFUSED EXACTLY AS THE TABLES SAY
pub refused-exactly : RefusedExactly
refused-exactly = record {
  where-listed = λ c xs r. (refused-sound c xs r, refused-complete c xs r);
  decided = λ c xs. go c xs (classify c xs);
  one-refusal = λ c xs q r s t. same-refusal (sym (refused-complete c xs q s) ∙ refused-complete c xs r t);
  not-both = λ c xs l r e t. not-rated (sym (refused-complete c xs r t) ∙ e);
}
  where
    go : (c : Codelist) (xs : List ℤ) → Class c xs (rate_of c xs)
        → ((l : Limits) × (rate_of c xs ≡ rated l)) ⊎ ((r : Refusal) × RefusedFor c xs r)
    go c xs (kept l e) = inl (l, e)
    go c xs (turned_down r e t) = inr (r, t)
