-- Every call is answered by the parts of ranges that passed 10, 16, 8 and 9, or refused as listed: `refused-complete`, `classify`.
-- Assumes nothing.
use mathlib.Core.Path.{◌≡◌, refl, sym, ap, subst, ◌∙◌}
use mathlib.Core.Bool.{Bool, true, false}
use mathlib.Core.List.Memᴰ
use mathlib.Core.List.{List, Memᴰ}
use mathlib.Core.Logic.{◌↔◌}
use Prim.Native.Nat.{zero, suc, ◌*◌, ◌-◌}
use native.Mathlib.Omega.{arith}
use lib.IntN.{ℤ, nat_abs}
use lib.ListN.{length}
use borrow.Author.Tests.{eq-eqb, ne_eqb}
use Rattle.codelist.specs.declared.Codelist.{Codelist}
use Rattle.codelist.specs.Codelist.{Ratable}
use Rattle.codelist.proofs.Ratable.{decides}
use Rattle.range.specs.declared.Range.{Range}
use Rattle.range.specs.Sums.{at}
use Rattle.range.proofs.Valid.{T_true}
use Rattle.rules.specs.declared.Refusal as rules
use Rattle.rules.specs.declared.Refusal.TheVariants.{NoCodelist, RangeCount, BadRange, Divisor, Overflow}
use Rattle.rules.specs.InFull as rating
use Rattle.rules.specs.declared.Limits.{Limits}
use Rattle.rules.specs.InFull.{Rating}
use Rattle.rules.specs.Rate.{rated, refused, pairs, first_bad}
use Rattle.rules.specs.Refused.{Runnable, RefusedFor}
use Rattle.rules.specs.Figures.{ends}
use Rattle.rules.proofs.Passing.{refuted-iff, good-iff}
use Rattle.rules.proofs.Refused.{refused-exactly}
use Rattle.engine.specs.declared.Engine.{Engine}
use Rattle.bisection.specs.declared.Refusal.{Refusal}
use Rattle.bisection.specs.declared.Refusal.TheVariants.{Depth, Rate}
use Rattle.bisection.specs.Cut.{parts, leaves, answer_of, refused_with, is_depth, parts_of, counted_of, cut_of}
use Rattle.bisection.specs.Promises.{IsDepth, plain, FirstRefused, CutRefusedFor, PartOf}
use Rattle.bisection.proofs.Covers.{covers}
use Rattle.bisection.proofs.Plain.{Ready, ready-part, none-bad, pairs-ends, length-ends}
use Rattle.bisection.proofs.Leaves.{parts-leaves}
use Rattle.bisection.proofs.First.{First, first-iff}
use Rattle.bisection.proofs.Shape.{Shape, with-limits, with_none, shape-parts, shape-rating, rated-by, refused-by}
use Rattle.bisection.proofs.Tested.{depth-iff, ready, Tested, no-codelist, range-count, bad-range, runs, tested, bad-found}

-- ---- a part that is refused is refused with 11 or 12
abbrev Late : rules.Refusal → Type 0
Late NoCodelist = ⊥
Late RangeCount = ⊥
Late (BadRange a) = ⊥
Late (Divisor k) = Unit
Late (Overflow k) = Unit

late : {c : Codelist} {rs : List Range} → Ready c rs → (r : rules.Refusal) → RefusedFor c (ends rs) r → Late r
late y NoCodelist t = t y.codelist
late {rs = rs} y RangeCount t = t.1 (length-ends rs ∙ ap (λ n. 2 * n) y.count)
late {rs = rs} y (BadRange a) t = (good-iff (at rs (a - 1))).0 (T_true (y.valid (a - 1))) (rw (pairs-ends rs) at t.bad)
late y (Divisor k) t = tt
late y (Overflow k) t = tt

-- ---- the first part that is refused
module _ (c : Codelist) (ls : List (List Range)) (r : rules.Refusal) where
  first-refused : First (plain c) ls r → FirstRefused c ls r
  first-refused F = record {
    before = F.before;
    part = F.part;
    after = F.after;
    split = F.split;
    accepted = λ t m. rated-by (shape-rating c (ends t)) (F.accepted t m);
    refuses = (refused-exactly.where-listed c (ends F.part) r).0 (refused-by (shape-rating c (ends F.part)) F.refuses);
  }

  first_back : FirstRefused c ls r → First (plain c) ls r
  first_back F = record {
    before = F.before;
    part = F.part;
    after = F.after;
    split = F.split;
    accepted = λ t m. ap (λ (x : Rating). x.outcome) (F.accepted t m).1;
    refuses = ap (λ (x : Rating). x.outcome) ((refused-exactly.where-listed c (ends F.part) r).1 F.refuses);
  }

-- ---- the call
module _ (e : Engine) (xs : List ℤ) (d : ℤ) where
  -- past 10 and 16
  passed : Ratable e.codelist → IsDepth d → cut_of e xs d ≡ answer_of (counted_of (nat_abs d) e.codelist xs)
  unfolding cut_of
  passed w i = rw ((decides e.codelist).1 w, (depth-iff d).1 i)

  -- past 8
  ranges : Ratable e.codelist → IsDepth d → length xs ≡ 2 * e.codelist.factors
      → cut_of e xs d ≡ answer_of (parts_of (nat_abs d) e.codelist (pairs xs) (first_bad 1 (pairs xs)))
  unfolding counted_of
  ranges w i n = passed w i ∙ rw (eq-eqb (length xs) (2 * e.codelist.factors) n)

  -- and past 9
  pub run : IsDepth d → Runnable e.codelist xs → cut_of e xs d ≡ answer_of (parts (nat_abs d) e.codelist (pairs xs))
  unfolding parts_of
  run i t =
      ranges t.codelist i t.count
      ∙ ap (λ n. answer_of (parts_of (nat_abs d) e.codelist (pairs xs) n)) (none-bad 1 (pairs xs) (ready t).valid)

  module _ (i : IsDepth d) (t : Runnable e.codelist xs) (r : rules.Refusal) where
    part-refused : ((parts (nat_abs d) e.codelist (pairs xs)).outcome ≡ rating.Refused r)
        ↔ FirstRefused e.codelist (leaves (nat_abs d) (pairs xs)) r
    part-refused =
        let ls = leaves (nat_abs d) (pairs xs) in
        let f = first-iff (plain e.codelist) ls r in
        let o = ap (λ (x : Rating). x.outcome) (parts-leaves (nat_abs d) (ready t)) in
        (λ h. first-refused e.codelist ls r (f.0 (sym o ∙ h)), λ F. o ∙ f.1 (first_back e.codelist ls r F))

    late-complete : FirstRefused e.codelist (leaves (nat_abs d) (pairs xs)) r → cut_of e xs d ≡ refused_with (Rate r)
    late-complete F =
        run i t ∙ ap answer_of (refused-by (shape-parts (nat_abs d) e.codelist (pairs xs)) (part-refused.1 F))

    late-sound : parts (nat_abs d) e.codelist (pairs xs) ≡ refused r → CutRefusedFor e.codelist xs d (Rate r)
    late-sound h =
        let F = part-refused.0 (ap (λ (x : Rating). x.outcome) h) in
        go r F (late (ready-part (ready t) (inner F)) r F.refuses)
      where
        inner : (F : FirstRefused e.codelist (leaves (nat_abs d) (pairs xs)) r) → PartOf (pairs xs) F.part
        inner F = (covers (nat_abs d) (pairs xs) (ready t).valid).part F.part
            (subst (Memᴰ F.part) (sym F.split) (Memᴰ.append_right F.before (Memᴰ.head refl)))

        go : (r : rules.Refusal) → FirstRefused e.codelist (leaves (nat_abs d) (pairs xs)) r → Late r → CutRefusedFor e.codelist xs d (Rate r)
        go NoCodelist F z = absurd z
        go RangeCount F z = absurd z
        go (BadRange a) F z = absurd z
        go (Divisor k) F z = (i, (t, F))
        go (Overflow k) F z = (i, (t, F))

  -- ---- as listed
  pub refused-complete : (r : Refusal) → CutRefusedFor e.codelist xs d r → cut_of e xs d ≡ refused_with r
  unfolding cut_of counted_of parts_of
  refused-complete Depth (w, n) = rw ((decides e.codelist).1 w, (refuted-iff true (depth-iff d)).1 n)
  refused-complete (Rate NoCodelist) n = rw ((refuted-iff true (decides e.codelist)).1 n)
  refused-complete (Rate RangeCount) (i, (w, n)) = passed w i ∙ rw (ne_eqb (length xs) (2 * e.codelist.factors) n)
  refused-complete (Rate (BadRange zero)) (i, t) = absurd (omega (arith, t.factor.0))
  refused-complete (Rate (BadRange (suc a))) (i, t) =
      ranges t.codelist i t.count
      ∙ ap (λ n. answer_of (parts_of (nat_abs d) e.codelist (pairs xs) n)) (bad-found e.codelist xs (suc a) t)
  refused-complete (Rate (Divisor k)) (i, (t, F)) = late-complete i t (Divisor k) F
  refused-complete (Rate (Overflow k)) (i, (t, F)) = late-complete i t (Overflow k) F

  pub data Class : Type 0 where
    cut : IsDepth d → Runnable e.codelist xs → (l : Limits) → parts (nat_abs d) e.codelist (pairs xs) ≡ rated l
        → cut_of e xs d ≡ answer_of (rated l) → Class
    turned_down : (r : Refusal) → cut_of e xs d ≡ refused_with r → CutRefusedFor e.codelist xs d r → Class

  by-list : (r : Refusal) → CutRefusedFor e.codelist xs d r → Class
  by-list r t = turned_down r (refused-complete r t) t

  pub classify : Class
  classify = go (tested e.codelist xs) (is_depth d) refl
    where
      by_parts : IsDepth d → Runnable e.codelist xs → Shape (parts (nat_abs d) e.codelist (pairs xs)) → Class
      by_parts i t (with-limits l h) = cut i t l h (run i t ∙ ap answer_of h)
      by_parts i t (with_none r h) = by-list (Rate r) (late-sound i t r h)

      deep : is_depth d ≡ false → Ratable e.codelist → Class
      deep n w = by-list Depth (w, (refuted-iff true (depth-iff d)).0 n)

      go : Tested e.codelist xs → (b : Bool) → is_depth d ≡ b → Class
      go (no-codelist t) b n = by-list (Rate NoCodelist) t
      go (range-count t) false n = deep n t.0
      go (range-count t) true n = by-list (Rate RangeCount) ((depth-iff d).0 n, t)
      go (bad-range a t) false n = deep n t.codelist
      go (bad-range a t) true n = by-list (Rate (BadRange a)) ((depth-iff d).0 n, t)
      go (runs t) false n = deep n t.codelist
      go (runs t) true n = by_parts ((depth-iff d).0 n) t (shape-parts (nat_abs d) e.codelist (pairs xs))
