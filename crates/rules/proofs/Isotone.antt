-- Narrower ranges of the factors: the run goes through where the wider one does, with narrower lines, and so does rating: `isotone`. Assumes nothing.
use mathlib.Core.Path.{◌≡◌, refl, sym, ap, ◌∙◌, subst}
use mathlib.Core.Bool.{Bool, true, false, cond}
use mathlib.Core.List.{List, [], ◌∷◌}
use Prim.Native.Nat.{ℕ, suc, ◌<◌}
use native.Mathlib.Omega.{arith}
use lib.Dec.{T}
use lib.ListN.{length}
use Rattle.codelist.specs.declared.Op.{Op}
use Rattle.codelist.specs.declared.Op.TheVariants.{Add, Mul, AddC, MulC, Pow, Inv}
use Rattle.codelist.specs.declared.Entry.{Entry}
use Rattle.codelist.specs.declared.Codelist.{Codelist}
use Rattle.codelist.specs.Exchange.{OneByOne, none, more}
use Rattle.codelist.proofs.OneByOne.{each_snoc}
use Rattle.range.specs.declared.Range.{Range}
use Rattle.range.specs.Limit.{over, is_valid}
use Rattle.range.specs.Laws.{ValidInside}
use Rattle.range.specs.Arithmetic.{holds_zero, inverse_of}
use Rattle.range.specs.Sums.{at}
use Rattle.range.proofs.Valid.{T_true, true-T, and_both, over-invalid}
use Rattle.range.proofs.Within.{within-inside}
use Rattle.rules.specs.declared.Line.{Line}
use Rattle.rules.specs.declared.Limits.{Limits}
use Rattle.rules.specs.Sets.{all_of}
use Rattle.rules.specs.Table.{inv_row, line_of}
use Rattle.rules.specs.Run.{no_line, line, row_of, inverts_zero, each_valid, within, through, run_ops, always_bent, lines_of, operations}
use Rattle.rules.specs.Rate.{last, limits_of, rated, pairs, finished, first_bad, rate_ranges}
use Rattle.rules.specs.Isotone.{NarrowerLimits, IsotoneRating}
use Rattle.rules.proofs.Along.{at_turn}
use Rattle.rules.proofs.Accepted.{accepted, pairs-length, through-to}
use Rattle.rules.proofs.Enclosed.{value-valid, gradient-valid, spectrum-valid}
use Rattle.rules.proofs.Sound.{full-within}
use Rattle.rules.proofs.Paired.{Paired, paired-factors, paired-line, paired-last}
use Rattle.rules.proofs.Overflow.{factor-within}
use Rattle.rules.proofs.Passing.{good-iff}
use Rattle.rules.proofs.FirstBad.{all-good, none-bad}
use Rattle.rules.proofs.Refused.{counted}
use Rattle.rules.proofs.NarrowerRows.{Slopes, slope-narrower, held, extended-narrower, sticky-narrower, NarrowerLine, narrower}
use Rattle.rules.proofs.NarrowerRows.{line-narrower, no-line-narrower, factor-narrower, row-narrower}

-- ---- a narrower line beside one that is within the limit
record Narrowed (k l : Line) : Type 0 where
  narrower : NarrowerLine k l
  within : T (within l)

no-line : Narrowed no_line no_line
unfolding within no_line is_valid
no-line = record { narrower = no-line-narrower; within = tt }

slopes-within : {g h : List Range} → Slopes g h → ((a : ℕ) → T (is_valid (at h a))) → T (each_valid g)
slopes-within none t = tt
slopes-within (more {x = x} {xs = g} n ns) t =
    and_both (is_valid x) (each_valid g) (n.inside (t 0)).valid (slopes-within ns (λ a. t (suc a)))

still-within : {k l : Line} → NarrowerLine k l → T (within l) → T (within k)
unfolding within
still-within {k} {l} (narrower p b v g e) t =
    and_both (is_valid k.value) _ (v.inside (value-valid l t)).valid
    (and_both (each_valid k.gradient) _ (slopes-within g (gradient-valid l t)) (e.inside (spectrum-valid l t)).valid)

-- ---- 11 does not arise: the inverse of a range that holds 0 is not within the limit
no-inverse : (r : Range) → T (is_valid (inverse_of r)) → holds_zero r ≡ false
unfolding inverse_of
no-inverse r t = go (holds_zero r) _ t
  where
    go : (b : Bool) (s : Range) → T (is_valid (cond b over s)) → b ≡ false
    go true s t = absurd (over-invalid t)
    go false s t = refl

no-divisor : (o : Op) (ls : List Line) → T (within (line_of (row_of o ls))) → inverts_zero o ls ≡ false
unfolding inverts_zero row_of line_of inv_row
no-divisor (Inv i) ls t = no-inverse (line ls i).value (value-valid (line_of (row_of (Inv i) ls)) t)
no-divisor (Add i j) ls t = refl
no-divisor (Mul i j) ls t = refl
no-divisor (AddC i c) ls t = refl
no-divisor (MulC i c) ls t = refl
no-divisor (Pow i m) ls t = refl

-- ---- the run
record RunsNarrower (os : List Entry) (ks ms : List Line) : Type 0 where
  lines : List Line
  runs : run_ops os ks ≡ through lines
  each : Paired Narrowed lines ms

run-narrower : (os : List Entry) {ks ls ms : List Line} → Paired Narrowed ks ls → run_ops os ls ≡ through ms → RunsNarrower os ks ms
unfolding run_ops
run-narrower [] {ks} {ls} {ms} n e =
    let same : ls ≡ ms = cc in
    record { lines = ks; runs = refl; each = subst (OneByOne Narrowed ks) same n }
run-narrower (o ∷ os) {ks} {ls} {ms} n e =
    let t = at_turn o os ls ms e in
    let next = line-narrower (row-narrower o.op ks ls (λ i. (paired-line no-line n i).narrower)) in
    let w = still-within next t.0 in
    let R = run-narrower os (each_snoc Narrowed n (record { narrower = next; within = t.0 })) t.1 in
    let v : within (line_of (row_of o.op ks)) ≡ true = T_true w in
    record { lines = R.lines; runs = rw (no-divisor o.op ks w, v) R.runs; each = R.each }

-- ---- ranges inside ranges that are good
pub record InsideGood (rs qs : List Range) : Type 0 where
  pub count : length rs ≡ length qs
  pub good : (a : ℕ) → a < length qs → T (is_valid (at qs a))
  pub each : (a : ℕ) → a < length qs → ValidInside (at rs a) (at qs a)

limits-narrower : (n : ℕ) {k l : Line} → NarrowerLine k l → T (within l) → NarrowerLimits (limits_of n k) (limits_of n l)
unfolding limits_of
limits-narrower n {k} {l} (narrower p b v g e) t =
    record {
      value = v.inside (value-valid l t);
      gradient = λ a h. (slope-narrower g a).inside (gradient-valid l t a);
      support = refl;
      nonlinear = refl;
      spectrum = e.inside (spectrum-valid l t);
      full = (sticky-narrower (extended-narrower b (all_of n) (held e))).inside (true-T (full-within n l (T_true t)));
    }

pub ranges-isotone : (c : Codelist) {rs qs : List Range} {l : Limits} → InsideGood rs qs → rate_ranges c qs 0 ≡ rated l
    → (k : Limits) × ((rate_ranges c rs 0 ≡ rated k) × NarrowerLimits k l)
unfolding lines_of rate_ranges
ranges-isotone c {rs} {qs} {l} i e =
    let t = through-to c.factors (lines_of c qs) e in
    let f = always_bent c in
    let first = paired-factors Narrowed f f 0 rs qs i.count (λ a h.
    let k : a < length qs = omega (arith, h, i.count) in
    record {
      narrower = line-narrower (factor-narrower f _ (record { inside = λ v. i.each a k }));
      within = true-T (factor-within f _ (at qs a) (i.good a k));
    }) in
    let r = run-narrower (operations c) first t.1.0 in
    let n = paired-last no-line r.each in (
      limits_of c.factors (last r.lines),
      (
        ap (finished c.factors) r.runs,
        subst (NarrowerLimits _) (sym t.1.1) (limits-narrower c.factors n.narrower n.within),
      ),
    )

-- NARROWER RANGES GIVE NARROWER LIMITS
pub isotone : IsotoneRating
unfolding rate_ranges
isotone c xs ys l e i =
    let A = accepted c ys l e in
    let n = i.count ∙ A.numbers in
    let m = pairs-length xs c.factors n in
    let g = all-good 0 (pairs ys) A.good in
    let w : InsideGood (pairs xs) (pairs ys) = record {
      count = m ∙ sym A.count;
      good = λ a h. true-T ((good-iff (at (pairs ys) a)).1 (g a h));
      each = λ a h.
          let k : a < c.factors = omega (arith, h, A.count) in
          within-inside (record { low = i.low a k; order = i.order a k; high = i.high a k }) (true-T ((good-iff (at (pairs ys) a)).1 (g a h)));
    } in
    let none : first_bad 1 (pairs xs) ≡ 0 = none-bad 1 (pairs xs) (λ a h. (good-iff (at (pairs xs) a)).0 (T_true (w.each a (omega (arith, h, w.count))).valid)) in
    let r = ranges-isotone c w (ap (finished c.factors) A.ran ∙ ap rated (sym A.limits)) in
    (r.0, (counted c xs A.codelist n ∙ ap (rate_ranges c (pairs xs)) none ∙ r.1.0, r.1.1))
