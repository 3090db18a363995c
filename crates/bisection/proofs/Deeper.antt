-- A deeper cut never widens a limit: `deeper-cut`, `cut-inside-plain`. One level deeper, each part is plainly rated as before, or as its two halves, whose limits lie inside
-- its own (`ranges-isotone` of rules), so that their hull does. Assumes nothing.
use mathlib.Core.Path.{◌≡◌, refl, sym, ap, subst, ◌∙◌}
use mathlib.Core.Bool.{Bool, true, false, cond}
use mathlib.Core.List.{List}
use Prim.Native.Nat.{ℕ, zero, suc, ◌+◌, ◌-◌}
use native.Mathlib.Omega.{arith}
use lib.IntN.{pos, nat_abs}
use lib.Signed.{≤ℤ_refl}
use Rattle.algebra.proofs.Int.{≤ℤ-trans, nat_abs-mono}
use Rattle.codelist.specs.declared.Codelist.{Codelist}
use Rattle.range.specs.declared.Range.{Range}
use Rattle.range.specs.Arithmetic.{ends_hull}
use Rattle.range.specs.Sums.{at}
use Rattle.range.proofs.Valid.{true-T}
use Rattle.rules.specs.declared.Limits.{Limits}
use Rattle.rules.specs.Rate.{rated, pairs, rate_ranges}
use Rattle.rules.specs.Isotone.{NarrowerLimits}
use Rattle.rules.proofs.Isotone.{ranges-isotone}
use Rattle.engine.proofs.Validity as Validity
use Rattle.bisection.specs.InFull.{Bisected}
use Rattle.bisection.specs.Cut.{hull_limits, hulled, narrow, lower_part, upper_part, parts, answer_of, cut_of}
use Rattle.bisection.specs.Promises.{PartOf, IsDepth}
use Rattle.bisection.specs.Deeper.{NotWidened, DeeperCut, CutInsidePlain}
use Rattle.bisection.proofs.Hulls.{About, below_both, above-both}
use Rattle.bisection.proofs.Wider.{Wider, slope-hulled, hull-first, hull-second}
use Rattle.bisection.proofs.Covers.{lower-part, upper-part}
use Rattle.bisection.proofs.Plain.{Ready, ready-part}
use Rattle.bisection.proofs.Recursion.{hulled-rated, fine-same, parts-fine}
use Rattle.bisection.proofs.Tested.{ready}
use Rattle.bisection.proofs.Classified.{run, Class, cut, turned_down, classify}
use Rattle.bisection.proofs.CutSound.{not-both, cut-sound}

-- ---- ranges about ranges
about-self : (a : Range) → About a a
about-self a = record { low = ≤ℤ_refl a.low; high = ≤ℤ_refl a.high }

about-trans : {a b c : Range} → About a b → About b c → About a c
about-trans o p = record { low = ≤ℤ-trans o.low p.low; high = ≤ℤ-trans p.high o.high }

-- the hull is the least range about both
about-hull : {a b c : Range} → About a b → About a c → About a (ends_hull b c)
about-hull o p = record { low = below_both o.low p.low; high = above-both o.high p.high }

-- ---- limits about limits
wider-self : (l : Limits) → Wider l l
wider-self l = record {
  value = about-self l.value;
  gradient = λ a k. about-self (at l.gradient a);
  spectrum = about-self l.spectrum;
  full = about-self l.full;
  sets = record { support = refl; nonlinear = refl };
}

wider-trans : {k l m : Limits} → Wider m l → Wider l k → Wider m k
wider-trans v w = record {
  value = about-trans v.value w.value;
  gradient = λ a h. about-trans (v.gradient a h) (w.gradient a h);
  spectrum = about-trans v.spectrum w.spectrum;
  full = about-trans v.full w.full;
  sets = record { support = v.sets.support ∙ w.sets.support; nonlinear = v.sets.nonlinear ∙ w.sets.nonlinear };
}

wider-hull : {k l m : Limits} → Wider l k → Wider l m → Wider l (hull_limits k m)
unfolding hull_limits
wider-hull {k} {l} {m} v w = record {
  value = about-hull v.value w.value;
  gradient = λ a h. rw (slope-hulled k m a h) (about-hull (v.gradient a h) (w.gradient a h));
  spectrum = about-hull v.spectrum w.spectrum;
  full = about-hull v.full w.full;
  sets = record { support = v.sets.support; nonlinear = v.sets.nonlinear };
}

-- narrower limits are valid ones that others are about
narrower-wider : {k l : Limits} → NarrowerLimits k l → Wider l k
narrower-wider n = record {
  value = record { low = n.value.low; high = n.value.high };
  gradient = λ a h. let s = n.gradient a h in record { low = s.low; high = s.high };
  spectrum = record { low = n.spectrum.low; high = n.spectrum.high };
  full = record { low = n.full.low; high = n.full.high };
  sets = record { support = sym n.support; nonlinear = sym n.nonlinear };
}

wider-narrower : {k l : Limits} → Validity.Valid k → Wider l k → NarrowerLimits k l
wider-narrower v w = record {
  value = record { valid = true-T v.value; low = w.value.low; high = w.value.high };
  gradient = λ a h. let s = w.gradient a h in record { valid = true-T (v.slopes a); low = s.low; high = s.high };
  support = sym w.sets.support;
  nonlinear = sym w.sets.nonlinear;
  spectrum = record { valid = true-T v.spectrum; low = w.spectrum.low; high = w.spectrum.high };
  full = record { valid = true-T v.full; low = w.full.low; high = w.full.high };
}

-- ---- one level deeper
abbrev Rates : ℕ → Codelist → List Range → Limits → Type 0
Rates d c rs l = (k : Limits) × ((parts d c rs ≡ rated k) × Wider l k)

half : {c : Codelist} {rs ls : List Range} {l : Limits} → Ready c rs → PartOf rs ls → rate_ranges c rs 0 ≡ rated l → Rates 0 c ls l
unfolding parts
half {c} y q e =
    let r = ranges-isotone c (record { count = q.count; good = λ a h. y.valid a; each = λ a h. q.each a }) e in
    (r.0, (r.1.0, narrower-wider r.1.1))

-- what the two halves give, hulled
module _ (d : ℕ) (c : Codelist) (rs : List Range) (l : Limits) where
  both : Rates d c (lower_part rs) l → Rates d c (upper_part rs) l
      → (k : Limits) × ((hulled (parts d c (lower_part rs)) (parts d c (upper_part rs)) ≡ rated k) × Wider l k)
  both x y = (hull_limits x.0 y.0, (rw (x.1.0, y.1.0), wider-hull x.1.1 y.1.1))

one_deeper : (d : ℕ) {c : Codelist} {rs : List Range} {l : Limits} → Ready c rs → parts d c rs ≡ rated l → Rates (suc d) c rs l
unfolding parts
one_deeper zero {c} {rs} {l} y e = go (narrow rs) refl
  where
    go : (b : Bool) → narrow rs ≡ b
        → (k : Limits) × ((cond b (rate_ranges c rs 0) (hulled (parts 0 c (lower_part rs)) (parts 0 c (upper_part rs))) ≡ rated k) × Wider l k)
    go true w = (l, (e, wider-self l))
    go false w = both 0 c rs l (half y (lower-part rs w y.valid) e) (half y (upper-part rs w y.valid) e)
one_deeper (suc d) {c} {rs} {l} y e =
    go (narrow rs) refl e
    (λ w a f. one_deeper d (ready-part y (lower-part rs w y.valid)) f)
    (λ w a f. one_deeper d (ready-part y (upper-part rs w y.valid)) f)
  where
    go : (b : Bool) → narrow rs ≡ b → cond b (rate_ranges c rs 0) (hulled (parts d c (lower_part rs)) (parts d c (upper_part rs))) ≡ rated l
        → (narrow rs ≡ false → (a : Limits) → parts d c (lower_part rs) ≡ rated a → Rates (suc d) c (lower_part rs) a)
        → (narrow rs ≡ false → (a : Limits) → parts d c (upper_part rs) ≡ rated a → Rates (suc d) c (upper_part rs) a)
        → (k : Limits) × ((cond b (rate_ranges c rs 0) (hulled (parts (suc d) c (lower_part rs)) (parts (suc d) c (upper_part rs))) ≡ rated k) × Wider l k)
    go true w e L U = (l, (e, wider-self l))
    go false w e L U =
        let h = hulled-rated (parts d c (lower_part rs)) (parts d c (upper_part rs)) e in
        let x = L w _ h.first in
        let z = U w _ h.second in
        let F = parts-fine d (ready-part y (lower-part rs w y.valid)) h.first in
        let G = parts-fine d (ready-part y (upper-part rs w y.valid)) h.second in
        rw h.limits
        (both (suc d) c rs _
        (x.0, (x.1.0, wider-trans (hull-first _ _) x.1.1))
        (z.0, (z.1.0, wider-trans (hull-second _ _ (fine-same F G)) z.1.1)))

-- so many levels deeper
next-deeper : (d : ℕ) {c : Codelist} {rs : List Range} {l : Limits} → Ready c rs → Rates d c rs l → Rates (suc d) c rs l
next-deeper d y r = let s = one_deeper d y r.1.0 in (s.0, (s.1.0, wider-trans r.1.1 s.1.1))

deeper-by : (n d : ℕ) {c : Codelist} {rs : List Range} {l : Limits} → Ready c rs → Rates d c rs l → Rates (n + d) c rs l
deeper-by zero d {c} {rs} {l} y r = subst (λ t. Rates t c rs l) (omega arith) r
deeper-by (suc n) d {c} {rs} {l} y r = subst (λ t. Rates t c rs l) (omega arith) (next-deeper (n + d) y (deeper-by n d y r))

-- A DEEPER CUT IS NOT WIDER
pub deeper-cut : DeeperCut
deeper-cut e xs k m a b h = go (classify e xs k)
  where
    go : Class e xs k → NotWidened e xs m (cut_of e xs k).limits
    go (turned_down r f t) = not-both (sym h ∙ ap (λ (x : Bisected). x.outcome) f)
    go (cut i t l p f) =
        let j : IsDepth m = (≤ℤ-trans i.0 a, b) in
        let less = nat_abs-mono i.0 a in
        let r = deeper-by (nat_abs m - nat_abs k) (nat_abs k) (ready t) (l, (p, wider-self l)) in
        let z : nat_abs m - nat_abs k + nat_abs k ≡ nat_abs m = omega (arith, less) in
        let q : parts (nat_abs m) e.codelist (pairs xs) ≡ rated r.0 = rw z at r.1.0 in
        let c = run e xs m j t ∙ ap answer_of q in
        let valid = (parts-fine (nat_abs m) (ready t) q).valid in
        rw f (record { accepted = ap (λ (x : Bisected). x.outcome) c; limits = rw c (wider-narrower valid r.1.1) })

pub cut-inside-plain : CutInsidePlain
cut-inside-plain e xs m i h =
    let z = cut-sound.depth-zero e xs in
    rw (← z.limits) (deeper-cut e xs (pos 0) m i.0 i.1 (z.accepted.1 h))
