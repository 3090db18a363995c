-- An accepted rating has only valid ranges.
use Prim.Native.Nat.{ℕ, suc, zero, ◌*◌, ◌≤◌}
use mathlib.Core.Bool.{Bool, true, false, cond, ◌&&◌}
use mathlib.Core.List.{List, [], ◌∷◌, ◌++◌}
use mathlib.Core.Path.{◌≡◌, refl}
use native.Mathlib.Omega.{arith}
use lib.Dec.{eqb}
use lib.IntN.{ℤ}
use lib.ListN.{length}
use Rattle.codelist.specs.declared.Codelist.{Codelist}
use Rattle.codelist.specs.declared.Entry.{Entry}
use Rattle.codelist.specs.Codelist.{ratable}
use Rattle.codelist.proofs.Laws.{both_true}
use Rattle.codelist.proofs.Ratable.{decides, taken}
use Rattle.range.specs.declared.Range.{Range}
use Rattle.range.specs.Arithmetic.{hull_of}
use Rattle.range.specs.Limit.{zero_range, is_valid}
use Rattle.range.specs.Sums.{at}
use Rattle.range.proofs.Fitting.{hull-valid, hull_of-is}
use Rattle.rules.specs.declared.Line.{Line}
use Rattle.rules.specs.declared.Limits.{Limits}
use Rattle.rules.specs.InFull as rating
use Rattle.rules.specs.declared.Refusal.TheVariants.{NoCodelist, RangeCount, Divisor, Overflow}
use Rattle.rules.specs.Run.{Lines, through, stopped, each_valid, within, inverts_zero, row_of, run_ops, operations, lines_of}
use Rattle.rules.specs.Table.{line_of}
use Rattle.rules.specs.Rate.{last, limits_of, refused, pairs, finished, first_bad, rate_ranges, rate_of}
use Rattle.rules.specs.Sets.{all_of}
use Rattle.engine.specs.declared.Engine.{Engine}
use Rattle.engine.specs.InFull.{Accepted}
use Rattle.engine.specs.Engine.{outcome_of, rated_of}

pub record Valid (l : Limits) : Type 0 where
  pub value : is_valid l.value ≡ true
  pub slopes : (a : ℕ) → is_valid (at l.gradient a) ≡ true
  pub spectrum : is_valid l.spectrum ≡ true
  pub full : is_valid l.full ≡ true

zero-valid : is_valid zero_range ≡ true
unfolding is_valid
zero-valid = refl

slope-valid : (g : List Range) (a : ℕ) → each_valid g ≡ true → is_valid (at g a) ≡ true
slope-valid [] zero e = zero-valid
slope-valid [] (suc a) e = zero-valid
slope-valid (r ∷ g) zero e = (both_true (is_valid r) (each_valid g) e).0
slope-valid (r ∷ g) (suc a) e = slope-valid g a (both_true (is_valid r) (each_valid g) e).1

-- the full bend of a valid one
full-valid : (b : Bool) (r : Range) → is_valid r ≡ true → is_valid (cond b r (hull_of r zero_range)) ≡ true
full-valid true r v = v
full-valid false r v = rw (hull_of-is r zero_range v zero-valid) (hull-valid r zero_range v zero-valid)

limits-valid : (n : ℕ) (l : Line) → within l ≡ true → Valid (limits_of n l)
unfolding within limits_of
limits-valid n l e =
    let i = both_true (is_valid l.value) (each_valid l.gradient && is_valid l.spectrum) e in
    let j = both_true (each_valid l.gradient) (is_valid l.spectrum) i.1 in
    record {
      value = i.0;
      slopes = λ a. slope-valid l.gradient a j.0;
      spectrum = j.1;
      full = full-valid (eqb l.nonlinear (all_of n)) l.spectrum j.1;
    }

last_snoc : (ls : List Line) (l : Line) → last (ls ++ (l ∷ [])) ≡ l
unfolding last
last_snoc [] l = refl
last_snoc (m ∷ []) l = refl
last_snoc (m ∷ k ∷ ls) l = last_snoc (k ∷ ls) l

-- A run that goes through an operation: its line passes the test of refusal 12, and the run goes on after it
abbrev next : Entry → List Line → Line
next o ls = line_of (row_of o.op ls)

run_step : (o : Entry) (os : List Entry) (ls ms : List Line) → run_ops (o ∷ os) ls ≡ through ms
    → (within (next o ls) ≡ true) × (run_ops os (ls ++ (next o ls ∷ [])) ≡ through ms)
unfolding run_ops
run_step o os ls ms e = go (inverts_zero o.op ls) (within (next o ls)) e
  where
    k : ℕ
    k = suc (length ls)

    go : (b c : Bool) → cond b (stopped (Divisor k)) (cond c (run_ops os (ls ++ (next o ls ∷ []))) (stopped (Overflow k))) ≡ through ms
        → (c ≡ true) × (run_ops os (ls ++ (next o ls ∷ [])) ≡ through ms)
    go true c h = absurd (let z : ◌≡◌ {A = ℕ} 0 1 = cc h in omega arith)
    go false true h = (refl, h)
    go false false h = absurd (let z : ◌≡◌ {A = ℕ} 0 1 = cc h in omega arith)

run_end : (ls ms : List Line) → run_ops [] ls ≡ through ms → ls ≡ ms
unfolding run_ops
run_end ls ms e = cc e

run-keeps : (os : List Entry) (ls ms : List Line) → within (last ls) ≡ true → run_ops os ls ≡ through ms → within (last ms) ≡ true
run-keeps [] ls ms w e = let m : ls ≡ ms = run_end ls ms e in rw m at w
run-keeps (o ∷ os) ls ms w e =
    let s = run_step o os ls ms e in
    run-keeps os (ls ++ (next o ls ∷ [])) ms (rw last_snoc s.0) s.1

run-last : (os : List Entry) (ls ms : List Line) → 1 ≤ length os → run_ops os ls ≡ through ms → within (last ms) ≡ true
run-last [] ls ms h e = absurd (omega arith)
run-last (o ∷ os) ls ms h e =
    let s = run_step o os ls ms e in
    run-keeps os (ls ++ (next o ls ∷ [])) ms (rw last_snoc s.0) s.1

finished_valid : (n : ℕ) (r : Lines) → ((ms : List Line) → r ≡ through ms → within (last ms) ≡ true)
    → (finished n r).outcome ≡ rating.Rated → Valid (finished n r).limits
finished_valid n (through ms) f e = limits-valid n (last ms) (f ms refl)
finished_valid n (stopped r) f e = absurd (let z : ◌≡◌ {A = ℕ} 0 1 = cc e in omega arith)

rate-valid : (c : Codelist) (xs : List ℤ) → (rate_of c xs).outcome ≡ rating.Rated → Valid (rate_of c xs).limits
unfolding rate_of rate_ranges lines_of
rate-valid c xs e = go (ratable c) refl (eqb (length xs) (2 * c.factors)) (first_bad 1 (pairs xs)) e
  where
    some : ratable c ≡ true → 1 ≤ length (operations c)
    some w = let f = (decides c).0 w in omega (arith, taken c f, f.some)

    go : (w : Bool) → ratable c ≡ w → (b : Bool) (a : ℕ)
        → (cond w (cond b (rate_ranges c (pairs xs) a) (refused RangeCount)) (refused NoCodelist)).outcome ≡ rating.Rated
        → Valid (cond w (cond b (rate_ranges c (pairs xs) a) (refused RangeCount)) (refused NoCodelist)).limits
    go false w b a h = absurd (let z : ◌≡◌ {A = ℕ} 0 1 = cc h in omega arith)
    go true w false a h = absurd (let z : ◌≡◌ {A = ℕ} 0 1 = cc h in omega arith)
    go true w true zero h = finished_valid c.factors (lines_of c (pairs xs)) (λ ms. run-last (operations c) _ ms (some w)) h
    go true w true (suc a) h = absurd (let z : ◌≡◌ {A = ℕ} 0 1 = cc h in omega arith)

pub accepted-valid : (e : Engine) (xs : List ℤ) → (rated_of e xs).outcome ≡ Accepted → Valid (rated_of e xs).limits
unfolding rated_of
accepted-valid e xs h = rate-valid e.codelist xs (rated (rate_of e.codelist xs).outcome h)
  where
    rated : (o : rating.Outcome) → outcome_of o ≡ Accepted → o ≡ rating.Rated
    rated rating.Rated a = refl
    rated (rating.Refused r) a = absurd (let z : ◌≡◌ {A = ℕ} 0 1 = cc a in omega arith)
