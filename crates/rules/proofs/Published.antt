-- A rating is that of the published arithmetic: `published`. By the limit's own law (`limited`), a range that the engine works out is the formula's
-- value without a limit wherever it is valid; so a run that has gone through so far has the published lines. Assumes nothing.
use mathlib.Core.Path.{◌≡◌, refl, sym, ap, ◌∙◌}
use mathlib.Core.Bool.{Bool, true, false, ◌&&◌, cond}
use mathlib.Core.List.{List, [], ◌∷◌, ◌++◌, map, append-nil, append_assoc}
use Prim.Native.Nat.{ℕ, zero, suc, ◌+◌, ◌*◌, ◌-◌, ◌<◌}
use native.Mathlib.Nat as N
use native.Mathlib.Omega.{arith}
use lib.Dec.{T, eqb}
use lib.IntN.{ℤ}
use lib.ListN.{get_or, length, take, length-append, length-take, get_or-append}
use borrow.Author.Tests.{eqb-true}
use Rattle.codelist.specs.declared.Entry.{Entry}
use Rattle.codelist.specs.declared.Codelist.{Codelist}
use Rattle.codelist.specs.declared.Op.{Op}
use Rattle.codelist.specs.declared.Year.{Year}
use Rattle.codelist.specs.declared.Year.TheVariants.{Y2016, Y2014}
use Rattle.codelist.specs.Codelist.{WellFormedOps, Ratable, blank, ratable}
use Rattle.codelist.proofs.Ratable.{decides}
use Rattle.range.specs.declared.Range.{Range}
use Rattle.range.specs.Limit.{over, is_valid}
use Rattle.range.specs.Sums.{at}
use Rattle.range.proofs.Valid.{T_true, true-T, and_left, and_right}
use Rattle.range.proofs.Unlimited.{limited-valid}
use Rattle.rules.specs.declared.Line.{Line}
use Rattle.rules.specs.declared.Refusal.{Refusal}
use Rattle.rules.specs.declared.Limits.{Limits}
use Rattle.rules.specs.InFull.{Rating}
use Rattle.rules.specs.Formula.{Formula, given, sticky, unlimited, produced}
use Rattle.rules.specs.Sets.{all_of}
use Rattle.rules.specs.Table.{Row, factor_row, extended, line_of}
use Rattle.rules.specs.Run.{no_line, line, row_of, inverts_zero, each_valid, within, Lines, through, stopped, run_ops, factor_lines, bent_in, always_bent, lines_of, operations}
use Rattle.rules.specs.Rate.{last, limits_of, rated, pairs, finished, first_bad, rate_ranges, rate_of}
use Rattle.rules.specs.Overflow.{all_within, steps_of, AllLines, none, more}
use Rattle.rules.specs.Published.{published_line, published_factors, published_row, published_ops, published_limits, published_result, published_ranges, published_of}
use Rattle.rules.specs.Published.{PublishedLines, Published}
use Rattle.rules.proofs.Formulas.{Proper, limited}
use Rattle.rules.proofs.Overflow.{all, ProperRow, valid-line, extended-proper, proper, exact-overflow}
use Rattle.rules.proofs.Accepted.{Accepted, accepted, pairs-length}
use Rattle.rules.proofs.Stopped.{LinesWithin, run-within, all_snoc}
use Rattle.rules.proofs.FirstBad.{Good, Found, no-bad, bad-at, found, all-good, factors-within}
use Rattle.rules.proofs.Sound.{full-within}
use Rattle.rules.proofs.TableTwo.{bent-factors, run-in-2014}

-- ---- a line
-- a valid range is the value without a limit
unlimited-valid : (f : Formula) → Proper f → is_valid (sticky f) ≡ true → sticky f ≡ unlimited f
unlimited-valid f p t =
    let l = limited f p in
    let e : all_within (produced f) ≡ true = sym (limited-valid l) ∙ t in
    l.is ∙ ap (λ (b : Bool). cond b (unlimited f) over) e

line-of-parts : {v w : Range} {g h : List Range} {s b : ℕ} {e f : Range} → v ≡ w → g ≡ h → e ≡ f
    → ◌≡◌ {A = Line}
    (record { value = v; gradient = g; support = s; nonlinear = b; spectrum = e })
    (record { value = w; gradient = h; support = s; nonlinear = b; spectrum = f })
line-of-parts p q r = rw (p, q, r)

pub published-line : (r : Row) → ProperRow r → within (line_of r) ≡ true → line_of r ≡ published_line r
unfolding within line_of published_line
published-line r p w =
    let slopes = each_valid (line_of r).gradient in
    let rest = slopes && is_valid (line_of r).spectrum in
    let t = and_right (is_valid (line_of r).value) rest (true-T w) in
    line-of-parts
    (unlimited-valid r.value p.value (T_true (and_left (is_valid (line_of r).value) rest (true-T w))))
    (each all (and_left slopes (is_valid (line_of r).spectrum) t))
    (unlimited-valid r.spectrum p.spectrum (T_true (and_right slopes (is_valid (line_of r).spectrum) t)))
  where
    each : (ks : List ℕ) → T (each_valid (map (λ a. sticky (r.slope a)) ks)) → map (λ a. sticky (r.slope a)) ks ≡ map (λ a. unlimited (r.slope a)) ks
    each [] t = refl
    each (a ∷ ks) t =
        let first = is_valid (sticky (r.slope a)) in
        let others = each_valid (map (λ a. sticky (r.slope a)) ks) in
        let e = unlimited-valid (r.slope a) (p.slope a) (T_true (and_left first others t)) in
        rw (e, each ks (and_right first others t))

-- ---- a run
pub published-ops : (os : List Entry) (ls : List Line) → WellFormedOps (length ls) os → AllLines (λ l. within l ≡ true) ls
    → run_ops os ls ≡ published_ops row_of os ls
unfolding run_ops published_ops
published-ops [] ls w p = refl
published-ops (o ∷ os) ls w p = turn (published-ops os) (inverts_zero o.op ls) refl (all_within (steps_of row)) refl _ _
  where
    row : Row
    row = row_of o.op ls

    next : Line
    next = line_of row

    Rest : Type 0
    Rest = (ms : List Line) → WellFormedOps (length ms) os → AllLines (λ l. within l ≡ true) ms → run_ops os ms ≡ published_ops row_of os ms

    goes_on : Rest → inverts_zero o.op ls ≡ false → within next ≡ true
        → run_ops os (ls ++ (next ∷ [])) ≡ published_ops row_of os (ls ++ (published_line row ∷ []))
    goes_on rest z t =
        let e : next ≡ published_line row = published-line row (proper ls p o.op w.0 z) t in
        rest (ls ++ (next ∷ [])) (rw (length-append ls (next ∷ [])) w.1) (all_snoc next p t)
        ∙ ap (λ (l : Line). published_ops row_of os (ls ++ (l ∷ []))) e

    turn : Rest → (b : Bool) → inverts_zero o.op ls ≡ b → (c : Bool) → all_within (steps_of row) ≡ c → (d x : Lines)
        → cond b d (cond (within next) (run_ops os (ls ++ (next ∷ []))) x) ≡ cond b d (cond c (published_ops row_of os (ls ++ (published_line row ∷ []))) x)
    turn rest true z c e d x = refl
    turn rest false z true e d x = let t : within next ≡ true = exact-overflow o.op ls w.0 p z ∙ e in rw t (goes_on rest z t)
    turn rest false z false e d x = let t : within next ≡ false = exact-overflow o.op ls w.0 p z ∙ e in rw t

-- a factor's row has no step
published-factors : (f i : ℕ) (rs : List Range) → factor_lines f i rs ≡ published_factors f i rs
unfolding factor_lines published_factors line_of published_line factor_row unlimited
published-factors f i [] = refl
published-factors f i (r ∷ rs) = ap (λ (ls : List Line). line_of (factor_row f i r) ∷ ls) (published-factors f (suc i) rs)

factors-count : (f i : ℕ) (rs : List Range) → length (published_factors f i rs) ≡ length rs
unfolding published_factors
factors-count f i [] = refl
factors-count f i (r ∷ rs) = ap suc (factors-count f (suc i) rs)

-- ---- the result
last_within : {ls : List Line} → AllLines (λ l. within l ≡ true) ls → within (last ls) ≡ true
unfolding last within no_line is_valid
last_within none = refl
last_within (more p none) = p
last_within (more p (more q a)) = last_within (more q a)

published-limits : (n : ℕ) (l : Line) → within l ≡ true → limits_of n l ≡ published_limits n l
unfolding limits_of published_limits
published-limits n l w =
    let f = extended (given l.spectrum) l.nonlinear (all_of n) in
    let e : sticky f ≡ unlimited f = unlimited-valid f (extended-proper (valid-line l w).spectrum) (full-within n l w) in
    ap
    (λ (r : Range). record {
      value = l.value;
      gradient = l.gradient;
      support = l.support;
      nonlinear = l.nonlinear;
      spectrum = l.spectrum;
      full = r;
    })
    e

module _ (c : Codelist) (rs : List Range) (w : Ratable c) (count : length rs ≡ c.factors) (g : Good (length rs) rs) where
  first : LinesWithin c.factors (factor_lines (always_bent c) 0 rs)
  first = let f = factors-within (always_bent c) 0 rs g in record { each = f.each; count = f.count ∙ count }

  abbrev row : Op → List Line → Row
  row = published_row c.year c.factors

  -- in 2014 01's rows are Table 2's
  by-year : (y : Year) → let fs = published_factors (bent_in y c.factors) 0 rs in
      published_ops row_of (operations c) fs ≡ published_ops (published_row y c.factors) (operations c) fs
  unfolding published_row bent_in
  by-year Y2016 = refl
  by-year Y2014 =
      run-in-2014 c.factors w.factors.0 w.factors.1 (operations c) _
      (rw (factors-count _ 0 rs, count) w.each)
      (bent-factors c.factors 0 rs (omega (arith, count)))

  ops : lines_of c rs ≡ published_ops row (operations c) (published_factors (always_bent c) 0 rs)
  unfolding lines_of
  ops =
      published-ops (operations c) (factor_lines (always_bent c) 0 rs) (rw first.count w.each) first.each
      ∙ ap (published_ops row_of (operations c)) (published-factors (always_bent c) 0 rs)
      ∙ by-year c.year

  finish : finished c.factors (lines_of c rs) ≡ published_result c.factors (published_ops row (operations c) (published_factors (always_bent c) 0 rs))
  unfolding lines_of
  finish = go (lines_of c rs) refl ∙ ap (published_result c.factors) ops
    where
      go : (x : Lines) → lines_of c rs ≡ x → finished c.factors x ≡ published_result c.factors x
      go (through ls) e =
          ap rated (published-limits c.factors (last ls) (last_within (run-within (operations c) first e).each))
      go (stopped r) e = refl

rating : (c : Codelist) (xs : List ℤ) → rate_of c xs ≡ published_of c xs
unfolding rate_of published_of rate_ranges published_ranges
rating c xs = go (ratable c) refl (eqb (length xs) (2 * c.factors)) refl _ _
  where
    ranges : Ratable c → length xs ≡ 2 * c.factors → (a : ℕ) → Found 1 (pairs xs) a
        → rate_ranges c (pairs xs) a ≡ published_ranges c (pairs xs) a
    ranges w m zero (no-bad e g) = finish c (pairs xs) w (pairs-length xs c.factors m) g
    ranges w m zero (bad-at i e l b g) = absurd (omega arith)
    ranges w m (suc a) f = refl

    go : (b : Bool) → ratable c ≡ b → (d : Bool) → eqb (length xs) (2 * c.factors) ≡ d → (x y : Rating)
        → cond b (cond d (rate_ranges c (pairs xs) (first_bad 1 (pairs xs))) x) y
        ≡ cond b (cond d (published_ranges c (pairs xs) (first_bad 1 (pairs xs))) x) y
    go false p d q x y = refl
    go true p false q x y = refl
    go true p true q x y =
        ranges ((decides c).0 p) (eqb-true (length xs) (2 * c.factors) q) (first_bad 1 (pairs xs)) (found 1 (pairs xs))

-- ---- line by line
-- lines ms that begin with n lines fs, and what comes behind these
module _ (fs new : List Line) {ms : List Line} (e : ms ≡ fs ++ new) {n : ℕ} (count : length fs ≡ n) where
  line-in-front : (a : ℕ) → a < n → line ms (suc a) ≡ get_or fs a no_line
  line-in-front a i = let z : suc a - 1 ≡ a = omega arith in rw (e, z) (get_or-append fs new no_line a (omega (arith, count)))

  line-behind : (k : ℕ) → line ms (suc (n + k)) ≡ get_or new k no_line
  line-behind k = let z : suc (n + k) - 1 ≡ n + k = omega arith in rw (e, z, ← count) (go fs)
    where
      go : (ls : List Line) → get_or (ls ++ new) (length ls + k) no_line ≡ get_or new k no_line
      go [] = rw (N.zero-add k)
      go (l ∷ ls) = let s : suc (length ls) + k ≡ suc (length ls + k) = omega arith in rw s (go ls)

  take_behind : (k : ℕ) → take (n + k) ms ≡ fs ++ take k new
  take_behind k = rw (e, ← count) (go fs)
    where
      go : (ls : List Line) → take (length ls + k) (ls ++ new) ≡ ls ++ take k new
      go [] = rw (N.zero-add k)
      go (l ∷ ls) =
          let s : suc (length ls) + k ≡ suc (length ls + k) = omega arith in
          rw s (ap (λ (ns : List Line). l ∷ ns) (go ls))

-- what a run that goes through adds
record Added (row : Op → List Line → Row) (os : List Entry) (ls ms : List Line) : Type 0 where
  new : List Line
  whole : ms ≡ ls ++ new
  count : length new ≡ length os
  each : (k : ℕ) → k < length os → get_or new k no_line ≡ published_line (row (get_or os k blank).op (ls ++ take k new))

through_not : {r : Refusal} {ms : List Line} → stopped r ≡ through ms → ⊥
through_not e = let z : ◌≡◌ {A = ℕ} 0 1 = cc in omega arith

added : (row : Op → List Line → Row) (os : List Entry) (ls ms : List Line) → published_ops row os ls ≡ through ms → Added row os ls ms
unfolding published_ops
added row [] ls ms e = let s : ls ≡ ms = cc in record {
  new = [];
  whole = sym s ∙ sym (append-nil ls);
  count = refl;
  each = λ k i. absurd (omega arith);
}
added row (o ∷ os) ls ms e = turn (added row os (ls ++ (next ∷ [])) ms) (inverts_zero o.op ls) (all_within (steps_of (row o.op ls))) _ _ e
  where
    next : Line
    next = published_line (row o.op ls)

    behind : Added row os (ls ++ (next ∷ [])) ms → Added row (o ∷ os) ls ms
    behind a = record {
      new = next ∷ a.new;
      whole = a.whole ∙ append_assoc ls (next ∷ []) a.new;
      count = ap suc a.count;
      each = each;
    }
      where
        each : (k : ℕ) → k < suc (length os) → get_or (next ∷ a.new) k no_line ≡ published_line (row (get_or (o ∷ os) k blank).op (ls ++ take k (next ∷ a.new)))
        each zero i = ap (λ (ns : List Line). published_line (row o.op ns)) (sym (append-nil ls))
        each (suc k) i =
            a.each k (omega arith)
            ∙ ap (λ (ns : List Line). published_line (row (get_or os k blank).op ns)) (append_assoc ls (next ∷ []) (take k a.new))

    turn : (published_ops row os (ls ++ (next ∷ [])) ≡ through ms → Added row os (ls ++ (next ∷ [])) ms) → (b d : Bool) (q r : Refusal)
        → cond b (stopped q) (cond d (published_ops row os (ls ++ (next ∷ []))) (stopped r)) ≡ through ms → Added row (o ∷ os) ls ms
    turn f true d q r e = absurd (through_not e)
    turn f false true q r e = behind (f e)
    turn f false false q r e = absurd (through_not e)

factor-at : (f i : ℕ) (rs : List Range) (a : ℕ) → a < length rs
    → get_or (published_factors f i rs) a no_line ≡ published_line (factor_row f (i + a) (at rs a))
unfolding published_factors
factor-at f i [] a l = absurd (omega arith)
factor-at f i (r ∷ rs) zero l = ap (λ (k : ℕ). published_line (factor_row f k r)) (sym (N.add-zero i))
factor-at f i (r ∷ rs) (suc a) l =
    let e : suc i + a ≡ i + suc a = omega arith in
    factor-at f (suc i) rs a (omega arith) ∙ ap (λ (k : ℕ). published_line (factor_row f k (at rs a))) e

-- the limits of accepted ranges are those of the last of such lines
module _ {c : Codelist} {xs : List ℤ} {l : Limits} (A : Accepted c xs l) where
  good : Good (length (pairs xs)) (pairs xs)
  good = all-good 0 (pairs xs) A.good

  abbrev firsts : List Line
  firsts = published_factors (always_bent c) 0 (pairs xs)

  firsts-count : length firsts ≡ c.factors
  firsts-count = factors-count (always_bent c) 0 (pairs xs) ∙ A.count

  rest : Added (published_row c.year c.factors) (operations c) firsts A.lines
  unfolding lines_of
  rest = added _ (operations c) firsts A.lines (sym (ops c (pairs xs) A.codelist A.count good) ∙ A.ran)

  operations-count : length (operations c) ≡ c.count
  operations-count = length-take c.count c.ops ∙ omega (arith, A.codelist.array, A.codelist.few)

  lines-within : AllLines (λ l. within l ≡ true) A.lines
  unfolding lines_of
  lines-within = (run-within (operations c) (first c (pairs xs) A.codelist A.count good) A.ran).each

  published-lines : PublishedLines c xs l
  published-lines = record {
    lines = A.lines;
    count = ap length rest.whole ∙ length-append firsts rest.new ∙ omega (arith, firsts-count, rest.count, operations-count);
    factor = λ a k.
        line-in-front firsts rest.new rest.whole firsts-count a k
        ∙ factor-at (always_bent c) 0 (pairs xs) a (omega (arith, A.count))
        ∙ ap (λ (i : ℕ). published_line (factor_row (always_bent c) i (at (pairs xs) a))) (N.zero-add a);
    operation = λ k i.
        line-behind firsts rest.new rest.whole firsts-count k
        ∙ rest.each k (omega (arith, operations-count))
        ∙ ap (λ (ns : List Line). published_line (published_row c.year c.factors (get_or (operations c) k blank).op ns)) (sym (take_behind firsts rest.new rest.whole firsts-count k));
    result = A.limits ∙ published-limits c.factors (last A.lines) (last_within lines-within);
  }

-- EVERY BOUND, SET AND REFUSAL IS THAT OF THE PUBLISHED ARITHMETIC
pub published : Published
published = record { rating = rating; lines = λ c xs l e. published-lines (accepted c xs l e) }
