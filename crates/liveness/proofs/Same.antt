-- Rating and the exact premium are the same on the tidied codelist: `same-rating`, `same-premium`, both by `simulated`. Assumes nothing.
use Prim.Native.Nat.{ℕ, zero, suc, ◌*◌, ◌-◌}
use mathlib.Core.Bool.{Bool, true, false, cond}
use mathlib.Core.List.{List, [], ◌∷◌, ◌++◌}
use mathlib.Core.Option.{Option, some}
use mathlib.Core.Path.{◌≡◌, refl, sym, ap, ap₂, subst, ◌∙◌}
use native.Mathlib.Omega.{arith}
use lib.Dec.{eqb}
use lib.IntN.{ℤ}
use lib.ListN.{length, get_or, length-append}
use borrow.Author.Tests.{eqb-true}
use Rattle.codelist.specs.declared.Codelist.{Codelist}
use Rattle.codelist.specs.declared.Entry.{Entry}
use Rattle.codelist.specs.declared.Op.{Op}
use Rattle.codelist.specs.declared.Op.TheVariants.{Add, Mul, AddC, MulC, Pow, Inv}
use Rattle.codelist.specs.Codelist.{WellFormed}
use Rattle.codelist.specs.Load.{codelist_of}
use Rattle.codelist.proofs.Ratable.{decides, well-formed-ratable}
use Rattle.range.specs.declared.Range.{Range}
use Rattle.range.specs.Arithmetic.{holds_zero}
use Rattle.rules.specs.declared.Line.{Line}
use Rattle.rules.specs.declared.Limits.{Limits}
use Rattle.rules.specs.InFull.{Rating}
use Rattle.rules.specs.declared.Refusal.{Refusal}
use Rattle.rules.specs.declared.Refusal.TheVariants.{RangeCount, BadRange, Divisor, Overflow}
use Rattle.rules.specs.Table.{Row, add_row, addc_row, mulc_row, mul_row, pow_row, inv_row, line_of}
use Rattle.rules.specs.Run as Run
use Rattle.rules.specs.Run.{no_line, row_of, inverts_zero, within, Lines, run_ops, factor_lines, always_bent, operations, lines_of}
use Rattle.rules.specs.Rate.{limits_of, rated, refused, pairs, finished, first_bad, rate_ranges, rate_of}
use Rattle.rules.specs.Rate as Rate
use Rattle.rules.specs.Exact.{Point, Jet, no_jet, exact_next, factor_jets, exact_ops, exact_lines, last_jet, premium_of}
use Rattle.rules.specs.Exact.{using1, using2, add_jet, mul_jet, addc_jet, mulc_jet, pow_jet, invert}
use Rattle.exact.specs.Rat.{recip}
use Rattle.rules.proofs.Accepted.{pairs-length, not-rated, factors-length}
use Rattle.liveness.specs.Used.{lines}
use Rattle.liveness.specs.Tidied.{kept, picked, position, renumbered, tidied}
use Rattle.liveness.specs.Promises.{AtUsed, refusal_at}
use Rattle.liveness.proofs.References.{Named, to_named}
use Rattle.liveness.proofs.Positions.{picked_all}
use Rattle.liveness.proofs.Used.{kept-factor, kept-used, counted, closed, computed}
use Rattle.liveness.proofs.Simulation.{Step, goes, halts, Ran, through, stopped, ran_tidied, Fair, on_step, line_kept, run, run_length, Local, simulated}
use Rattle.liveness.proofs.Tidied.{tidied-operations, tidied-factors, last-kept, tidied-fine}

-- ════ the run of a codelist from its factors' lines ════

data Ends {A : Type 0} : List A → Type 0 where
  ends : (xs : List A) (x : A) → Ends (xs ++ (x ∷ []))

end_of : {A : Type 0} (x : A) (xs : List A) → Ends (x ∷ xs)
end_of x [] = ends [] x
end_of x (y ∷ xs) = go (end_of y xs)
  where
    go : {A : Type 0} {x : A} {ys : List A} → Ends ys → Ends (x ∷ ys)
    go {x = x} (ends ys y) = ends (x ∷ ys) y

module _ (c : Codelist) (w : WellFormed c) {A : Type 0} where
  -- the last line is kept
  kept-last : (last : List A → A) → ((xs : List A) (x : A) → last (xs ++ (x ∷ [])) ≡ x) → (xs : List A) → length xs ≡ lines c
      → last (picked (kept c) 0 xs) ≡ last xs
  kept-last last law [] n = absurd (omega (arith, w.some))
  kept-last last law (x ∷ xs) n = go (end_of x xs) n
    where
      go : {ys : List A} → Ends ys → length ys ≡ lines c → last (picked (kept c) 0 ys) ≡ last ys
      go (ends ys y) n =
          let a : suc (length ys) ≡ lines c = omega (arith, length-append ys (y ∷ [])) in
          ap last (line_kept (kept c) (length ys) ys y refl (rw a (last-kept c w))) ∙ law (picked (kept c) 0 ys) y ∙ sym (law ys y)

  module _ {R : Type 0} (missing : A) (step : Op → List A → Step A R) (local : Local missing step) (ls : List A) (n : length ls ≡ c.factors) where
    tidied-run : Fair (kept c) (run missing step (operations c) ls)
        → run missing step (operations (tidied c)) ls ≡ ran_tidied (kept c) (run missing step (operations c) ls)
    tidied-run fair =
        let same = picked_all (kept c) 0 ls (λ j p q. kept-factor c j (omega arith)) in
        ap₂ (run missing step) (tidied-operations c) (sym same)
        ∙ simulated missing step local (kept c) c.factors (operations c) ls n (closed c w) fair

    ran-length : (ms : List A) → run missing step (operations c) ls ≡ through ms → length ms ≡ lines c
    ran-length ms h = omega (arith, run_length missing step (operations c) ls ms h, counted c w)

-- ════ the exact side ════

exact_same : (f : ℕ → ℕ) (o : Op) (ls ms : List (Option Jet)) → Named (λ i. get_or ms (f i - 1) (some no_jet) ≡ get_or ls (i - 1) (some no_jet)) o
    → exact_next (renumbered f o) ms ≡ exact_next o ls
unfolding exact_next
exact_same f (Add i j) ls ms n = ap₂ (using2 add_jet) n.0 n.1
exact_same f (Mul i j) ls ms n = ap₂ (using2 mul_jet) n.0 n.1
exact_same f (AddC i c) ls ms n = ap (using1 (λ x. some (addc_jet x c))) n
exact_same f (MulC i c) ls ms n = ap (using1 (λ x. some (mulc_jet x c))) n
exact_same f (Pow i m) ls ms n = ap (using1 (λ x. some (pow_jet x m))) n
exact_same f (Inv i) ls ms n = ap (using1 (λ x. invert x (recip x.value))) n

abbrev jet_step : Op → List (Option Jet) → Step (Option Jet) ⊥
jet_step o js = goes (exact_next o js)

jet-local : Local (some no_jet) jet_step
jet-local f o ls ms h = ap goes (exact_same f o ls ms (to_named _ o h))

exact-run : (os : List Entry) (js : List (Option Jet)) → run (some no_jet) jet_step os js ≡ through (exact_ops os js)
unfolding run exact_ops
exact-run [] js = refl
exact-run (o ∷ os) js = exact-run os (js ++ (exact_next o.op js ∷ []))

jets-length : (p : Point) (i n : ℕ) → length (factor_jets p i n) ≡ n
unfolding factor_jets
jets-length p i zero = refl
jets-length p i (suc n) = ap suc (jets-length p (suc i) n)

last-jet : (os : List (Option Jet)) (o : Option Jet) → last_jet (os ++ (o ∷ [])) ≡ o
unfolding last_jet
last-jet [] o = refl
last-jet (x ∷ []) o = refl
last-jet (x ∷ y ∷ os) o = last-jet (y ∷ os) o

-- THE SAME PREMIUM
pub same-premium : (c : Codelist) → WellFormed c → (p : Point) → premium_of (tidied c) p ≡ premium_of c p
unfolding premium_of exact_lines
same-premium c w p =
    let js = factor_jets p 0 c.factors in
    let n = jets-length p 0 c.factors in
    let old = exact-run (operations c) js in
    let ran = tidied-run c w (some no_jet) jet_step jet-local js n (rw old tt) in
    let all : exact_ops (operations (tidied c)) js ≡ picked (kept c) 0 (exact_ops (operations c) js) = cc (
      exact-run (operations (tidied c)) js,
      rw old at ran,
    ) in
    rw (tidied-factors c)
    (ap last_jet all
    ∙ kept-last c w last_jet last-jet (exact_ops (operations c) js) (ran-length c w (some no_jet) jet_step jet-local js n _ old))

-- ════ rating ════

row_same : (f : ℕ → ℕ) (o : Op) (ls ms : List Line) → Named (λ i. get_or ms (f i - 1) no_line ≡ get_or ls (i - 1) no_line) o
    → row_of (renumbered f o) ms ≡ row_of o ls
unfolding row_of
row_same f (Add i j) ls ms n = ap₂ add_row n.0 n.1
row_same f (Mul i j) ls ms n = ap₂ mul_row n.0 n.1
row_same f (AddC i c) ls ms n = ap (λ (l : Line). addc_row l c) n
row_same f (MulC i c) ls ms n = ap (λ (l : Line). mulc_row l c) n
row_same f (Pow i m) ls ms n = ap (λ (l : Line). pow_row l m) n
row_same f (Inv i) ls ms n = ap inv_row n

inverts-same : (f : ℕ → ℕ) (o : Op) (ls ms : List Line) → Named (λ i. get_or ms (f i - 1) no_line ≡ get_or ls (i - 1) no_line) o
    → inverts_zero (renumbered f o) ms ≡ inverts_zero o ls
unfolding inverts_zero
inverts-same f (Inv i) ls ms n = ap (λ (l : Line). holds_zero l.value) n
inverts-same f (Add i j) ls ms n = refl
inverts-same f (Mul i j) ls ms n = refl
inverts-same f (AddC i c) ls ms n = refl
inverts-same f (MulC i c) ls ms n = refl
inverts-same f (Pow i m) ls ms n = refl

-- 11 before 12
data Kind : Type 0 where
  divides : Kind
  passes : Kind

abbrev refusal_of : Kind → ℕ → Refusal
refusal_of divides k = Divisor k
refusal_of passes k = Overflow k

abbrev decided : Bool → Line → Step Line Kind
decided d l = cond d (halts divides) (cond (within l) (goes l) (halts passes))

abbrev row_step : Op → List Line → Step Line Kind
row_step o ls = decided (inverts_zero o ls) (line_of (row_of o ls))

row-local : Local no_line row_step
row-local f o ls ms h =
    let n = to_named _ o h in
    ap₂ (λ (d : Bool) (r : Row). decided d (line_of r)) (inverts-same f o ls ms n) (row_same f o ls ms n)

abbrev lines_of_ran : Ran Line Kind → Lines
lines_of_ran (through ls) = Run.through ls
lines_of_ran (stopped r j) = Run.stopped (refusal_of r j)

lines-run : (os : List Entry) (ls : List Line) → run_ops os ls ≡ lines_of_ran (run no_line row_step os ls)
unfolding run run_ops
lines-run [] ls = refl
lines-run (o ∷ os) ls = go (inverts_zero o.op ls) (within l) (lines-run os (ls ++ (l ∷ [])))
  where
    l : Line
    l = line_of (row_of o.op ls)

    k : ℕ
    k = suc (length ls)

    next : Ran Line Kind
    next = run no_line row_step os (ls ++ (l ∷ []))

    go : (b d : Bool) → run_ops os (ls ++ (l ∷ [])) ≡ lines_of_ran next
        → cond b (Run.stopped (Divisor k)) (cond d (run_ops os (ls ++ (l ∷ []))) (Run.stopped (Overflow k)))
        ≡ lines_of_ran (on_step (cond b (halts divides) (cond d (goes l) (halts passes))) (λ m. run no_line row_step os (ls ++ (m ∷ []))) k)
    go true d ih = refl
    go false true ih = ih
    go false false ih = refl

last_line : (ls : List Line) (l : Line) → Rate.last (ls ++ (l ∷ [])) ≡ l
unfolding Rate.last
last_line [] l = refl
last_line (x ∷ []) l = refl
last_line (x ∷ y ∷ ls) l = last_line (y ∷ ls) l

module _ (c : Codelist) (w : WellFormed c) where
  -- b is what a becomes
  pub record Same (a b : Rating) : Type 0 where
    pub result : (l : Limits) → a ≡ rated l → b ≡ rated l
    pub refusal : (r : Refusal) → AtUsed c r → a ≡ refused r → b ≡ refused (refusal_at (position (kept c)) r)

  one-refusal : {q r : Refusal} → refused q ≡ refused r → q ≡ r
  one-refusal h = let o = ap (λ (a : Rating). a.outcome) h in cc

  refused-same : (q : Refusal) (b : Rating) → (AtUsed c q → b ≡ refused (refusal_at (position (kept c)) q)) → Same (refused q) b
  refused-same q b h = record {
    result = λ l e. absurd (not-rated e);
    refusal = λ r u e.
        h (subst (AtUsed c) (sym (one-refusal e)) u) ∙ ap (λ (x : Refusal). refused (refusal_at (position (kept c)) x)) (one-refusal e);
  }

  rated-same : (l : Limits) → Same (rated l) (rated l)
  rated-same l = record { result = λ m e. e; refusal = λ r u e. absurd (not-rated (sym e)) }

  used-line : (r : Kind) (j : ℕ) → AtUsed c (refusal_of r j) → kept c j ≡ true
  used-line divides j u = kept-used c j ((computed c w j).1 u)
  used-line passes j u = kept-used c j ((computed c w j).1 u)

  at-line : (r : Kind) (j : ℕ) → refusal_of r (position (kept c) j) ≡ refusal_at (position (kept c)) (refusal_of r j)
  at-line divides j = refl
  at-line passes j = refl

  moved_same : {a b d e : Rating} → a ≡ d → b ≡ e → Same d e → Same a b
  moved_same {b = b} {d = d} p q h = subst (λ (x : Rating). Same x b) (sym p) (subst (Same d) (sym q) h)

  -- the lines are run
  run-same : (rs : List Range) → length rs ≡ c.factors → Same (finished c.factors (lines_of c rs)) (finished c.factors (lines_of (tidied c) rs))
  unfolding lines_of tidied codelist_of
  run-same rs n = go (run no_line row_step (operations c) ls) refl
    where
      ls : List Line
      ls = factor_lines (always_bent c) 0 rs

      count : length ls ≡ c.factors
      count = factors-length (always_bent c) 0 rs ∙ n

      ended : (d : Codelist) {x : Ran Line Kind} → run no_line row_step (operations d) ls ≡ x
          → finished c.factors (run_ops (operations d) ls) ≡ finished c.factors (lines_of_ran x)
      ended d h = ap (finished c.factors) (lines-run (operations d) ls ∙ ap lines_of_ran h)

      tidied-ran : (x : Ran Line Kind) → run no_line row_step (operations c) ls ≡ x → Fair (kept c) x
          → run no_line row_step (operations (tidied c)) ls ≡ ran_tidied (kept c) x
      tidied-ran x h fair = tidied-run c w no_line row_step row-local ls count (rw h fair) ∙ ap (ran_tidied (kept c)) h

      go : (x : Ran Line Kind) → run no_line row_step (operations c) ls ≡ x
          → Same (finished c.factors (run_ops (operations c) ls)) (finished c.factors (run_ops (operations (tidied c)) ls))
      go (through ms) h =
          let last = kept-last c w Rate.last last_line ms (ran-length c w no_line row_step row-local ls count ms h) in
          moved_same (ended c h) (ended (tidied c) (tidied-ran (through ms) h tt) ∙ ap (λ (l : Line). rated (limits_of c.factors l)) last)
          (rated-same (limits_of c.factors (Rate.last ms)))
      go (stopped r j) h =
          moved_same (ended c h) refl
          (refused-same (refusal_of r j) _
          (λ u. ended (tidied c) (tidied-ran (stopped r j) h (used-line r j u)) ∙ ap refused (at-line r j)))

  -- 9 comes before
  ranges-same : (rs : List Range) (z : ℕ) → length rs ≡ c.factors → Same (rate_ranges c rs z) (rate_ranges (tidied c) rs z)
  unfolding rate_ranges
  ranges-same rs zero n = moved_same refl (ap (λ (m : ℕ). finished m (lines_of (tidied c) rs)) (tidied-factors c)) (run-same rs n)
  ranges-same rs (suc a) n = refused-same (BadRange (suc a)) _ (λ u. refl)

  rating : (d : Codelist) → WellFormed d → d.factors ≡ c.factors → (xs : List ℤ) → rate_of d xs
      ≡ cond (eqb (length xs) (2 * c.factors)) (rate_ranges d (pairs xs) (first_bad 1 (pairs xs))) (refused RangeCount)
  unfolding rate_of
  rating d v e xs = rw ((decides d).1 (well-formed-ratable v), e)

  -- THE SAME RATING, and 8 comes before
  pub same-rating : (xs : List ℤ) → Same (rate_of c xs) (rate_of (tidied c) xs)
  same-rating xs =
      moved_same (rating c w refl xs) (rating (tidied c) (tidied-fine c w) (tidied-factors c) xs) (go (eqb (length xs) (2 * c.factors)) refl)
    where
      rs : List Range
      rs = pairs xs

      go : (b : Bool) → eqb (length xs) (2 * c.factors) ≡ b
          → Same (cond b (rate_ranges c rs (first_bad 1 rs)) (refused RangeCount)) (cond b (rate_ranges (tidied c) rs (first_bad 1 rs)) (refused RangeCount))
      go true e = ranges-same rs (first_bad 1 rs) (pairs-length xs c.factors (eqb-true (length xs) (2 * c.factors) e))
      go false e = refused-same RangeCount _ (λ u. refl)
