-- What it says that a rating is accepted, and the induction over its lines. Assumes nothing.
use mathlib.Core.Path.{◌≡◌, refl, sym, ap, ◌∙◌}
use mathlib.Core.Bool.{Bool, true, false, cond}
use mathlib.Core.List.{List, [], ◌∷◌, ◌++◌}
use mathlib.Core.Option.{Option, some}
use Prim.Native.Nat.{ℕ, zero, suc, ◌*◌, ◌≤◌, ◌<◌}
use native.Mathlib.Nat as N
use native.Mathlib.Omega.{arith}
use lib.Dec.{eqb}
use lib.IntN.{ℤ}
use lib.ListN.{length, length-append}
use borrow.Author.Tests.{eqb-true}
use Rattle.codelist.specs.declared.Entry.{Entry}
use Rattle.codelist.specs.declared.Codelist.{Codelist}
use Rattle.codelist.specs.Codelist.{Ratable, ratable}
use Rattle.codelist.proofs.Ratable.{decides}
use Rattle.range.specs.declared.Range.{Range}
use Rattle.range.specs.Sums.{at}
use Rattle.rules.specs.declared.Line.{Line}
use Rattle.rules.specs.declared.Refusal.{Refusal}
use Rattle.rules.specs.declared.Refusal.TheVariants.{NoCodelist, RangeCount}
use Rattle.rules.specs.declared.Limits.{Limits}
use Rattle.rules.specs.InFull.{Rating}
use Rattle.rules.specs.Table.{factor_row, line_of}
use Rattle.rules.specs.Run.{row_of, Lines, through, stopped, run_ops, factor_lines, always_bent, lines_of, operations}
use Rattle.rules.specs.Rate.{last, limits_of, rated, refused, pairs, finished, first_bad, rate_ranges, rate_of}
use Rattle.rules.specs.Exact.{Point, Jet, factor_jet, exact_lines, premium_of}
use Rattle.rules.proofs.Along.{at_turn, Along, along-last, along-run, along-factors, Kept}

-- the codelist is ratable, there is a good range per factor, and the limits are those of the last line of a run that went through
pub record Accepted (c : Codelist) (xs : List ℤ) (l : Limits) : Type 0 where
  pub codelist : Ratable c
  pub numbers : length xs ≡ 2 * c.factors
  pub count : length (pairs xs) ≡ c.factors
  pub good : first_bad 1 (pairs xs) ≡ 0
  pub lines : List Line
  pub ran : lines_of c (pairs xs) ≡ through lines
  pub limits : l ≡ limits_of c.factors (last lines)

pub pairs-length : (xs : List ℤ) (n : ℕ) → length xs ≡ 2 * n → length (pairs xs) ≡ n
pairs-length [] n e = omega arith
pairs-length (l ∷ []) n e = absurd (omega arith)
pairs-length (l ∷ h ∷ xs) zero e = absurd (omega arith)
pairs-length (l ∷ h ∷ xs) (suc n) e = ap suc (pairs-length xs n (omega arith))

-- ---- which answers are limits
pub not-rated : {r : Refusal} {l : Limits} → refused r ≡ rated l → ⊥
not-rated e = let o = ap (λ (a : Rating). a.outcome) e in let z : ◌≡◌ {A = ℕ} 0 1 = cc in omega arith

passed : (r : Refusal) {l : Limits} (b : Bool) {a : Rating} → cond b a (refused r) ≡ rated l → (b ≡ true) × (a ≡ rated l)
passed r true e = (refl, e)
passed r false e = absurd (not-rated e)

ranged : (c : Codelist) (rs : List Range) (z : ℕ) {l : Limits} → rate_ranges c rs z ≡ rated l
    → (z ≡ 0) × (finished c.factors (lines_of c rs) ≡ rated l)
unfolding rate_ranges
ranged c rs zero e = (refl, e)
ranged c rs (suc a) e = absurd (not-rated e)

pub through-to : (n : ℕ) (u : Lines) {l : Limits} → finished n u ≡ rated l → (ms : List Line) × ((u ≡ through ms) × (l ≡ limits_of n (last ms)))
through-to n (through ms) e = (ms, (refl, sym (ap (λ (a : Rating). a.limits) e)))
through-to n (stopped r) e = absurd (not-rated e)

pub accepted : (c : Codelist) (xs : List ℤ) (l : Limits) → rate_of c xs ≡ rated l → Accepted c xs l
unfolding rate_of
accepted c xs l e =
    let w = passed NoCodelist (ratable c) e in
    let n = passed RangeCount (eqb (length xs) (2 * c.factors)) w.1 in
    let g = ranged c (pairs xs) (first_bad 1 (pairs xs)) n.1 in
    let t = through-to c.factors (lines_of c (pairs xs)) g.1 in
    let k = eqb-true (length xs) (2 * c.factors) n.0 in
    record {
      codelist = (decides c).0 w.0;
      numbers = k;
      count = pairs-length xs c.factors k;
      good = g.0;
      lines = t.0;
      ran = t.1.0;
      limits = t.1.1;
    }

-- ════ every line ════

run-grows : (ops : List Entry) (ls ms : List Line) → run_ops ops ls ≡ through ms → length ls ≤ length ms
unfolding run_ops
run-grows [] ls ms e = let same : ls ≡ ms = cc in omega (arith, ap length same)
run-grows (o ∷ ops) ls ms e =
    let next = line_of (row_of o.op ls) in
    omega (arith, run-grows ops (ls ++ (next ∷ [])) ms (at_turn o ops ls ms e).1, length-append ls (next ∷ []))

pub factors-length : (f i : ℕ) (rs : List Range) → length (factor_lines f i rs) ≡ length rs
unfolding factor_lines
factors-length f i [] = refl
factors-length f i (r ∷ rs) = ap suc (factors-length f (suc i) rs)

-- what holds of the factors' lines, and is kept: of every line of a run that goes through, and of an accepted rating's
module _ (R : (Point → Option Jet) → Line → Type 0) (K : Kept R) {c : Codelist} where
  pub run-lines : (rs : List Range) {ls : List Line} → Ratable c → length rs ≡ c.factors → lines_of c rs ≡ through ls
      → ((a : ℕ) → a < c.factors → R (λ p. some (factor_jet p a)) (line_of (factor_row (always_bent c) a (at rs a))))
      → Along R (exact_lines c) ls
  unfolding exact_lines lines_of
  run-lines rs {ls} w n e h =
      let first = factor_lines (always_bent c) 0 rs in
      let count : length first ≡ c.factors = factors-length (always_bent c) 0 rs ∙ n in
      along-run R K (operations c) first ls
      (rw count w.each)
      (rw n at (along-factors R (always_bent c) 0 rs (λ a k. rw (N.zero-add a) (h a (omega (arith, n))))))
      e

  module _ {xs : List ℤ} {l : Limits} (A : Accepted c xs l)
      (h : (a : ℕ) → a < c.factors → R (λ p. some (factor_jet p a)) (line_of (factor_row (always_bent c) a (at (pairs xs) a)))) where
    pub every-line : Along R (exact_lines c) A.lines
    every-line = run-lines (pairs xs) A.codelist A.count A.ran h

    pub last_line : R (premium_of c) (last A.lines)
    unfolding premium_of lines_of
    last_line =
        let grown = run-grows (operations c) (factor_lines (always_bent c) 0 (pairs xs)) A.lines A.ran in
        along-last R (omega (arith, factors-length (always_bent c) 0 (pairs xs), A.count, A.codelist.factors.0)) every-line
