-- Where a run over the lines stops, and for what: `run-refused-iff`. Assumes nothing.
use mathlib.Core.Path.{◌≡◌, refl, sym, ap, ◌∙◌, subst}
use mathlib.Core.Bool.{Bool, true, false, cond, false≢true}
use mathlib.Core.List.{List, [], ◌∷◌, ◌++◌}
use mathlib.Core.Logic.{◌↔◌}
use Prim.Native.Nat.{ℕ, suc, ◌+◌, ◌≤◌}
use native.Mathlib.Nat.{add-zero}
use native.Mathlib.Omega.{arith}
use lib.IntN.{pos}
use lib.ListN.{length, length-append}
use lib.Signed.{le_z, le_z_yes}
use Rattle.codelist.specs.declared.Op.{Op}
use Rattle.codelist.specs.declared.Op.TheVariants.{Add, Mul, AddC, MulC, Pow, Inv}
use Rattle.codelist.specs.declared.Entry.{Entry}
use Rattle.codelist.specs.Codelist.{WellFormedOp, WellFormedOps}
use Rattle.range.proofs.Valid.{T_true, true-T, and_left, and_right, and_both}
use Rattle.rules.specs.declared.Line.{Line}
use Rattle.rules.specs.declared.Refusal.{Refusal}
use Rattle.rules.specs.declared.Refusal.TheVariants.{NoCodelist, RangeCount, BadRange, Divisor, Overflow}
use Rattle.rules.specs.Table.{line_of}
use Rattle.rules.specs.Run.{line, row_of, inverts_zero, within, Lines, through, stopped, run_ops}
use Rattle.rules.specs.Rate.{number_of}
use Rattle.rules.specs.Overflow.{Passing, steps_of, AllLines, none, more}
use Rattle.rules.specs.Refused.{StoppedAt, HoldsDivisor, Inverts, Passes}
use Rattle.rules.proofs.Overflow.{passes-iff}
use Rattle.rules.proofs.Passing.{refuted-iff}

-- the line of an operation
abbrev next : Op → List Line → Line
next o ls = line_of (row_of o ls)

-- 11 by its test
pub inverts-iff : (o : Op) (ls : List Line) → (inverts_zero o ls ≡ true) ↔ HoldsDivisor o ls
unfolding inverts_zero
inverts-iff o ls = (holds o, λ h. rw h.inverts (T_true (and_both (low h.operand) (high h.operand) h.low.le h.high.le)))
  where
    low : ℕ → Bool
    low i = le_z (line ls i).value.low (pos 0)

    high : ℕ → Bool
    high i = le_z (pos 0) (line ls i).value.high

    holds : (o : Op) → inverts_zero o ls ≡ true → HoldsDivisor o ls
    holds (Inv i) e =
        let t = true-T e in
        record {
          operand = i;
          inverts = refl;
          low = le_z_yes (and_left (low i) (high i) t);
          high = le_z_yes (and_right (low i) (high i) t);
        }
    holds (Add i j) e = absurd (false≢true e)
    holds (Mul i j) e = absurd (false≢true e)
    holds (AddC i c) e = absurd (false≢true e)
    holds (MulC i c) e = absurd (false≢true e)
    holds (Pow i m) e = absurd (false≢true e)

pub no-divisor-iff : (o : Op) (ls : List Line) → (inverts_zero o ls ≡ false) ↔ (¬ (HoldsDivisor o ls))
no-divisor-iff o ls = refuted-iff true (inverts-iff o ls)

-- 12 by its tests
record Exceeds (k : ℕ) (o : Op) (ls : List Line) : Type 0 where
  place : k ≡ suc (length ls)
  divisor : inverts_zero o ls ≡ false
  exceeds : within (next o ls) ≡ false

-- ---- a run in two parts
abbrev and_then : Lines → (List Line → Lines) → Lines
and_then (through ls) f = f ls
and_then (stopped r) f = stopped r

run-cons : (o : Entry) (os : List Entry) (ls : List Line) → run_ops (o ∷ os) ls ≡ and_then (run_ops (o ∷ []) ls) (run_ops os)
unfolding run_ops
run-cons o os ls = go (inverts_zero o.op ls) (within (next o.op ls)) _ _ _
  where
    go : (b c : Bool) (x y : Refusal) (ms : List Line)
        → cond b (stopped x) (cond c (run_ops os ms) (stopped y)) ≡ and_then (cond b (stopped x) (cond c (through ms) (stopped y))) (run_ops os)
    go true c x y ms = refl
    go false true x y ms = refl
    go false false x y ms = refl

run-append : (os ps : List Entry) (ls : List Line) → run_ops (os ++ ps) ls ≡ and_then (run_ops os ls) (run_ops ps)
unfolding run_ops
run-append [] ps ls = refl
run-append (o ∷ os) ps ls =
    run-cons o (os ++ ps) ls
    ∙ go (run_ops (o ∷ []) ls) (run-append os ps)
    ∙ sym (ap (λ (x : Lines). and_then x (run_ops ps)) (run-cons o os ls))
  where
    go : (x : Lines) → ((ms : List Line) → run_ops (os ++ ps) ms ≡ and_then (run_ops os ms) (run_ops ps))
        → and_then x (run_ops (os ++ ps)) ≡ and_then (and_then x (run_ops os)) (run_ops ps)
    go (through ms) f = f ms
    go (stopped r) f = refl

-- ---- where it stops
abbrev Refuses : Refusal → Op → List Line → Type 0
Refuses r o ls = run_ops (record { op = o } ∷ []) ls ≡ stopped r

through-stopped : {ls : List Line} {r : Refusal} → through ls ≡ stopped r → ⊥
through-stopped h = let z : ◌≡◌ {A = ℕ} 0 1 = cc in omega arith

stopped-at : {r : Refusal} (os : List Entry) (ls : List Line) → run_ops os ls ≡ stopped r → StoppedAt (Refuses r) os ls
unfolding run_ops
stopped-at [] ls h = absurd (through-stopped h)
stopped-at {r} (o ∷ os) ls h = go (run_ops (o ∷ []) ls) (stopped-at os) refl (sym (run-cons o os ls) ∙ h)
  where
    go : (x : Lines) → ((ms : List Line) → run_ops os ms ≡ stopped r → StoppedAt (Refuses r) os ms)
        → run_ops (o ∷ []) ls ≡ x → and_then x (run_ops os) ≡ stopped r → StoppedAt (Refuses r) (o ∷ os) ls
    go (through ms) f e h =
        let i = f ms h in
        record {
          before = o ∷ i.before;
          entry = i.entry;
          after = i.after;
          lines = i.lines;
          split = ap (λ (ps : List Entry). o ∷ ps) i.split;
          runs = run-cons o i.before ls ∙ ap (λ (x : Lines). and_then x (run_ops i.before)) e ∙ i.runs;
          stops = i.stops;
        }
    go (stopped s) f e h = record { before = []; entry = o; after = os; lines = ls; split = refl; runs = refl; stops = e ∙ h }

at-stopped : {r : Refusal} (os : List Entry) (ls : List Line) → StoppedAt (Refuses r) os ls → run_ops os ls ≡ stopped r
at-stopped os ls i =
    ap (λ (ps : List Entry). run_ops ps ls) i.split
    ∙ run-append i.before (i.entry ∷ i.after) ls
    ∙ ap (λ (x : Lines). and_then x (run_ops (i.entry ∷ i.after))) i.runs
    ∙ run-cons i.entry i.after i.lines
    ∙ ap (λ (x : Lines). and_then x (run_ops i.after)) i.stops

-- ---- one operation
data Step (o : Entry) (ls : List Line) : Lines → Type 0 where
  divides : inverts_zero o.op ls ≡ true → Step o ls (stopped (Divisor (suc (length ls))))
  passes : inverts_zero o.op ls ≡ false → within (next o.op ls) ≡ false → Step o ls (stopped (Overflow (suc (length ls))))
  goes : inverts_zero o.op ls ≡ false → within (next o.op ls) ≡ true → Step o ls (through (ls ++ (next o.op ls ∷ [])))

step : (o : Entry) (ls : List Line) → Step o ls (run_ops (o ∷ []) ls)
unfolding run_ops
step o ls = go (inverts_zero o.op ls) (within (next o.op ls)) refl refl
  where
    go : (b c : Bool) → inverts_zero o.op ls ≡ b → within (next o.op ls) ≡ c
        → let k = suc (length ls) in
        let ms = ls ++ (next o.op ls ∷ []) in
        Step o ls (cond b (stopped (Divisor k)) (cond c (through ms) (stopped (Overflow k))))
    go true c d w = divides d
    go false true d w = goes d w
    go false false d w = passes d w

-- it is 11 or 12
late : {o : Entry} {ls : List Line} {x : Lines} {r : Refusal} → Step o ls x → x ≡ stopped r → 11 ≤ number_of r
late {ls = ls} {r = r} (divides d) h = let e : Divisor (suc (length ls)) ≡ r = cc in omega (arith, ap number_of e)
late {ls = ls} {r = r} (passes d w) h = let e : Overflow (suc (length ls)) ≡ r = cc in omega (arith, ap number_of e)
late (goes d w) h = absurd (through-stopped h)

module _ {o : Entry} {ls : List Line} {k : ℕ} where
  inverts-of : {x : Lines} → Step o ls x → x ≡ stopped (Divisor k) → Inverts k o.op ls
  inverts-of (divides d) h = record { place = cc; divisor = (inverts-iff o.op ls).0 d }
  inverts-of (passes d w) h = let z : ◌≡◌ {A = ℕ} 0 1 = cc in absurd (omega arith)
  inverts-of (goes d w) h = absurd (through-stopped h)

  exceeds-of : {x : Lines} → Step o ls x → x ≡ stopped (Overflow k) → Exceeds k o.op ls
  exceeds-of (divides d) h = let z : ◌≡◌ {A = ℕ} 0 1 = cc in absurd (omega arith)
  exceeds-of (passes d w) h = record { place = cc; divisor = d; exceeds = w }
  exceeds-of (goes d w) h = absurd (through-stopped h)

  of-inverts : Inverts k o.op ls → Refuses (Divisor k) o.op ls
  unfolding run_ops
  of-inverts i = rw (i.place, (inverts-iff o.op ls).1 i.divisor)

  of-exceeds : Exceeds k o.op ls → Refuses (Overflow k) o.op ls
  unfolding run_ops
  of-exceeds i = rw (i.place, i.divisor, i.exceeds)

-- ---- the lines of a run
-- so many lines, all within the limit
pub record LinesWithin (n : ℕ) (ls : List Line) : Type 0 where
  pub each : AllLines (λ l. within l ≡ true) ls
  pub count : length ls ≡ n

pub all_snoc : {P : Line → Type 0} {ls : List Line} (l : Line) → AllLines P ls → P l → AllLines P (ls ++ (l ∷ []))
all_snoc l none p = more p none
all_snoc l (more q a) p = more q (all_snoc l a p)

-- A run adds a line for each operation and keeps all within the limit.
pub run-within : (os : List Entry) {n : ℕ} {ls ms : List Line} → LinesWithin n ls → run_ops os ls ≡ through ms → LinesWithin (n + length os) ms
unfolding run_ops
run-within [] {n} {ls} {ms} a h = let e : ls ≡ ms = cc in record { each = rw e at a.each; count = omega (arith, ap length e, a.count) }
run-within (o ∷ os) {n} {ls} {ms} a h = go (step o ls) (run-within os) (sym (run-cons o os ls) ∙ h)
  where
    go : {x : Lines} → Step o ls x
        → let ks = ls ++ (next o.op ls ∷ []) in
        (LinesWithin (suc n) ks → run_ops os ks ≡ through ms → LinesWithin (suc n + length os) ms)
        → and_then x (run_ops os) ≡ through ms → LinesWithin (n + length (o ∷ os)) ms
    go (divides d) f h = absurd (through-stopped (sym h))
    go (passes d w) f h = absurd (through-stopped (sym h))
    go (goes d w) f h =
        let n : length (ls ++ (next o.op ls ∷ [])) ≡ suc n = omega (arith, length-append ls (next o.op ls ∷ []), a.count) in
        let g = f (record { each = all_snoc (next o.op ls) a.each w; count = n }) h in
        record { each = g.each; count = omega (arith, g.count) }

well-formed-at : (e : ℕ) (before : List Entry) (o : Entry) (after : List Entry)
    → WellFormedOps e (before ++ (o ∷ after)) → WellFormedOp (e + length before) o.op
well-formed-at e [] o after w = rw (add-zero e) w.0
well-formed-at e (x ∷ xs) o after w =
    let a : e + 1 + length xs ≡ e + suc (length xs) = omega arith in
    subst (λ (m : ℕ). WellFormedOp m o.op) a (well-formed-at (e + 1) xs o after w.1)

-- ---- the refusals of a run
map-stops : {P Q : Op → List Line → Type 0} {os : List Entry} {ls : List Line}
    → (i : StoppedAt P os ls) → (P i.entry.op i.lines → Q i.entry.op i.lines) → StoppedAt Q os ls
map-stops i f = record {
  before = i.before;
  entry = i.entry;
  after = i.after;
  lines = i.lines;
  split = i.split;
  runs = i.runs;
  stops = f i.stops;
}

-- what each refusal says of a run
abbrev pub RunRefused : Refusal → List Entry → List Line → Type 0
RunRefused NoCodelist os ls = ⊥
RunRefused RangeCount os ls = ⊥
RunRefused (BadRange a) os ls = ⊥
RunRefused (Divisor k) os ls = StoppedAt (Inverts k) os ls
RunRefused (Overflow k) os ls = StoppedAt (Passes k) os ls

-- of well-formed operations after n lines within the limit
module _ (os : List Entry) (ls : List Line) {n : ℕ} (w : WellFormedOps n os) (a : LinesWithin n ls) where
  run-late : (r : Refusal) → run_ops os ls ≡ stopped r → 11 ≤ number_of r
  run-late r h = let i = stopped-at os ls h in late (step i.entry i.lines) i.stops

  -- 12 by its tests and by the ends that pass the limit
  exact : {P : Op → List Line → Type 0} (i : StoppedAt P os ls) → inverts_zero i.entry.op i.lines ≡ false
      → (within (next i.entry.op i.lines) ≡ false) ↔ Passing (steps_of (row_of i.entry.op i.lines))
  exact i d =
      let g = run-within i.before a i.runs in
      passes-iff i.entry.op i.lines
      (rw g.count (well-formed-at n i.before i.entry i.after (rw i.split at w)))
      g.each
      d

  passes_of : {k : ℕ} (i : StoppedAt (Exceeds k) os ls) → Passes k i.entry.op i.lines
  passes_of i =
      let x = i.stops in
      record { place = x.place; no-divisor = (no-divisor-iff _ _).0 x.divisor; passes = (exact i x.divisor).0 x.exceeds }

  of-passes : {k : ℕ} (i : StoppedAt (Passes k) os ls) → Exceeds k i.entry.op i.lines
  of-passes i =
      let x = i.stops in
      let d = (no-divisor-iff i.entry.op i.lines).1 x.no-divisor in
      record { place = x.place; divisor = d; exceeds = (exact i d).1 x.passes }

  pub run-refused-iff : (r : Refusal) → (run_ops os ls ≡ stopped r) ↔ RunRefused r os ls
  run-refused-iff NoCodelist = (λ h. omega (arith, run-late NoCodelist h), absurd)
  run-refused-iff RangeCount = (λ h. omega (arith, run-late RangeCount h), absurd)
  run-refused-iff (BadRange a) = (λ h. omega (arith, run-late (BadRange a) h), absurd)
  run-refused-iff (Divisor k) = (
    λ h. map-stops (stopped-at os ls h) (inverts-of (step _ _)),
    λ i. at-stopped os ls (map-stops i of-inverts),
  )
  run-refused-iff (Overflow k) = (
    λ h. let i = map-stops (stopped-at os ls h) (exceeds-of (step _ _)) in map-stops i (λ x. passes_of i),
    λ i. at-stopped os ls (map-stops i (λ x. of-exceeds (of-passes i))),
  )
