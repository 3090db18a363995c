-- The lines of a run beside the exact lines as functions of the point: what each operation keeps holds of every line of a run that goes
-- through. Assumes nothing.
use mathlib.Core.Path.{◌≡◌, subst}
use mathlib.Core.Bool.{Bool, true, false, cond}
use mathlib.Core.List.{List, [], ◌∷◌, ◌++◌}
use mathlib.Core.Option.{Option, none, some}
use Prim.Native.Nat.{ℕ, zero, suc, ◌+◌, ◌-◌, ◌<◌}
use native.Mathlib.Nat as N
use native.Mathlib.Omega.{arith}
use lib.Dec.{T}
use lib.ListN.{get_or, length, length-append}
use Rattle.codelist.specs.declared.Op.{Op}
use Rattle.codelist.specs.declared.Entry.{Entry}
use Rattle.codelist.specs.Codelist.{Earlier, WellFormedOp, WellFormedOps}
use Rattle.range.specs.declared.Range.{Range}
use Rattle.range.specs.Sums.{at}
use Rattle.rules.specs.declared.Line.{Line}
use Rattle.rules.specs.declared.Refusal.{Refusal}
use Rattle.rules.specs.Table.{factor_row, line_of}
use Rattle.rules.specs.Run.{line, row_of, inverts_zero, within, Lines, through, stopped, run_ops, factor_lines}
use Rattle.rules.specs.Rate.{last}
use Rattle.rules.specs.Exact.{Point, Jet, factor_jet, jet, exact_next, factor_jets, exact_ops, last_jet}

-- ---- a run that goes through
-- at an operation its line is within the limit, and the run goes on
pub at_turn : (o : Entry) (os : List Entry) (ls ms : List Line) → run_ops (o ∷ os) ls ≡ through ms
    → T (within (line_of (row_of o.op ls))) × (run_ops os (ls ++ (line_of (row_of o.op ls) ∷ [])) ≡ through ms)
unfolding run_ops
at_turn o os ls ms e = go (inverts_zero o.op ls) (within (line_of (row_of o.op ls))) _ _ e
  where
    go : (c d : Bool) (r s : Refusal) {x : Lines} → cond c (stopped r) (cond d x (stopped s)) ≡ through ms → T d × (x ≡ through ms)
    go true d r s e = let z : ◌≡◌ {A = ℕ} 0 1 = cc in absurd (omega arith)
    go false true r s e = (tt, e)
    go false false r s e = let z : ◌≡◌ {A = ℕ} 0 1 = cc in absurd (omega arith)

-- ---- what there is at each point, and the line, one by one
pub data Along (R : (Point → Option Jet) → Line → Type 0) : (Point → List (Option Jet)) → List Line → Type 0 where
  nil : Along R (λ p. []) []
  cons : {o : Point → Option Jet} {l : Line} {os : Point → List (Option Jet)} {ls : List Line}
      → R o l → Along R os ls → Along R (λ p. o p ∷ os p) (l ∷ ls)

module _ (R : (Point → Option Jet) → Line → Type 0) where
  -- one more at the end
  along-snoc : {os : Point → List (Option Jet)} {ls : List Line} {o : Point → Option Jet} {l : Line}
      → Along R os ls → R o l → Along R (λ p. os p ++ (o p ∷ [])) (ls ++ (l ∷ []))
  along-snoc nil h = cons h nil
  along-snoc (cons k r) h = cons k (along-snoc r h)

  along-at : {os : Point → List (Option Jet)} {ls : List Line} (k : ℕ) (o : Option Jet) (l : Line) → k < length ls
      → Along R os ls → R (λ p. get_or (os p) k o) (get_or ls k l)
  along-at k o l i nil = let f : ⊥ = omega arith in absurd f
  along-at zero o l i (cons h r) = h
  along-at (suc k) o l i (cons h r) = along-at k o l (N.le_of_suc-le-suc i) r

  -- at an earlier codelist line
  pub along-line : {os : Point → List (Option Jet)} {ls : List Line} (i : ℕ) → Earlier (length ls) i
      → Along R os ls → R (λ p. jet (os p) i) (line ls i)
  along-line i e r = along-at (i - 1) _ _ (omega arith) r

  pub along-last : {os : Point → List (Option Jet)} {ls : List Line} → 0 < length ls → Along R os ls → R (λ p. last_jet (os p)) (last ls)
  unfolding last last_jet
  along-last i nil = let f : ⊥ = omega arith in absurd f
  along-last i (cons h nil) = h
  along-last i (cons h (cons k r)) = along-last (N.zero-lt-suc _) (cons k r)

  -- what R says of each line at p
  pub along-each : (P : Option Jet → Type 0) (p : Point) → ((o : Point → Option Jet) (l : Line) → R o l → P (o p))
      → {os : Point → List (Option Jet)} {ls : List Line} → Along R os ls → (k : ℕ) → k < length (os p) → P (get_or (os p) k none)
  along-each P p f nil k i = let g : ⊥ = omega arith in absurd g
  along-each P p f (cons h r) zero i = f _ _ h
  along-each P p f (cons h r) (suc k) i = along-each P p f r k (N.le_of_suc-le-suc i)

  -- an operation that is not refused keeps R
  pub record Kept : Type 0 where
    pub next : (o : Op) {os : Point → List (Option Jet)} {ls : List Line} → WellFormedOp (length ls) o → Along R os ls
        → T (within (line_of (row_of o ls))) → R (λ p. exact_next o (os p)) (line_of (row_of o ls))

  -- through the operations
  pub along-run : Kept → (ops : List Entry) {os : Point → List (Option Jet)} (ls ms : List Line) → WellFormedOps (length ls) ops
      → Along R os ls → run_ops ops ls ≡ through ms → Along R (λ p. exact_ops ops (os p)) ms
  unfolding run_ops exact_ops
  along-run K [] {os} ls ms f r e = let same : ls ≡ ms = cc in subst (Along R os) same r
  along-run K (o ∷ ops) ls ms f r e =
      let t = at_turn o ops ls ms e in
      let next = line_of (row_of o.op ls) in
      along-run K ops (ls ++ (next ∷ [])) ms
      (rw (length-append ls (next ∷ [])) f.1)
      (along-snoc r (K.next o.op f.0 r t.0))
      t.1

  -- the factors, from i on
  pub along-factors : (f i : ℕ) (rs : List Range)
      → ((a : ℕ) → a < length rs → R (λ p. some (factor_jet p (i + a))) (line_of (factor_row f (i + a) (at rs a))))
      → Along R (λ p. factor_jets p i (length rs)) (factor_lines f i rs)
  unfolding factor_jets factor_lines
  along-factors f i [] h = nil
  along-factors f i (r ∷ rs) h =
      cons
      (rw (N.add-zero i) at (h 0 (omega arith)))
      (along-factors f (suc i) rs (λ a k. let e : suc i + a ≡ i + suc a = omega arith in rw e (h (suc a) (omega arith))))
