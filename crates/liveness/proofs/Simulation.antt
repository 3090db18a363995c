-- THE SIMULATION: whatever is worked out of a line from the lines that it refers to is the same at the line's new number. Once for runs of any
-- kind: `simulated`; rating and the exact side are two of them. Assumes nothing.
use Prim.Native.Nat.{ℕ, suc, ◌+◌, ◌-◌}
use mathlib.Core.Bool.{Bool, true, false, false≢true}
use mathlib.Core.List.{List, [], ◌∷◌, ◌++◌, append-nil}
use mathlib.Core.Path.{◌≡◌, refl, sym, ap, ◌∙◌}
use native.Mathlib.Omega.{arith}
use lib.ListN.{length, get_or, length-append}
use Rattle.codelist.specs.declared.Entry.{Entry}
use Rattle.codelist.specs.declared.Op.{Op}
use Rattle.codelist.specs.Codelist.{Earlier}
use Rattle.liveness.specs.Tidied.{picked, position, renumbered, tidy_ops}
use Rattle.liveness.proofs.References.{OfEach}
use Rattle.liveness.proofs.Positions.{position-kept, picked-kept, picked-dropped, picked-length, picked-at, picked-append}
use Rattle.liveness.proofs.Operations.{Each, tidy-none, tidy-kept, tidy-dropped}
use Rattle.liveness.proofs.Used.{ClosedOp}

-- what an operation leads to: its line, or that the run stops there, for a reason
pub data Step (A R : Type 0) : Type 0 where
  goes : A → Step A R
  halts : R → Step A R

-- what a run leads to: all lines, or the line where it stopped
pub data Ran (A R : Type 0) : Type 0 where
  through : List A → Ran A R
  stopped : R → ℕ → Ran A R

-- the kept lines of a run, and the new number of the line where it stopped
abbrev pub ran_tidied : {A R : Type 0} → (ℕ → Bool) → Ran A R → Ran A R
ran_tidied k (through ls) = through (picked k 0 ls)
ran_tidied k (stopped r j) = stopped r (position k j)

-- it did not stop at a dropped line
abbrev pub Fair : {A R : Type 0} → (ℕ → Bool) → Ran A R → Type 0
Fair k (through ls) = Unit
Fair k (stopped r j) = k j ≡ true

abbrev pub on_step : {A R : Type 0} → Step A R → (A → Ran A R) → ℕ → Ran A R
on_step (goes l) f j = f l
on_step (halts r) f j = stopped r j

-- ---- the lines that are kept
module _ (k : ℕ → Bool) where
  module _ {A : Type 0} (e : ℕ) (ls : List A) (l : A) (n : length ls ≡ e) where
    last_line : picked k 0 (ls ++ (l ∷ [])) ≡ picked k 0 ls ++ picked k e (l ∷ [])
    last_line = let a : 0 + length ls ≡ e = omega arith in picked-append k 0 ls (l ∷ []) ∙ rw a

    pub line_kept : k (suc e) ≡ true → picked k 0 (ls ++ (l ∷ [])) ≡ picked k 0 ls ++ (l ∷ [])
    unfolding picked
    line_kept g = last_line ∙ rw (picked-kept k e l [] g)

    line-dropped : k (suc e) ≡ false → picked k 0 (ls ++ (l ∷ [])) ≡ picked k 0 ls
    unfolding picked
    line-dropped g = last_line ∙ rw (picked-dropped k e l [] g, append-nil)

  -- how many lines are kept of the first e
  lines-kept : {A : Type 0} (ls : List A) → length (picked k 0 ls) ≡ position k (length ls)
  unfolding position
  lines-kept ls = let a : 0 + length ls ≡ length ls = omega arith in let h = picked-length k 0 ls in omega (arith, rw a at h)

module _ {A R : Type 0} (missing : A) (step : Op → List A → Step A R) where
  unfoldable pub run : List Entry → List A → Ran A R
  run [] ls = through ls
  run (o ∷ os) ls = on_step (step o.op ls) (λ l. run os (ls ++ (l ∷ []))) (suc (length ls))

  -- a run that goes through has a line for each operation
  pub run_length : (os : List Entry) (ls ms : List A) → run os ls ≡ through ms → length ms ≡ length ls + length os
  unfolding run
  run_length [] ls ms h = let e : ls ≡ ms = cc in omega (arith, ap length e)
  run_length (o ∷ os) ls ms h = go (step o.op ls) (λ l. run_length os (ls ++ (l ∷ [])) ms) h
    where
      go : (x : Step A R) → ((l : A) → run os (ls ++ (l ∷ [])) ≡ through ms → length ms ≡ length (ls ++ (l ∷ [])) + length os)
          → on_step x (λ l. run os (ls ++ (l ∷ []))) (suc (length ls)) ≡ through ms → length ms ≡ length ls + suc (length os)
      go (goes l) ih h = omega (arith, ih l h, length-append ls (l ∷ []))
      go (halts r) ih h = let z : ◌≡◌ {A = ℕ} 0 1 = cc in absurd (omega arith)

  -- a step is worked out from the lines that the operation refers to
  abbrev pub Local : Type 0
  Local = (f : ℕ → ℕ) (o : Op) (ls ms : List A) → OfEach (λ i. get_or ms (f i - 1) missing ≡ get_or ls (i - 1) missing) o
      → step (renumbered f o) ms ≡ step o ls

  module _ (local : Local) (k : ℕ → Bool) where
    line_at : (e : ℕ) (ls : List A) → length ls ≡ e → (i : ℕ) → (k i ≡ true) × Earlier e i
        → get_or (picked k 0 ls) (position k i - 1) missing ≡ get_or ls (i - 1) missing
    unfolding position
    line_at e ls n i (g, (p, q)) =
        let y : position k i - 0 - 1 ≡ position k i - 1 = omega arith in
        let z : i - 0 - 1 ≡ i - 1 = omega arith in
        rw (← y, ← z) (picked-at k missing 0 ls i (omega arith) (omega arith) g)

    -- the step at a kept line is the old one
    same_step : (e : ℕ) (o : Op) (ls : List A) → length ls ≡ e → k (suc e) ≡ true → ClosedOp k e o
        → step (renumbered (position k) o) (picked k 0 ls) ≡ step o ls
    same_step e o ls n g closed = local (position k) o ls (picked k 0 ls) (λ i r. line_at e ls n i (closed g i r))

    pub simulated : (e : ℕ) (os : List Entry) (ls : List A) → length ls ≡ e → Each (ClosedOp k) e os → Fair k (run os ls)
        → run (tidy_ops k e os) (picked k 0 ls) ≡ ran_tidied k (run os ls)
    unfolding run
    simulated e [] ls n closed fair = rw (tidy-none k e)
    simulated e (o ∷ os) ls n closed fair =
        go (k (suc e)) refl (step o.op ls) refl fair
        (λ l. simulated (suc e) os (ls ++ (l ∷ [])) (omega (arith, length-append ls (l ∷ []))) closed.1)
      where
        Same : List A → Type 0
        Same ms = Fair k (run os ms) → run (tidy_ops k (suc e) os) (picked k 0 ms) ≡ ran_tidied k (run os ms)

        at : {ms ns : List A} → ms ≡ ns → run (tidy_ops k (suc e) os) ns ≡ run (tidy_ops k (suc e) os) ms
        at h = ap (run (tidy_ops k (suc e) os)) (sym h)

        go : (b : Bool) → k (suc e) ≡ b → (x : Step A R) → step o.op ls ≡ x
            → Fair k (on_step x (λ l. run os (ls ++ (l ∷ []))) (suc (length ls))) → ((l : A) → Same (ls ++ (l ∷ [])))
            → run (tidy_ops k e (o ∷ os)) (picked k 0 ls) ≡ ran_tidied k (on_step x (λ l. run os (ls ++ (l ∷ []))) (suc (length ls)))
        go true g (goes l) s fair ih =
            rw (tidy-kept k e o os g, same_step e o.op ls n g closed.0, s) (at (line_kept k e ls l n g) ∙ ih l fair)
        go true g (halts r) s fair ih =
            let a : suc (length ls) ≡ suc e = ap suc n in
            rw (tidy-kept k e o os g, same_step e o.op ls n g closed.0, s, lines-kept k ls, a, n, position-kept k e g)
        go false g (goes l) s fair ih = rw (tidy-dropped k e o os g) (at (line-dropped k e ls l n g) ∙ ih l fair)
        go false g (halts r) s fair ih = absurd (false≢true (sym g ∙ rw n at fair))
