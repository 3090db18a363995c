-- Loading the lines that a formula becomes gives the codelist of their operations, or a refusal: never 2, a line's form, or 17, the year.
use Prim.Native.Nat.{ℕ, suc, zero, ◌+◌, ◌-◌, ◌^◌, ◌<◌}
use mathlib.Core.Bool.{Bool, true, false, ◌||◌, false≢true}
use mathlib.Core.List.{List, [], ◌∷◌, ◌++◌, map, append_assoc, append-nil}
use mathlib.Core.Path.{◌≡◌, refl, sym, ◌∙◌}
use lib.Dec.{eqb, leb}
use lib.ListN.{length}
use lib.Seq.{take-append_seam}
use Rattle.codelist.specs.declared.Entry.{Entry}
use Rattle.codelist.specs.InFull.{Loaded}
use Rattle.codelist.specs.declared.Refusal.{Refusal}
use Rattle.codelist.specs.declared.Refusal.TheVariants.{TooLong, FactorCount, TooManyLines, NoOperation, Reference, Exponent, Constant}
use Rattle.codelist.specs.declared.Refusal.TheVariants.{ZeroMultiplier}
use Rattle.codelist.specs.declared.Year.TheVariants.{Y2016}
use Rattle.codelist.specs.Codelist.{WellFormedOps}
use Rattle.codelist.specs.Conditions.{is_between, refers_back, exponent_fits, constant_fits, multiplier_fits}
use Rattle.codelist.specs.Load.{number_of, accepted, refused, codelist_of, op_of, unless, checked_of, operation_lines, load_of}
use Rattle.codelist.specs.Read.{good, operation_line}
use Rattle.codelist.specs.Text.{TextLine, absent, year_of, line_text}
use Rattle.codelist.specs.Write.{plain}
use Rattle.codelist.proofs.Accepted.{accepted-exactly}
use Rattle.codelist.proofs.Checks.{plain-numeral, Broken, broken-reference, broken-exponent, broken-constant, broken-multiplier, fault-complete}
use Rattle.codelist.proofs.LineTexts.{line-complete, first-complete}
use Rattle.codelist.proofs.Steps.{step_end, step-full, step-fault, step-fine}
use Rattle.formulas.specs.Convert.{lines_text, sheet_text}
use Rattle.formulas.specs.Exactly.{AllNumerals}

abbrev pub entry_of : TextLine → Entry
entry_of l = record { op = op_of l }

abbrev pub ops_of : List TextLine → List Entry
ops_of ls = map entry_of ls

-- ════ other refusals than 2 and 17 ════

-- as a test, which computes for each refusal
abbrev Other : Refusal → Type 0
Other r = (eqb (number_of r) 2 || eqb (number_of r) 17) ≡ false

pub neither : (r : Refusal) → Other r → ¬ (number_of r ≡ 2) × ¬ (number_of r ≡ 17)
neither r h = (λ e. never 2 refl e, λ e. never 17 refl e)
  where
    never : (k : ℕ) → (eqb k 2 || eqb k 17) ≡ true → number_of r ≡ k → ⊥
    never k g e = false≢true (sym (rw e at h) ∙ g)

-- What loading makes of n factors and the operations ops
pub data Made (n : ℕ) (ops : List Entry) : Loaded → Type 0 where
  kept : Made n ops (accepted (codelist_of Y2016 n ops))
  turned_down : (r : Refusal) → Other r → Made n ops (refused r)

unless-made : {n : ℕ} {ops : List Entry} {l : Loaded} (b : Bool) (r : Refusal) → Other r → Made n ops l → Made n ops (unless b (refused r) l)
unless-made true r h m = m
unless-made false r h m = turned_down r h

-- ════ all lines, and the sheet ════

lines-made : (n room : ℕ) (ls : List TextLine) (done : List Entry) → AllNumerals ls
    → Made n (done ++ ops_of ls) (operation_lines Y2016 n room done (lines_text ls))
unfolding checked_of
lines-made n room [] [] h = rw (step_end Y2016 n [] room) (turned_down NoOperation refl)
lines-made n room [] (x ∷ xs) h = rw (step_end Y2016 n (x ∷ xs) room, append-nil) kept
lines-made n zero (l ∷ ls) done h =
    rw (step-full Y2016 n done _ l (lines_text ls) (line-complete l (lines_text ls) h.0)) (turned_down (TooManyLines _) refl)
lines-made n (suc room) (l ∷ ls) done h = go _ _ _ _ refl refl refl refl (lines-made n room ls (done ++ (entry_of l ∷ [])) h.1)
  where
    read : operation_line (line_text l ++ lines_text ls) ≡ good l (lines_text ls)
    read = line-complete l (lines_text ls) h.0

    Goal : Type 0
    Goal = Made n (done ++ ops_of (l ∷ ls)) (operation_lines Y2016 n (suc room) done (lines_text (l ∷ ls)))

    faulty : (r : Refusal) → Other r → Broken (length done + 2) (n + length done) l r → Goal
    faulty r o b = rw (step-fault Y2016 n done _ l (lines_text ls) read room r (fault-complete _ _ l r b)) (turned_down r o)

    -- the line is taken where its four conditions hold, and else the first that fails is told
    go : (a b c d : Bool) → refers_back (n + length done) l ≡ a → exponent_fits l ≡ b → constant_fits l ≡ c → multiplier_fits l ≡ d
        → Made n ((done ++ (entry_of l ∷ [])) ++ ops_of ls) (operation_lines Y2016 n room (done ++ (entry_of l ∷ [])) (lines_text ls)) → Goal
    go true true true true p q r s m =
        rw (step-fine Y2016 n done _ l (lines_text ls) read room (op_of l) (simp (p, q, r, s)), ← append_assoc done (entry_of l ∷ []) (ops_of ls)) m
    go true true true false p q r s m = faulty (ZeroMultiplier _) refl (broken-multiplier p q r s)
    go true true false d p q r s m = faulty (Constant _) refl (broken-constant p q r)
    go true false c d p q r s m = faulty (Exponent _) refl (broken-exponent p q)
    go false b c d p q r s m = faulty (Reference _) refl (broken-reference p)

pub sheet-made : (n : ℕ) (ls : List TextLine) → n < 10 ^ 10 → AllNumerals ls → Made n (ops_of ls) (load_of (sheet_text n ls))
unfolding load_of sheet_text year_of
sheet-made n ls h a =
    rw (first-complete (plain n) absent (lines_text ls) (plain-numeral n h) tt)
    (unless-made (leb (length (sheet_text n ls)) 4096) TooLong refl
    (unless-made (is_between 1 8 (plain n)) FactorCount refl (lines-made n (64 - n) ls [] a)))

-- The operations of a sheet that is accepted refer to earlier lines
pub well-formed : (s : List ℕ) (n : ℕ) (ops : List Entry) → load_of s ≡ accepted (codelist_of Y2016 n ops) → WellFormedOps n ops
unfolding codelist_of
well-formed s n ops e = rw take-append_seam at ((accepted-exactly.where-written s (codelist_of Y2016 n ops)).0 e).0.each
