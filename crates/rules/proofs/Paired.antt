-- Two runs side by side, over the same operations: a relation of lines that each row keeps holds of both runs' lines, one by one. Assumes nothing.
use mathlib.Core.Path.{◌≡◌}
use mathlib.Core.List.{List, [], ◌∷◌}
use Prim.Native.Nat.{ℕ, suc, ◌+◌, ◌-◌, ◌<◌}
use native.Mathlib.Nat as N
use native.Mathlib.Omega.{arith}
use lib.ListN.{length}
use Rattle.codelist.specs.declared.Op.{Op}
use Rattle.codelist.specs.declared.Entry.{Entry}
use Rattle.codelist.specs.Exchange.{OneByOne, none, more}
use Rattle.codelist.proofs.OneByOne.{each_at, each_snoc}
use Rattle.range.specs.declared.Range.{Range}
use Rattle.range.specs.Sums.{at}
use Rattle.rules.specs.declared.Line.{Line}
use Rattle.rules.specs.Table.{factor_row, line_of}
use Rattle.rules.specs.Run.{no_line, line, row_of, through, run_ops, factor_lines}
use Rattle.rules.specs.Rate.{last}
use Rattle.rules.proofs.Along.{at_turn}

abbrev pub Paired : (Line → Line → Type 0) → List Line → List Line → Type 0
Paired R ls ms = OneByOne R ls ms

-- the factors' lines, from i on
pub paired-factors : (R : Line → Line → Type 0) (f g i : ℕ) (rs qs : List Range) → length rs ≡ length qs
    → ((a : ℕ) → a < length rs → R (line_of (factor_row f (i + a) (at rs a))) (line_of (factor_row g (i + a) (at qs a))))
    → Paired R (factor_lines f i rs) (factor_lines g i qs)
unfolding factor_lines
paired-factors R f g i [] [] e h = none
paired-factors R f g i [] (q ∷ qs) e h = absurd (omega arith)
paired-factors R f g i (r ∷ rs) [] e h = absurd (omega arith)
paired-factors R f g i (r ∷ rs) (q ∷ qs) e h =
    more
    (rw (N.add-zero i) at (h 0 (omega arith)))
    (paired-factors R f g (suc i) rs qs (omega arith) (λ a k. let e : suc i + a ≡ i + suc a = omega arith in rw e (h (suc a) (omega arith))))

-- a reference to no line gives the same on both sides
module _ {R : Line → Line → Type 0} (same : R no_line no_line) where
  pub paired-line : {ls ms : List Line} → Paired R ls ms → (i : ℕ) → R (line ls i) (line ms i)
  paired-line r i = each_at R same r (i - 1)

  pub paired-last : {ls ms : List Line} → Paired R ls ms → R (last ls) (last ms)
  unfolding last
  paired-last none = same
  paired-last (more h none) = h
  paired-last (more h (more k r)) = paired-last (more k r)

pub paired-run : {R : Line → Line → Type 0}
    → ((ls ms : List Line) → Paired R ls ms → (o : Op) → R (line_of (row_of o ls)) (line_of (row_of o ms)))
    → (os : List Entry) {ls ms us vs : List Line} → Paired R ls ms → run_ops os ls ≡ through us → run_ops os ms ≡ through vs → Paired R us vs
unfolding run_ops
paired-run next [] {ls} {ms} {us} {vs} r e f = let p : ls ≡ us = cc in let q : ms ≡ vs = cc in rw (← p, ← q) r
paired-run {R} next (o ∷ os) {ls} {ms} r e f =
    paired-run next os (each_snoc R r (next ls ms r o.op)) (at_turn o os ls _ e).1 (at_turn o os ms _ f).1
