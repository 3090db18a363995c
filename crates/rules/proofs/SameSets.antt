-- Two accepted ratings of one codelist have the same sets: `same-sets`. Runs over lines with the same sets keep them so, row by row.
-- Assumes nothing.
use mathlib.Core.Path.{◌≡◌, refl, sym, ◌∙◌}
use mathlib.Core.List.{List}
use Prim.Native.Nat.{ℕ}
use Rattle.codelist.specs.declared.Op.{Op}
use Rattle.codelist.specs.declared.Op.TheVariants.{Add, Mul, AddC, MulC, Pow, Inv}
use Rattle.range.specs.declared.Range.{Range}
use Rattle.rules.specs.declared.Line.{Line}
use Rattle.rules.specs.Table.{factor_row, add_row, addc_row, mulc_row, mul_row, pow_row, inv_row, line_of}
use Rattle.rules.specs.Run.{no_line, line, row_of, always_bent, operations, lines_of}
use Rattle.rules.specs.Rate.{limits_of, pairs}
use Rattle.rules.specs.SameSets.{SameSetsRating}
use Rattle.rules.proofs.Accepted.{accepted}
use Rattle.rules.proofs.Paired.{Paired, paired-factors, paired-line, paired-last, paired-run}

-- two lines with the same sets
record Alike (l m : Line) : Type 0 where
  support : l.support ≡ m.support
  nonlinear : l.nonlinear ≡ m.nonlinear

no_lines : Alike no_line no_line
no_lines = record { support = refl; nonlinear = refl }

-- the table: a row's sets are those of the lines that it refers to
alike_next : (ls ms : List Line) → Paired Alike ls ms → (o : Op) → Alike (line_of (row_of o ls)) (line_of (row_of o ms))
unfolding row_of line_of add_row addc_row mulc_row mul_row pow_row inv_row
alike_next ls ms r o = next o
  where
    of : (i : ℕ) → Alike (line ls i) (line ms i)
    of = paired-line no_lines r

    next : (o : Op) → Alike (line_of (row_of o ls)) (line_of (row_of o ms))
    next (Add i j) = record { support = rw ((of i).support, (of j).support); nonlinear = rw ((of i).nonlinear, (of j).nonlinear) }
    next (Mul i j) = record {
      support = rw ((of i).support, (of j).support);
      nonlinear = rw ((of i).support, (of i).nonlinear, (of j).support, (of j).nonlinear);
    }
    next (AddC i c) = record { support = (of i).support; nonlinear = (of i).nonlinear }
    next (MulC i c) = record { support = (of i).support; nonlinear = (of i).nonlinear }
    next (Pow i m) = record { support = (of i).support; nonlinear = rw ((of i).support, (of i).nonlinear) }
    next (Inv i) = record { support = (of i).support; nonlinear = rw ((of i).support, (of i).nonlinear) }

alike-factor : (f a : ℕ) (r q : Range) → Alike (line_of (factor_row f a r)) (line_of (factor_row f a q))
unfolding factor_row line_of
alike-factor f a r q = record { support = refl; nonlinear = refl }

pub same-sets : SameSetsRating
unfolding lines_of limits_of
same-sets c xs ys l m e f =
    let A = accepted c xs l e in
    let B = accepted c ys m f in
    let first = paired-factors Alike (always_bent c) (always_bent c) 0 (pairs xs) (pairs ys) (A.count ∙ sym B.count) (λ a k. alike-factor (always_bent c) _ _ _) in
    let r = paired-last no_lines (paired-run alike_next (operations c) first A.ran B.ran) in
    rw (A.limits, B.limits) (record { support = r.support; nonlinear = r.nonlinear })
