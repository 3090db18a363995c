-- What the year says of the sets, and what it does not touch: `year-sets`, `nested`, `all-bent`, `same-elsewhere`. Assumes nothing.
use mathlib.Core.Path.{◌≡◌, refl, sym, ap, subst}
use mathlib.Core.List.{List}
use mathlib.Core.Option.{Option}
use Prim.Native.Nat.{ℕ, ◌<◌}
use borrow.Author.Tests.{eq-eqb}
use lib.ListN.{length}
use Rattle.codelist.specs.declared.Op.{Op}
use Rattle.codelist.specs.declared.Op.TheVariants.{Add, Mul, AddC, MulC, Pow, Inv}
use Rattle.codelist.specs.declared.Entry.{Entry}
use Rattle.codelist.specs.declared.Codelist.{Codelist}
use Rattle.codelist.specs.declared.Year.{Year}
use Rattle.codelist.specs.declared.Year.TheVariants.{Y2016, Y2014}
use Rattle.codelist.specs.Codelist.{Earlier, Ratable}
use Rattle.range.specs.declared.Range.{Range}
use Rattle.range.specs.Sums.{at}
use Rattle.rules.specs.declared.Line.{Line}
use Rattle.rules.specs.Sets.{none, all_of}
use Rattle.rules.specs.Formula.{given, sticky}
use Rattle.rules.specs.Table.{extended, factor_row, add_row, addc_row, mulc_row, mul_row, pow_row, inv_row, line_of}
use Rattle.rules.specs.Run.{no_line, line, row_of, through, run_ops, factor_lines, bent_in, always_bent, operations, lines_of}
use Rattle.rules.specs.Rate.{last, limits_of, pairs}
use Rattle.rules.specs.Exact.{Point, Jet}
use Rattle.rules.specs.TableTwo.{Bent}
use Rattle.rules.specs.Years.{Through, YearSets, NestedRating, AllBentRating, SameElsewhere}
use Rattle.rules.proofs.Members.{◌⊆◌, part-union}
use Rattle.rules.proofs.Along.{along-line, Kept}
use Rattle.rules.proofs.Accepted.{accepted, run-lines, last_line}
use Rattle.rules.proofs.Nested.{NestedLine, factor-nested, nested-kept}
use Rattle.rules.proofs.TableTwo.{bent-next, bent-factor}
use Rattle.rules.proofs.Paired.{Paired, paired-factors, paired-line, paired-last, paired-run}

-- ---- 2016
none-always : (c : Codelist) → c.year ≡ Y2016 → always_bent c ≡ none
unfolding bent_in
none-always c e = ap (λ (y : Year). bent_in y c.factors) e

pub nested : NestedRating
unfolding limits_of
nested c xs l y e =
    let A = accepted c xs l e in
    let n = last_line NestedLine nested-kept A (λ a k. factor-nested a (at (pairs xs) a) (none-always c y)) in
    rw A.limits (record { into = n.into })

-- ---- 2014
abbrev BentLine : ℕ → (Point → Option Jet) → Line → Type 0
BentLine n o l = Bent n l

module _ (c : Codelist) (y : c.year ≡ Y2014) where
  all-always : always_bent c ≡ all_of c.factors
  unfolding bent_in
  all-always = ap (λ (y : Year). bent_in y c.factors) y

  bent-first : (a : ℕ) (r : Range) → a < c.factors → Bent c.factors (line_of (factor_row (always_bent c) a r))
  bent-first a r h = rw all-always (bent-factor r h)

  -- each row keeps it
  bent-kept : Ratable c → Kept (BentLine c.factors)
  bent-kept w = record {
    next = λ o {os} {ls} f r t. bent-next c.factors w.factors.0 w.factors.1 ls (λ i e. along-line (BentLine c.factors) i e r) o f;
  }

-- a lift to the set itself
pub not_lifted : (e : Range) {b s : ℕ} → b ≡ s → sticky (extended (given e) b s) ≡ e
not_lifted e {b} {s} h = rw (eq-eqb b s h)

pub all-bent : AllBentRating
unfolding limits_of
all-bent c xs l y e =
    let A = accepted c xs l e in
    let b = (last_line (BentLine c.factors) (bent-kept c y A.codelist) A (λ a k. bent-first c y a (at (pairs xs) a) k)).nonlinear in
    rw A.limits (record { nonlinear = b; full = not_lifted (last A.lines).spectrum b })

line-nested : (c : Codelist) {rs : List Range} {ls : List Line} → c.year ≡ Y2016 → Through c rs ls
    → (i : ℕ) → Earlier (length ls) i → (line ls i).nonlinear ⊆ (line ls i).support
line-nested c {rs} y t i k =
    along-line NestedLine i k
    (run-lines NestedLine nested-kept rs t.codelist t.count t.ran (λ a h. factor-nested a (at rs a) (none-always c y)))

pub year-sets : YearSets
year-sets = record {
  all-bent = λ c rs ls y t i k.
      (along-line (BentLine c.factors) i k
      (run-lines (BentLine c.factors) (bent-kept c y t.codelist) rs t.codelist t.count t.ran (λ a h. bent-first c y a (at rs a) h))
      ).nonlinear;
  nested = λ c rs ls y t i k. (line-nested c y t i k).into;
  reach-is = λ c rs ls y t i k. part-union (line ls i).support (line ls i).nonlinear (line-nested c y t i k);
}

-- ---- the rest
-- two lines that differ in their bends alone
record Beside (l m : Line) : Type 0 where
  value : l.value ≡ m.value
  gradient : l.gradient ≡ m.gradient
  support : l.support ≡ m.support

no_lines : Beside no_line no_line
no_lines = record { value = refl; gradient = refl; support = refl }

beside-next : (ls ms : List Line) → Paired Beside ls ms → (o : Op) → Beside (line_of (row_of o ls)) (line_of (row_of o ms))
unfolding row_of line_of add_row addc_row mulc_row mul_row pow_row inv_row
beside-next ls ms r o = next o
  where
    of : (i : ℕ) → Beside (line ls i) (line ms i)
    of = paired-line no_lines r

    next : (o : Op) → Beside (line_of (row_of o ls)) (line_of (row_of o ms))
    next (Add i j) = record {
      value = rw ((of i).value, (of j).value);
      gradient = rw ((of i).gradient, (of j).gradient);
      support = rw ((of i).support, (of j).support);
    }
    next (Mul i j) = record {
      value = rw ((of i).value, (of j).value);
      gradient = rw ((of i).value, (of j).value, (of i).gradient, (of j).gradient);
      support = rw ((of i).support, (of j).support);
    }
    next (AddC i c) = record { value = rw (of i).value; gradient = rw (of i).gradient; support = (of i).support }
    next (MulC i c) = record { value = rw (of i).value; gradient = rw (of i).gradient; support = (of i).support }
    next (Pow i m) = record { value = rw (of i).value; gradient = rw ((of i).value, (of i).gradient); support = (of i).support }
    next (Inv i) = record { value = rw (of i).value; gradient = rw ((of i).value, (of i).gradient); support = (of i).support }

beside-factor : (f g a : ℕ) (r : Range) → Beside (line_of (factor_row f a r)) (line_of (factor_row g a r))
unfolding factor_row line_of
beside-factor f g a r = record { value = refl; gradient = refl; support = refl }

pub same-elsewhere : SameElsewhere
unfolding lines_of limits_of
same-elsewhere c d xs l m o e f =
    let A = accepted c xs l e in
    let B = accepted d xs m f in
    let first = paired-factors Beside (always_bent c) (always_bent d) 0 (pairs xs) (pairs xs) refl (λ a k. beside-factor _ _ _ _) in
    let ran = subst (λ (os : List Entry). run_ops os (factor_lines (always_bent d) 0 (pairs xs)) ≡ through B.lines) (sym o) B.ran in
    let r = paired-last no_lines (paired-run beside-next (operations c) first A.ran ran) in
    rw (A.limits, B.limits) (record { value = r.value; gradient = r.gradient; support = r.support })
