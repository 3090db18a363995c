-- In 2016 the bent set lies within the depends-on set. Each row keeps this. Assumes nothing.
use mathlib.Core.Path.{◌≡◌}
use mathlib.Core.List.{List}
use mathlib.Core.Option.{Option}
use Prim.Native.Nat.{ℕ}
use lib.ListN.{length}
use Rattle.codelist.specs.declared.Op.{Op}
use Rattle.codelist.specs.declared.Op.TheVariants.{Add, Mul, AddC, MulC, Pow, Inv}
use Rattle.codelist.specs.Codelist.{Earlier, WellFormedOp}
use Rattle.range.specs.declared.Range.{Range}
use Rattle.rules.specs.declared.Line.{Line}
use Rattle.rules.specs.Sets.{none, single}
use Rattle.rules.specs.Table.{reach, factor_row, add_row, addc_row, mulc_row, mul_row, pow_row, inv_row, line_of}
use Rattle.rules.specs.Run.{line, row_of}
use Rattle.rules.specs.Exact.{Point, Jet}
use Rattle.rules.proofs.Members.{◌⊆◌, ⊆-refl, ⊆-union, union-in, none_in}
use Rattle.rules.proofs.Along.{Along, along-line, Kept}

abbrev pub NestedLine : (Point → Option Jet) → Line → Type 0
NestedLine o l = l.nonlinear ⊆ l.support

module _ {os : Point → List (Option Jet)} {ls : List Line} (r : Along NestedLine os ls) where
  nested-at : (i : ℕ) → Earlier (length ls) i → (line ls i).nonlinear ⊆ (line ls i).support
  nested-at i e = along-line NestedLine i e r

  reach-in : (i : ℕ) → Earlier (length ls) i → reach (line ls i) ⊆ (line ls i).support
  reach-in i e = union-in (⊆-refl (line ls i).support) (nested-at i e)

  nested-next : (o : Op) → WellFormedOp (length ls) o → (line_of (row_of o ls)).nonlinear ⊆ (line_of (row_of o ls)).support
  unfolding row_of line_of add_row addc_row mulc_row mul_row pow_row inv_row
  nested-next (Add i j) f = ⊆-union (nested-at i f.0) (nested-at j f.1)
  nested-next (Mul i j) f = ⊆-union (reach-in i f.0) (reach-in j f.1)
  nested-next (AddC i c) f = nested-at i f.0
  nested-next (MulC i c) f = nested-at i f.0
  nested-next (Pow i m) f = reach-in i f.0
  nested-next (Inv i) f = reach-in i f

pub nested-kept : Kept NestedLine
nested-kept = record { next = λ o f r t. nested-next r o f }

pub factor-nested : {f : ℕ} (i : ℕ) (r : Range) → f ≡ none → (line_of (factor_row f i r)).nonlinear ⊆ (line_of (factor_row f i r)).support
unfolding factor_row line_of
factor-nested i r e = rw e (none_in (single i))
