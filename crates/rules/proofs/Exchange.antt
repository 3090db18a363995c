-- Swapped references change no rating: `exchange-rate`. The lines of the two rows of a swapped operation are equal, and a run sees lines alone. Assumes
-- nothing.
use mathlib.Core.Path.{◌≡◌, refl, ap₂, ◌∙◌}
use mathlib.Core.Bool.{not, ◌&&◌, cond, and_comm}
use mathlib.Core.List.{List, [], ◌∷◌, ◌++◌}
use Prim.Native.Nat.{ℕ, zero, suc, ◌+◌}
use lib.Dec.{eqb}
use Rattle.codelist.specs.declared.Op.{Op}
use Rattle.codelist.specs.declared.Entry.{Entry}
use Rattle.codelist.specs.declared.Codelist.{Codelist}
use Rattle.codelist.specs.Codelist.{is_earlier, well_formed_op, well_formed_ops, ratable}
use Rattle.codelist.specs.Exchange.{OneByOne, none, more, ExchangedOp, kept, add, mul, ExchangedEntry, Exchanged}
use Rattle.codelist.proofs.OneByOne.{each_take, each-length}
use Rattle.range.specs.declared.Range.{Range}
use Rattle.range.specs.Arithmetic.{product_of}
use Rattle.range.specs.Sums.{at}
use Rattle.range.specs.Laws.{Symmetry}
use Rattle.range.proofs.Laws.{laws}
use Rattle.rules.specs.declared.Line.{Line}
use Rattle.rules.specs.Formula.{given}
use Rattle.rules.specs.Sets.{is_single}
use Rattle.rules.specs.Table.{reach, singles, add_row, mul_row, eight, line_of}
use Rattle.rules.specs.Run.{line, row_of, inverts_zero, run_ops, factor_lines, always_bent, lines_of, operations}
use Rattle.rules.specs.Rate.{pairs, finished, first_bad, rate_ranges, rate_of}
use Rattle.rules.specs.Exchange.{ExchangeRate}
use Rattle.rules.proofs.SetTests.{swapped, apart-comm}
use Rattle.rules.proofs.Exchanged.{union_comm, sum-exchanged, product-exchanged, star-exchanged}

abbrev S : Symmetry
S = laws.symmetry

-- ---- rows
eight-same : {f g : ℕ → Range} → ((a : ℕ) → f a ≡ g a) → eight f ≡ eight g
eight-same e = λ i. eight (λ a. e a i)

module _ (x y : Line) where
  singles-exchanged : singles x y ≡ singles y x
  singles-exchanged =
      swapped (is_single (reach x)) (is_single (reach y)) _
      ∙ ap₂ (λ c b. is_single (reach y) && (is_single (reach x) && (c && not (eqb b 0))))
      (apart-comm (reach x) (reach y)) (union_comm x.nonlinear y.nonlinear)

  add-exchanged : line_of (add_row x y) ≡ line_of (add_row y x)
  unfolding add_row line_of
  add-exchanged = λ i. record {
    value = S.sum x.value y.value i;
    gradient = eight-same (λ a. S.sum (at x.gradient a) (at y.gradient a)) i;
    support = union_comm x.support y.support i;
    nonlinear = union_comm x.nonlinear y.nonlinear i;
    spectrum = sum-exchanged (given x.spectrum) (given y.spectrum) x.nonlinear y.nonlinear i;
  }

  mul-exchanged : line_of (mul_row x y) ≡ line_of (mul_row y x)
  unfolding mul_row line_of
  mul-exchanged = λ i. record {
    value = S.product x.value y.value i;
    gradient = eight-same (λ a. S.sum (product_of x.value (at y.gradient a)) (product_of y.value (at x.gradient a))) i;
    support = union_comm x.support y.support i;
    nonlinear = union_comm (reach x) (reach y) i;
    spectrum = cond (singles-exchanged i) (star-exchanged x y i) (product-exchanged x y i);
  }

-- ---- an operation
line-exchanged : {o u : Op} → ExchangedOp o u → (ls : List Line) → line_of (row_of o ls) ≡ line_of (row_of u ls)
unfolding row_of
line-exchanged (kept o) ls = refl
line-exchanged (add i j) ls = add-exchanged (line ls i) (line ls j)
line-exchanged (mul i j) ls = mul-exchanged (line ls i) (line ls j)

inverts-exchanged : {o u : Op} → ExchangedOp o u → (ls : List Line) → inverts_zero o ls ≡ inverts_zero u ls
unfolding inverts_zero
inverts-exchanged (kept o) ls = refl
inverts-exchanged (add i j) ls = refl
inverts-exchanged (mul i j) ls = refl

formed-exchanged : {o u : Op} → ExchangedOp o u → (e : ℕ) → well_formed_op e o ≡ well_formed_op e u
formed-exchanged (kept o) e = refl
formed-exchanged (add i j) e = and_comm (is_earlier e i) (is_earlier e j)
formed-exchanged (mul i j) e = and_comm (is_earlier e i) (is_earlier e j)

-- ---- operations one after another
run-exchanged : {os us : List Entry} → OneByOne ExchangedEntry os us → (ls : List Line) → run_ops os ls ≡ run_ops us ls
unfolding run_ops
run-exchanged none ls = refl
run-exchanged (more {y = y} h hs) ls =
    rw (inverts-exchanged h ls, line-exchanged h ls, run-exchanged hs (ls ++ (line_of (row_of y.op ls) ∷ [])))

ops-formed : {os us : List Entry} → OneByOne ExchangedEntry os us → (e : ℕ) → well_formed_ops e os ≡ well_formed_ops e us
unfolding well_formed_ops
ops-formed none e = refl
ops-formed (more h hs) e = ap₂ ◌&&◌ (formed-exchanged h e) (ops-formed hs (e + 1))

-- ---- a codelist
module _ {c d : Codelist} (h : Exchanged c d) where
  pub operations-exchanged : OneByOne ExchangedEntry (operations c) (operations d)
  operations-exchanged = rw h.count (each_take ExchangedEntry d.count h.ops)

  pub ratable-exchanged : ratable c ≡ ratable d
  unfolding ratable
  ratable-exchanged = rw (h.factors, ops-formed operations-exchanged d.factors, h.count, each-length ExchangedEntry h.ops)

  lines-exchanged : (rs : List Range) → lines_of c rs ≡ lines_of d rs
  unfolding lines_of
  lines-exchanged rs = rw (h.year, h.factors, run-exchanged operations-exchanged (factor_lines (always_bent d) 0 rs))

  pub ranges-exchanged : (rs : List Range) (n : ℕ) → rate_ranges c rs n ≡ rate_ranges d rs n
  unfolding rate_ranges
  ranges-exchanged rs zero = ap₂ finished h.factors (lines-exchanged rs)
  ranges-exchanged rs (suc a) = refl

-- SWAPPED REFERENCES CHANGE NO RATING
pub exchange-rate : ExchangeRate
unfolding rate_of
exchange-rate c d xs h = rw (ratable-exchanged h, ranges-exchanged h (pairs xs) (first_bad 1 (pairs xs)), h.factors)
