-- Over lines whose bent set is all factors 01's rows are those of 001's Table 2: `table-two`. There the lift is the identity, the join is the sum,
-- Sq and Cross run over all factors, and no two lines meet request 4's test. Assumes nothing.
use mathlib.Core.Path.{◌≡◌, refl, ◌∙◌, ap}
use mathlib.Core.Bool.{Bool, true, false, ◌&&◌, cond}
use mathlib.Core.List.{List, [], ◌∷◌, ◌++◌}
use Prim.Native.Nat.{ℕ, zero, suc, ◌+◌, ◌^◌, ◌-◌, ◌≤◌, ◌<◌}
use native.Mathlib.Nat as N
use native.Mathlib.Omega.{arith}
use borrow.Author.Tests.{eq-eqb}
use lib.Bits.{or_lt, and_le_l, or_add_and}
use lib.Count.{ones, ones_in, count_trailing_zeros}
use lib.Dec.{eqb}
use lib.ListN.{get_or, length, length-append}
use lib.Pow.{pow-lt, pow_pos}
use Rattle.codelist.specs.declared.Op.{Op}
use Rattle.codelist.specs.declared.Op.TheVariants.{Add, Mul, AddC, MulC, Pow, Inv}
use Rattle.codelist.specs.declared.Entry.{Entry}
use Rattle.codelist.specs.Codelist.{Earlier, WellFormedOp, WellFormedOps}
use Rattle.range.specs.declared.Range.{Range}
use Rattle.rules.specs.declared.Line.{Line}
use Rattle.rules.specs.Formula.{unlimited, produced}
use Rattle.rules.specs.Sets.{all_of, ◌∪◌, apart, is_single, only}
use Rattle.rules.specs.declared.Refusal.TheVariants.{Divisor, Overflow}
use Rattle.rules.specs.Table.{reach, factor_row, add_row, addc_row, mulc_row, mul_row, pow_row, inv_row, eight, line_of}
use Rattle.rules.specs.Run.{no_line, line, row_of, inverts_zero, stopped}
use Rattle.rules.specs.Overflow.{all_within, joined, steps_of, AllLines, none, more}
use Rattle.rules.specs.TableTwo.{table_two, row_in_2014, Bent, SameRow, TableTwoRows}
use Rattle.rules.specs.Published.{published_line, published_factors, published_ops}
use Rattle.rules.proofs.Stopped.{all_snoc}

-- ---- the set of all factors
-- what the table's tests say of it
record AllFactors (n : ℕ) : Type 0 where
  single : is_single (all_of n) ≡ eqb n 1
  first : only (all_of n) ≡ 0
  shared : apart (all_of n) (all_of n) ≡ false

all-factors : (n : ℕ) → 1 ≤ n → n ≤ 8 → AllFactors n
unfolding apart is_single only ones ones_in count_trailing_zeros
all-factors zero l m = absurd (omega arith)
all-factors (suc zero) l m = record { single = refl; first = refl; shared = refl }
all-factors (suc (suc zero)) l m = record { single = refl; first = refl; shared = refl }
all-factors (suc (suc (suc zero))) l m = record { single = refl; first = refl; shared = refl }
all-factors (suc (suc (suc (suc zero)))) l m = record { single = refl; first = refl; shared = refl }
all-factors (suc (suc (suc (suc (suc zero))))) l m = record { single = refl; first = refl; shared = refl }
all-factors (suc (suc (suc (suc (suc (suc zero)))))) l m = record { single = refl; first = refl; shared = refl }
all-factors (suc (suc (suc (suc (suc (suc (suc zero))))))) l m = record { single = refl; first = refl; shared = refl }
all-factors (suc (suc (suc (suc (suc (suc (suc (suc zero)))))))) l m = record { single = refl; first = refl; shared = refl }
all-factors (suc (suc (suc (suc (suc (suc (suc (suc (suc n))))))))) l m = absurd (omega arith)

all-union : (n s : ℕ) → s < 2 ^ n → s ∪ all_of n ≡ all_of n
all-union n s h =
    omega (arith, or_lt n s (all_of n) h (omega (arith, pow_pos n)), or_add_and s (all_of n), and_le_l s (all_of n), pow_pos n)

all-twice : (n : ℕ) → all_of n ∪ all_of n ≡ all_of n
all-twice n = all-union n (all_of n) (omega (arith, pow_pos n))

all_same : (n : ℕ) → eqb (all_of n) (all_of n) ≡ true
all_same n = eq-eqb (all_of n) (all_of n) refl

reach-all : {n : ℕ} {x : Line} → Bent n x → reach x ≡ all_of n
reach-all {n} {x} b = rw b.nonlinear (all-union n x.support b.support)

-- no two lines meet request 4's test
never : (b : Bool) → b && (b && false) ≡ false
never true = refl
never false = refl

module _ (n : ℕ) (l : 1 ≤ n) (m : n ≤ 8) (ls : List Line) (bent : (i : ℕ) → Earlier (length ls) i → Bent n (line ls i)) where
  all : AllFactors n
  all = all-factors n l m

  same_row : (o : Op) → WellFormedOp (length ls) o → SameRow (row_of o ls) (row_in_2014 n o ls)
  unfolding row_of row_in_2014 table_two add_row addc_row mulc_row mul_row pow_row inv_row unlimited produced
  same_row (Add i j) f =
      let b = (bent i f.0).nonlinear in
      let c = (bent j f.1).nonlinear in
      record {
        spectrum = rw (b, c, all-twice n, all.shared, all_same n) (record { sticky = refl; unlimited = refl; produced = refl });
        nonlinear = rw (b, c) (all-twice n);
      }
  same_row (Mul i j) f =
      let b = bent i f.0 in
      let c = bent j f.1 in
      record {
        spectrum = rw (reach-all b, reach-all c, b.nonlinear, c.nonlinear, all-twice n, all.shared, all.single, all.first, all_same n, never (eqb n 1))
            (record { sticky = refl; unlimited = refl; produced = refl });
        nonlinear = rw (reach-all b, reach-all c) (all-twice n);
      }
  same_row (AddC i c) f = record { spectrum = record { sticky = refl; unlimited = refl; produced = refl }; nonlinear = (bent i f.0).nonlinear }
  same_row (MulC i c) f = record { spectrum = record { sticky = refl; unlimited = refl; produced = refl }; nonlinear = (bent i f.0).nonlinear }
  same_row (Pow i k) f =
      let b = bent i f.0 in
      record {
        spectrum = rw (reach-all b, b.nonlinear, all.single, all.first, all_same n) (record { sticky = refl; unlimited = refl; produced = refl });
        nonlinear = reach-all b;
      }
  same_row (Inv i) f =
      let b = bent i f in
      record {
        spectrum = rw (reach-all b, b.nonlinear, all.single, all.first, all_same n) (record { sticky = refl; unlimited = refl; produced = refl });
        nonlinear = reach-all b;
      }

  -- a row over lines of 2014 is one of 2014
  row-few : (o : Op) → WellFormedOp (length ls) o → (row_of o ls).support < 2 ^ n
  unfolding row_of add_row addc_row mulc_row mul_row pow_row inv_row
  row-few (Add i j) f = or_lt n _ _ (bent i f.0).support (bent j f.1).support
  row-few (Mul i j) f = or_lt n _ _ (bent i f.0).support (bent j f.1).support
  row-few (AddC i c) f = (bent i f.0).support
  row-few (MulC i c) f = (bent i f.0).support
  row-few (Pow i k) f = (bent i f.0).support
  row-few (Inv i) f = (bent i f).support

  row-all : (o : Op) → WellFormedOp (length ls) o → (row_of o ls).nonlinear ≡ all_of n
  unfolding row_in_2014
  row-all o f = (same_row o f).nonlinear

  pub bent-next : (o : Op) → WellFormedOp (length ls) o → Bent n (line_of (row_of o ls))
  unfolding line_of
  bent-next o f = record { support = row-few o f; nonlinear = row-all o f }

  bent-published : (o : Op) → WellFormedOp (length ls) o → Bent n (published_line (row_of o ls))
  unfolding published_line
  bent-published o f = record { support = row-few o f; nonlinear = row-all o f }

  -- its line and its steps are those of Table 2
  same_line : (o : Op) → WellFormedOp (length ls) o → published_line (row_of o ls) ≡ published_line (row_in_2014 n o ls)
  unfolding published_line row_in_2014
  same_line o f =
      let S = same_row o f in
      λ i. record {
        value = unlimited (row_of o ls).value;
        gradient = eight (λ a. unlimited ((row_of o ls).slope a));
        support = (row_of o ls).support;
        nonlinear = S.nonlinear i;
        spectrum = S.spectrum.unlimited i;
      }

  same-steps : (o : Op) → WellFormedOp (length ls) o → steps_of (row_of o ls) ≡ steps_of (row_in_2014 n o ls)
  unfolding steps_of row_in_2014
  same-steps o f =
      let r = row_of o ls in
      ap (λ (rs : List Range). produced r.value ++ (joined (eight (λ a. produced (r.slope a))) ++ rs)) (same_row o f).spectrum.produced

-- ---- the lines
bent-line : {n : ℕ} {ls : List Line} → AllLines (Bent n) ls → (k : ℕ) → k < length ls → Bent n (get_or ls k no_line)
bent-line none k i = absurd (omega arith)
bent-line (more b r) zero i = b
bent-line (more b r) (suc k) i = bent-line r k (N.le_of_suc-le-suc i)

of-all : {n : ℕ} {ls : List Line} → AllLines (Bent n) ls → (i : ℕ) → Earlier (length ls) i → Bent n (line ls i)
of-all r i e = bent-line r (i - 1) (omega arith)

pub bent-factor : {n i : ℕ} (r : Range) → i < n → Bent n (line_of (factor_row (all_of n) i r))
unfolding line_of factor_row
bent-factor {n} {i} r h = record { support = pow-lt {i = i} {j = n} h; nonlinear = refl }

pub bent-factors : (n i : ℕ) (rs : List Range) → i + length rs ≤ n → AllLines (Bent n) (published_factors (all_of n) i rs)
unfolding published_factors published_line factor_row
bent-factors n i [] h = none
bent-factors n i (r ∷ rs) h =
    more
    (record { support = pow-lt {i = i} {j = n} (omega arith); nonlinear = refl })
    (bent-factors n (suc i) rs (omega arith))

pub table-two : TableTwoRows
table-two n l m ls r = same_row n l m ls (of-all r)

-- ---- a run: by Table 2's rows it is the same
pub run-in-2014 : (n : ℕ) → 1 ≤ n → n ≤ 8 → (os : List Entry) (ls : List Line) → WellFormedOps (length ls) os → AllLines (Bent n) ls
    → published_ops row_of os ls ≡ published_ops (row_in_2014 n) os ls
unfolding published_ops
run-in-2014 n l m [] ls w r = refl
run-in-2014 n l m (o ∷ os) ls w r =
    let k = suc (length ls) in
    let bent = of-all r in
    let next = published_line (row_of o.op ls) in
    let steps = same-steps n l m ls bent o.op w.0 in
    let rest = run-in-2014 n l m os (ls ++ (next ∷ [])) (rw (length-append ls (next ∷ [])) w.1) (all_snoc next r (bent-published n l m ls bent o.op w.0))
    ∙ ap (λ (x : Line). published_ops (row_in_2014 n) os (ls ++ (x ∷ []))) (same_line n l m ls bent o.op w.0) in
    λ i. cond (inverts_zero o.op ls) (stopped (Divisor k)) (cond (all_within (steps i)) (rest i) (stopped (Overflow k)))
