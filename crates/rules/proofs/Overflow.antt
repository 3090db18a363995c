-- Refusal 12 is given exactly where, in the arithmetic without a limit, an end of a range that a step produces passes the limit:
-- `exact-overflow` by the test `all_within`, `passes-iff` by the ends themselves. Assumes nothing.
use mathlib.Core.Path.{◌≡◌, refl, sym, ap₂, ◌∙◌}
use mathlib.Core.Bool.{Bool, true, false, ◌&&◌, cond}
use mathlib.Core.List.{List, [], ◌∷◌, map}
use Prim.Native.Nat.{ℕ, zero, suc, ◌≤◌, ◌-◌}
use lib.Dec.{T, eqb}
use lib.IntN.{ℤ, pos, negsuc, nat_abs}
use lib.ListN.{get_or, length}
use Rattle.algebra.proofs.Int.{ints}
use Rattle.codelist.specs.declared.Op.{Op}
use Rattle.codelist.specs.declared.Op.TheVariants.{Add, Mul, AddC, MulC, Pow, Inv}
use Rattle.codelist.specs.Codelist.{WellFormedOp}
use Rattle.exact.specs.Units.{limit}
use Rattle.range.specs.declared.Range.{Range}
use Rattle.range.specs.Limit.{from_to, zero_range, one_range, is_valid}
use Rattle.range.specs.Arithmetic.{holds_zero}
use Rattle.range.specs.Sums.{at, valid_over}
use Rattle.range.proofs.Valid.{true-T, and_left, and_right, valid-of}
use Rattle.range.proofs.SumOver.{valid-over}
use Rattle.range.proofs.Ordered.{AllOrdered, none-ordered, append-ordered}
use Rattle.rules.specs.declared.Line.{Line}
use Rattle.rules.specs.Formula.{given, inverse, sticky, unlimited, produced}
use Rattle.rules.specs.Sets.{◌∪◌, only}
use Rattle.rules.specs.Table.{Row, line_of, reach, factor_row, square_spectrum, cross_spectrum, add_row, addc_row, mulc_row, mul_row, pow_row, inv_row}
use Rattle.rules.specs.Run.{no_line, line, row_of, inverts_zero, each_valid, within}
use Rattle.rules.specs.Overflow.{all_within, joined, steps_of, AllLines, none, more, ExactOverflow, ExactPassing}
use Rattle.rules.proofs.Formulas.{Proper, all_append, exact-formula, in_order}
use Rattle.rules.proofs.Passing.{passing-iff}

-- ---- rows
-- the factors, as `eight` takes them
abbrev pub all : List ℕ
all = 0 ∷ 1 ∷ 2 ∷ 3 ∷ 4 ∷ 5 ∷ 6 ∷ 7 ∷ []

pub record ProperRow (r : Row) : Type 0 where
  pub value : Proper r.value
  pub slope : (a : ℕ) → Proper (r.slope a)
  pub spectrum : Proper r.spectrum

exact-row : (r : Row) → ProperRow r → within (line_of r) ≡ all_within (steps_of r)
unfolding within line_of steps_of all_within
exact-row r p =
    ap₂ ◌&&◌ (exact-formula r.value p.value)
    (ap₂ ◌&&◌ (slopes all) (exact-formula r.spectrum p.spectrum) ∙ sym (all_append (joined (map (λ a. produced (r.slope a)) all)) _))
    ∙ sym (all_append (produced r.value) _)
  where
    slopes : (ks : List ℕ) → each_valid (map (λ a. sticky (r.slope a)) ks) ≡ all_within (joined (map (λ a. produced (r.slope a)) ks))
    slopes [] = refl
    slopes (a ∷ ks) = ap₂ ◌&&◌ (exact-formula (r.slope a) (p.slope a)) (slopes ks) ∙ sym (all_append (produced (r.slope a)) _)

ordered-row : (r : Row) → ProperRow r → AllOrdered (steps_of r)
unfolding steps_of
ordered-row r p =
    append-ordered (produced r.value) (in_order r.value p.value).steps
    (append-ordered (joined (map (λ a. produced (r.slope a)) all)) (slopes all) (in_order r.spectrum p.spectrum).steps)
  where
    slopes : (ks : List ℕ) → AllOrdered (joined (map (λ a. produced (r.slope a)) ks))
    slopes [] = none-ordered
    slopes (a ∷ ks) = append-ordered (produced (r.slope a)) (in_order (r.slope a) (p.slope a)).steps (slopes ks)

-- ---- lines within the limit
pub record ValidLine (x : Line) : Type 0 where
  pub value : T (is_valid x.value)
  pub slope : (a : ℕ) → T (is_valid (at x.gradient a))
  pub spectrum : T (is_valid x.spectrum)

zero-valid : T (is_valid zero_range)
unfolding is_valid
zero-valid = tt

each-valid : (g : List Range) → T (each_valid g) → (a : ℕ) → T (is_valid (at g a))
each-valid [] t a = zero-valid
each-valid (r ∷ g) t zero = and_left (is_valid r) (each_valid g) t
each-valid (r ∷ g) t (suc a) = each-valid g (and_right (is_valid r) (each_valid g) t) a

pub valid-line : (x : Line) → within x ≡ true → ValidLine x
unfolding within
valid-line x w =
    let slopes = each_valid x.gradient in
    let rest = slopes && is_valid x.spectrum in
    let t = and_right (is_valid x.value) rest (true-T w) in
    record {
      value = and_left (is_valid x.value) rest (true-T w);
      slope = each-valid x.gradient (and_left slopes (is_valid x.spectrum) t);
      spectrum = and_right slopes (is_valid x.spectrum) t;
    }

line-within : {ls : List Line} → AllLines (λ l. within l ≡ true) ls → (k : ℕ) → within (get_or ls k no_line) ≡ true
unfolding within no_line is_valid
line-within none k = refl
line-within (more p a) zero = p
line-within (more p a) (suc k) = line-within a k

valid-over-all : {x : Line} → ValidLine x → (s : ℕ) → T (valid_over s x.gradient)
valid-over-all {x} v s = valid-over s x.gradient (λ a l t. v.slope a)

constant-valid : (c : ℤ) → nat_abs c ≤ limit → T (is_valid (from_to c c))
constant-valid (pos n) h = valid-of (from_to (pos n) (pos n)) (record { above = omega ints; order = omega ints; below = omega ints })
constant-valid (negsuc n) h = valid-of (from_to (negsuc n) (negsuc n)) (record { above = omega ints; order = omega ints; below = omega ints })

-- ---- the table
-- of an extended spectrum and of that of a sum, from the spectra
pub extended-proper : {P : Type 0} → P → P × (P × T (is_valid zero_range))
extended-proper p = (p, (p, zero-valid))

sum-proper : {P Q : Type 0} → P → Q → (P × Q) × ((P × (P × T (is_valid zero_range))) × (Q × (Q × T (is_valid zero_range))))
sum-proper p q = ((p, q), (extended-proper p, extended-proper q))

module _ {x : Line} (v : ValidLine x) where
  square-proper : (s : ℕ) → Proper (square_spectrum s x.gradient)
  square-proper s = (v.slope (only s), valid-over-all v s)

  addc-proper : (c : ℤ) → nat_abs c ≤ limit → ProperRow (addc_row x c)
  unfolding addc_row
  addc-proper c h = record { value = (v.value, constant-valid c h); slope = v.slope; spectrum = v.spectrum }

  mulc-proper : (c : ℤ) → nat_abs c ≤ limit → ProperRow (mulc_row x c)
  unfolding mulc_row
  mulc-proper c h =
      let k = constant-valid c h in
      record { value = (k, v.value); slope = λ a. (k, v.slope a); spectrum = (k, v.spectrum) }

  pow-proper : (m : ℕ) → ProperRow (pow_row x m)
  unfolding pow_row
  pow-proper m = record {
    value = v.value;
    slope = λ a. (v.value, v.slope a);
    spectrum = (v.value, (square-proper _, (v.value, extended-proper v.spectrum)));
  }

  inv-proper : holds_zero x.value ≡ false → ProperRow (inv_row x)
  unfolding inv_row unlimited
  inv-proper n =
      let i : Proper (inverse (given x.value)) = (v.value, n) in
      record { value = i; slope = λ a. (i, v.slope a); spectrum = (i, ((i, square-proper _), extended-proper v.spectrum)) }

module _ {x y : Line} (v : ValidLine x) (w : ValidLine y) where
  add-proper : ProperRow (add_row x y)
  unfolding add_row
  add-proper = record {
    value = (v.value, w.value);
    slope = λ a. (v.slope a, w.slope a);
    spectrum = sum-proper v.spectrum w.spectrum;
  }

  cross-proper : (s : ℕ) → Proper (cross_spectrum s x.gradient y.gradient)
  cross-proper s =
      let t : T (valid_over s x.gradient) × T (valid_over s y.gradient) = (valid-over-all v s, valid-over-all w s) in
      ((v.slope (only s), w.slope (only s)), (t, t))

  mul-proper : ProperRow (mul_row x y)
  unfolding mul_row
  mul-proper = record {
    value = (v.value, w.value);
    slope = λ a. ((v.value, w.slope a), (w.value, v.slope a));
    spectrum = (
      ((w.value, v.spectrum), (v.value, w.spectrum), (v.slope (only (reach x)), w.slope (only (reach y)))),
      (cross-proper (reach x ∪ reach y), extended-proper (sum-proper (w.value, v.spectrum) (v.value, w.spectrum))),
    );
  }

-- a factor's row has no step
pub factor-within : (f i : ℕ) (r : Range) → T (is_valid r) → within (line_of (factor_row f i r)) ≡ true
unfolding factor_row steps_of produced all_within is_valid
factor-within f i r t = exact-row (factor_row f i r) (record { value = t; slope = λ a. go (eqb a i); spectrum = tt })
  where
    go : (c : Bool) → T (is_valid (cond c one_range zero_range))
    go true = tt
    go false = tt

-- ---- the statement on refusal 12
module _ (ls : List Line) (p : AllLines (λ l. within l ≡ true) ls) where
  operand : (i : ℕ) → ValidLine (line ls i)
  operand i = valid-line (line ls i) (line-within p (i - 1))

  pub proper : (o : Op) → WellFormedOp (length ls) o → inverts_zero o ls ≡ false → ProperRow (row_of o ls)
  unfolding row_of inverts_zero
  proper (Add i j) w z = add-proper (operand i) (operand j)
  proper (Mul i j) w z = mul-proper (operand i) (operand j)
  proper (AddC i c) w z = addc-proper (operand i) c w.1
  proper (MulC i c) w z = mulc-proper (operand i) c w.1
  proper (Pow i m) w z = pow-proper (operand i) m
  proper (Inv i) w z = inv-proper (operand i) z

pub exact-overflow : ExactOverflow
exact-overflow o ls w p z = exact-row (row_of o ls) (proper ls p o w z)

pub passes-iff : ExactPassing
passes-iff o ls w p z =
    let r = row_of o ls in
    rw (exact-overflow o ls w p z) (passing-iff (steps_of r) (ordered-row r (proper ls p o w z)))
