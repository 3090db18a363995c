-- A line depends on none but the n factors of its codelist, and its gradient is zero outside its support. Each row within the limit keeps
-- this. Assumes nothing.
use mathlib.Core.Path.{◌≡◌, refl, ◌∙◌}
use mathlib.Core.Bool.{Bool, true, false, cond}
use mathlib.Core.List.{List}
use mathlib.Core.Option.{Option}
use Prim.Native.Nat.{ℕ, ◌^◌, ◌≤◌, ◌<◌}
use lib.Bits.{or_lt}
use lib.Dec.{T, eqb, eqb→eq}
use lib.IntN.{ℤ, pos, *ℤ-zero}
use lib.ListN.{length}
use lib.Pow.{pow-lt, pow_pos, pow_mono}
use Rattle.codelist.specs.declared.Op.{Op}
use Rattle.codelist.specs.declared.Op.TheVariants.{Add, Mul, AddC, MulC, Pow, Inv}
use Rattle.codelist.specs.declared.Codelist.{Codelist}
use Rattle.codelist.specs.declared.Year.{Year}
use Rattle.codelist.specs.declared.Year.TheVariants.{Y2016, Y2014}
use Rattle.codelist.specs.Codelist.{Earlier, WellFormedOp}
use Rattle.exact.specs.Div.{floor_div, ceil_div}
use Rattle.range.specs.declared.Range.{Range}
use Rattle.range.specs.Limit.{from_to, zero_range, one_range}
use Rattle.range.specs.Arithmetic.{ends_sum, sum_of, ends_neg, neg_of, ends_times, times_of, ends_product, product_of}
use Rattle.range.specs.Sums.{has, at}
use Rattle.range.proofs.Holds.{IfValid, sticky₁-holds, sticky₂-holds}
use Rattle.rules.specs.declared.Line.{Line}
use Rattle.rules.specs.declared.Limits.{Limits}
use Rattle.rules.specs.Formula.{sticky}
use Rattle.rules.specs.Sets.{all_of, ◌∪◌}
use native.Mathlib.Nat as N
use native.Mathlib.Omega.{arith}
use Rattle.rules.specs.Table.{Row, reach, factor_row, add_row, addc_row, mulc_row, mul_row, pow_row, inv_row, line_of}
use Rattle.rules.specs.Run.{line, row_of, bent_in, always_bent, within}
use Rattle.rules.specs.Rate.{last, limits_of, rated, pairs, rate_of}
use Rattle.rules.specs.Exact.{Point, Jet}
use Rattle.rules.proofs.Members.{outside, left-in, right-in, in-single, Below, beyond, below_power}
use Rattle.rules.proofs.Enclosed.{at-eight, gradient-valid}
use Rattle.rules.proofs.Along.{Along, along-line, Kept}
use Rattle.rules.proofs.Accepted.{accepted, last_line}

pub record Sparse (n : ℕ) (l : Line) : Type 0 where
  pub few : l.support < 2 ^ n
  pub bent : l.nonlinear < 2 ^ n
  pub zero : (a : ℕ) → a < 8 → ¬ T (has l.support a) → at l.gradient a ≡ zero_range

-- ---- operations on zero
abbrev Zero : Range → Type 0
Zero r = r ≡ zero_range

sum-zero : {a b : Range} → IfValid Zero a → IfValid Zero b → IfValid Zero (sum_of a b)
unfolding sum_of
sum-zero {a} {b} h k = sticky₂-holds Zero ends_sum a b (λ t u. rw (h t, k u))

neg-zero : {a : Range} → IfValid Zero a → IfValid Zero (neg_of a)
unfolding neg_of
neg-zero {a} h = sticky₁-holds Zero ends_neg a (λ t. rw (h t))

times_zero : (k : ℕ) {a : Range} → IfValid Zero a → IfValid Zero (times_of k a)
unfolding times_of
times_zero k {a} h = sticky₁-holds Zero (ends_times k) a (λ t. rw (h t, *ℤ-zero (pos k)))

pub product-zero : (a : Range) {b : Range} → IfValid Zero b → IfValid Zero (product_of a b)
unfolding product_of ends_product floor_div ceil_div
product-zero a {b} h = sticky₂-holds Zero ends_product a b (λ t u. rw (h u, *ℤ-zero a.low, *ℤ-zero a.high))

-- ---- the table
sparse : {n : ℕ} (r : Row) → T (within (line_of r)) → r.support < 2 ^ n → r.nonlinear < 2 ^ n
    → ((a : ℕ) → a < 8 → ¬ T (has r.support a) → IfValid Zero (sticky (r.slope a))) → Sparse n (line_of r)
unfolding line_of
sparse r t f b z = record {
  few = f;
  bent = b;
  zero = λ a k o.
      let e : at (line_of r).gradient a ≡ sticky (r.slope a) = at-eight (λ a. sticky (r.slope a)) a k in
      e ∙ z a k o (rw e at (gradient-valid (line_of r) t a));
}

pub factor-sparse : {n f i : ℕ} (r : Range) → f < 2 ^ n → i < n → Sparse n (line_of (factor_row f i r))
unfolding factor_row line_of
factor-sparse {n} {f} {i} r b h = record {
  few = pow-lt {i = i} {j = n} h;
  bent = b;
  zero = λ a k o. at-eight (λ a. cond (eqb a i) one_range zero_range) a k ∙ other (eqb a i) (λ t. o (rw (eqb→eq a i t) (in-single i)));
}
  where
    other : (b : Bool) → ¬ T b → cond b one_range zero_range ≡ zero_range
    other true o = absurd (o tt)
    other false o = refl

module _ {n : ℕ} {l : Line} (h : Sparse n l) where
  zero-slope : (a : ℕ) → a < 8 → ¬ T (has l.support a) → IfValid Zero (at l.gradient a)
  zero-slope a k o t = h.zero a k o

  pub reach_few : reach l < 2 ^ n
  reach_few = or_lt n l.support l.nonlinear h.few h.bent

  pub addc-sparse : (c : ℤ) → T (within (line_of (addc_row l c))) → Sparse n (line_of (addc_row l c))
  unfolding addc_row
  addc-sparse c t = sparse (addc_row l c) t h.few h.bent zero-slope

  pub mulc-sparse : (c : ℤ) → T (within (line_of (mulc_row l c))) → Sparse n (line_of (mulc_row l c))
  unfolding mulc_row
  mulc-sparse c t = sparse (mulc_row l c) t h.few h.bent (λ a k o. product-zero (from_to c c) (zero-slope a k o))

  pub pow-sparse : (m : ℕ) → T (within (line_of (pow_row l m))) → Sparse n (line_of (pow_row l m))
  unfolding pow_row
  pow-sparse m t = sparse (pow_row l m) t h.few reach_few (λ a k o. times_zero m (product-zero _ (zero-slope a k o)))

  pub inv-sparse : T (within (line_of (inv_row l))) → Sparse n (line_of (inv_row l))
  unfolding inv_row
  inv-sparse t = sparse (inv_row l) t h.few reach_few (λ a k o. neg-zero (product-zero _ (zero-slope a k o)))

module _ {n : ℕ} {l m : Line} (h : Sparse n l) (k : Sparse n m) where
  few-both : (l.support ∪ m.support) < 2 ^ n
  few-both = or_lt n l.support m.support h.few k.few

  left-slope : (a : ℕ) → a < 8 → ¬ T (has (l.support ∪ m.support) a) → IfValid Zero (at l.gradient a)
  left-slope a i o = zero-slope h a i (outside (left-in l.support m.support) a o)

  right-slope : (a : ℕ) → a < 8 → ¬ T (has (l.support ∪ m.support) a) → IfValid Zero (at m.gradient a)
  right-slope a i o = zero-slope k a i (outside (right-in l.support m.support) a o)

  pub add-sparse : T (within (line_of (add_row l m))) → Sparse n (line_of (add_row l m))
  unfolding add_row
  add-sparse t = sparse (add_row l m) t few-both (or_lt n l.nonlinear m.nonlinear h.bent k.bent) (λ a i o. sum-zero (left-slope a i o) (right-slope a i o))

  pub mul-sparse : T (within (line_of (mul_row l m))) → Sparse n (line_of (mul_row l m))
  unfolding mul_row
  mul-sparse t =
      sparse (mul_row l m) t few-both (or_lt n (reach l) (reach m) (reach_few h) (reach_few k))
      (λ a i o. sum-zero (product-zero l.value (right-slope a i o)) (product-zero m.value (left-slope a i o)))

-- ---- the limits
all-few : {m n : ℕ} → m ≤ n → all_of m < 2 ^ n
all-few {m} {n} h = omega (arith, pow_pos m, pow_mono {i = m} {j = n} h)

pub always-few : (c : Codelist) → always_bent c < 2 ^ c.factors
unfolding bent_in
always-few c = few c.year
  where
    few : (y : Year) → bent_in y c.factors < 2 ^ c.factors
    few Y2016 = pow_pos c.factors
    -- over whatever bounds such a set, so that another one is refused where the lines' own sets are spoken of, and not here
    few Y2014 = search (all-few, pow_pos, N.le_refl, N.sub-le)

abbrev pub SparseLine : ℕ → (Point → Option Jet) → Line → Type 0
SparseLine n o l = Sparse n l

module _ {n : ℕ} {os : Point → List (Option Jet)} {ls : List Line} (r : Along (SparseLine n) os ls) where
  sparse-at : (i : ℕ) → Earlier (length ls) i → Sparse n (line ls i)
  sparse-at i e = along-line (SparseLine n) i e r

  sparse-next : (o : Op) → WellFormedOp (length ls) o → T (within (line_of (row_of o ls))) → Sparse n (line_of (row_of o ls))
  unfolding row_of
  sparse-next (Add i j) f t = add-sparse (sparse-at i f.0) (sparse-at j f.1) t
  sparse-next (Mul i j) f t = mul-sparse (sparse-at i f.0) (sparse-at j f.1) t
  sparse-next (AddC i c) f t = addc-sparse (sparse-at i f.0) c t
  sparse-next (MulC i c) f t = mulc-sparse (sparse-at i f.0) c t
  sparse-next (Pow i m) f t = pow-sparse (sparse-at i f.0) m t
  sparse-next (Inv i) f t = inv-sparse (sparse-at i f) t

pub sparse-kept : (n : ℕ) → Kept (SparseLine n)
sparse-kept n = record { next = λ o f r t. sparse-next r o f t }

module _ (c : Codelist) (xs : List ℤ) (l : Limits) (e : rate_of c xs ≡ rated l) where
  -- of the last line, at any point
  last-sparse : Sparse c.factors (last (accepted c xs l e).lines)
  last-sparse =
      last_line (SparseLine c.factors) (sparse-kept c.factors) (accepted c xs l e)
      (λ a k. factor-sparse (at (pairs xs) a) (always-few c) k)

  pub support-below : Below c.factors l.support
  unfolding limits_of
  support-below = rw (accepted c xs l e).limits (below_power c.factors _ last-sparse.few)

  pub nonlinear-below : Below c.factors l.nonlinear
  unfolding limits_of
  nonlinear-below = rw (accepted c xs l e).limits (below_power c.factors _ last-sparse.bent)

  -- the gradient is zero outside the support, and so is each pair beyond the last factor
  pub gradient-outside : (a : ℕ) → a < 8 → ¬ T (has l.support a) → at l.gradient a ≡ zero_range
  unfolding limits_of
  gradient-outside = rw (accepted c xs l e).limits last-sparse.zero

  pub gradient-beyond : (a : ℕ) → c.factors ≤ a → a < 8 → at l.gradient a ≡ zero_range
  unfolding limits_of
  gradient-beyond a h k = gradient-outside a k (beyond support-below a h)
