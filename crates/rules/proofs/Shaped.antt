-- What the limits are apart from any point: `shaped`. A line depends on some factor, and where it is bent in none its spectrum is zero. Each
-- row within the limit keeps this. Assumes nothing.
use mathlib.Core.Path.{◌≡◌, refl}
use mathlib.Core.List.{List}
use mathlib.Core.Option.{Option}
use Prim.Native.Nat.{ℕ}
use native.Mathlib.Omega.{arith}
use lib.Bits.{and_le_l, and_le_r, or_add_and}
use lib.Dec.{T}
use lib.IntN.{ℤ}
use lib.ListN.{length}
use Rattle.codelist.specs.declared.Op.{Op}
use Rattle.codelist.specs.declared.Op.TheVariants.{Add, Mul, AddC, MulC, Pow, Inv}
use Rattle.codelist.specs.declared.Codelist.{Codelist}
use Rattle.codelist.specs.Codelist.{Earlier, WellFormedOp}
use Rattle.range.specs.declared.Range.{Range}
use Rattle.range.specs.Limit.{from_to, zero_range, is_valid, both_valid, kept}
use Rattle.range.specs.Arithmetic.{sum_of}
use Rattle.range.specs.Sums.{has, at}
use Rattle.rules.specs.declared.Line.{Line}
use Rattle.rules.specs.declared.Limits.{Limits}
use Rattle.rules.specs.Sets.{◌∪◌, apart}
use Rattle.rules.specs.Table.{factor_row, add_row, addc_row, mulc_row, mul_row, pow_row, inv_row, line_of}
use Rattle.rules.specs.Run.{line, row_of, always_bent, within}
use Rattle.rules.specs.Rate.{last, limits_of, rated, pairs, rate_of}
use Rattle.rules.specs.Exact.{Point, Jet}
use Rattle.rules.specs.Promises.{ShapedRating}
use Rattle.rules.proofs.Members.{◌⊆◌, ⊆-union, left-in, out_none, in-single}
use Rattle.rules.proofs.Enclosed.{spectrum-valid}
use Rattle.rules.proofs.Along.{Along, along-line, Kept}
use Rattle.rules.proofs.Accepted.{accepted, last_line}
use Rattle.rules.proofs.Sparse.{product-zero, support-below, nonlinear-below, gradient-outside, gradient-beyond}

pub record Flat (l : Line) : Type 0 where
  pub factor : ℕ
  pub depends : T (has l.support factor)
  pub flat : l.nonlinear ≡ 0 → l.spectrum ≡ zero_range

-- ---- sets
module _ (s t : ℕ) (e : s ∪ t ≡ 0) where
  left-empty : s ≡ 0
  left-empty = omega (arith, or_add_and s t, and_le_r s t)

  right-empty : t ≡ 0
  right-empty = omega (arith, or_add_and s t, and_le_l s t)

-- ---- the table
-- a line that is bent in all that it depends on
bent-flat : (l : Line) (a : ℕ) → T (has l.support a) → l.support ⊆ l.nonlinear → Flat l
bent-flat l a t i = record { factor = a; depends = t; flat = λ n. absurd (out_none a (rw n at (i.into a t))) }

pub factor-flat : (f i : ℕ) (r : Range) → Flat (line_of (factor_row f i r))
unfolding factor_row line_of
factor-flat f i r = record { factor = i; depends = in-single i; flat = λ n. refl }

module _ {l : Line} (h : Flat l) where
  pub addc-flat : (c : ℤ) → Flat (line_of (addc_row l c))
  unfolding addc_row line_of
  addc-flat c = record { factor = h.factor; depends = h.depends; flat = h.flat }

  pub mulc-flat : (c : ℤ) → T (within (line_of (mulc_row l c))) → Flat (line_of (mulc_row l c))
  unfolding mulc_row line_of
  mulc-flat c t = record {
    factor = h.factor;
    depends = h.depends;
    flat = λ n. product-zero (from_to c c) (λ v. h.flat n) (spectrum-valid (line_of (mulc_row l c)) t);
  }

  pub pow-flat : (m : ℕ) → Flat (line_of (pow_row l m))
  unfolding pow_row line_of
  pow-flat m = bent-flat (line_of (pow_row l m)) h.factor h.depends (left-in l.support l.nonlinear)

  pub inv-flat : Flat (line_of (inv_row l))
  unfolding inv_row line_of
  inv-flat = bent-flat (line_of (inv_row l)) h.factor h.depends (left-in l.support l.nonlinear)

module _ {l m : Line} (h : Flat l) (k : Flat m) where
  both : T (has (l.support ∪ m.support) h.factor)
  both = (left-in l.support m.support).into h.factor h.depends

  pub add-flat : Flat (line_of (add_row l m))
  unfolding add_row line_of apart sum_of both_valid is_valid kept
  add-flat = record {
    factor = h.factor;
    depends = both;
    flat = λ n.
        let e = left-empty l.nonlinear m.nonlinear n in
        let f = right-empty l.nonlinear m.nonlinear n in
        rw (e, f, h.flat e, k.flat f);
  }

  pub mul-flat : Flat (line_of (mul_row l m))
  unfolding mul_row line_of
  mul-flat = bent-flat (line_of (mul_row l m)) h.factor both (⊆-union (left-in l.support l.nonlinear) (left-in m.support m.nonlinear))

-- ---- the limits
abbrev pub FlatLine : (Point → Option Jet) → Line → Type 0
FlatLine o l = Flat l

module _ {os : Point → List (Option Jet)} {ls : List Line} (r : Along FlatLine os ls) where
  flat-at : (i : ℕ) → Earlier (length ls) i → Flat (line ls i)
  flat-at i e = along-line FlatLine i e r

  flat-next : (o : Op) → WellFormedOp (length ls) o → T (within (line_of (row_of o ls))) → Flat (line_of (row_of o ls))
  unfolding row_of
  flat-next (Add i j) f t = add-flat (flat-at i f.0) (flat-at j f.1)
  flat-next (Mul i j) f t = mul-flat (flat-at i f.0) (flat-at j f.1)
  flat-next (AddC i c) f t = addc-flat (flat-at i f.0) c
  flat-next (MulC i c) f t = mulc-flat (flat-at i f.0) c t
  flat-next (Pow i m) f t = pow-flat (flat-at i f.0) m
  flat-next (Inv i) f t = inv-flat (flat-at i f)

pub flat-kept : Kept FlatLine
flat-kept = record { next = λ o f r t. flat-next r o f t }

module _ (c : Codelist) (xs : List ℤ) (l : Limits) (e : rate_of c xs ≡ rated l) where
  last_flat : Flat (last (accepted c xs l e).lines)
  last_flat = last_line FlatLine flat-kept (accepted c xs l e) (λ a k. factor-flat (always_bent c) a (at (pairs xs) a))

  spectrum-empty : l.nonlinear ≡ 0 → l.spectrum ≡ zero_range
  unfolding limits_of
  spectrum-empty = rw (accepted c xs l e).limits last_flat.flat

pub shaped : ShapedRating
shaped c xs l e = record {
  beyond-factors = gradient-beyond c xs l e;
  outside-support = gradient-outside c xs l e;
  empty-nonlinear = spectrum-empty c xs l e;
  support-factors = (support-below c xs l e).below;
  nonlinear-factors = (nonlinear-below c xs l e).below;
}
