-- All that a line promises of its exact value and derivatives, and that each operation keeps it. Assumes nothing.
use mathlib.Core.Path.{◌≡◌}
use mathlib.Core.List.{List}
use mathlib.Core.Option.{Option, none, some}
use Prim.Native.Nat.{ℕ, ◌^◌, ◌≤◌, ◌<◌}
use native.Mathlib.Omega.{arith}
use lib.Dec.{T}
use lib.IntN.{ℤ}
use lib.ListN.{length}
use lib.Pow.{pow_mono}
use Rattle.codelist.specs.declared.Op.{Op}
use Rattle.codelist.specs.declared.Op.TheVariants.{Add, Mul, AddC, MulC, Pow, Inv}
use Rattle.codelist.specs.Codelist.{Earlier, WellFormedOp}
use Rattle.exact.proofs.Rat.{ℚ, ◌*ℚ◌, 1ℚ, recip, Recip, recip-law}
use Rattle.range.specs.declared.Range.{Range}
use Rattle.range.specs.Limit.{is_valid}
use Rattle.range.proofs.Holds.{InRange}
use Rattle.rules.specs.declared.Line.{Line}
use Rattle.rules.specs.Table.{factor_row, add_row, addc_row, mulc_row, mul_row, pow_row, inv_row, line_of}
use Rattle.rules.specs.Run.{line, row_of, within}
use Rattle.rules.specs.Exact.{Point, coordinate, Jet, factor_jet, add_jet, addc_jet, mulc_jet, mul_jet, pow_jet, inv_jet, using1, using2}
use Rattle.rules.specs.Exact.{invert, jet, exact_next}
use Rattle.rules.proofs.Supported.{Supported, factor-supported, addc-supported, mulc-supported, pow-supported, inv-supported}
use Rattle.rules.proofs.Supported.{add-supported, mul-supported}
use Rattle.rules.proofs.Independent.{Given, given1, given2, given-some, Independent, factor-independent, addc-independent}
use Rattle.rules.proofs.Independent.{mulc-independent, pow-independent, inv-independent, add-independent, mul-independent}
use Rattle.rules.proofs.Enclosed.{Enclosed, value-∈, first-∈, spectrum-valid, divisor, factor-enclosed, addc-enclosed, mulc-enclosed}
use Rattle.rules.proofs.Enclosed.{pow-enclosed, inv-enclosed, add-enclosed, mul-enclosed}
use Rattle.rules.proofs.Sparse.{Sparse, reach_few, factor-sparse, addc-sparse, mulc-sparse, pow-sparse, inv-sparse, add-sparse, mul-sparse}
use Rattle.rules.proofs.Shaped.{Flat, factor-flat, addc-flat, mulc-flat, pow-flat, inv-flat, add-flat, mul-flat}
use Rattle.rules.proofs.SpectrumRows.{Curved, Known, factor-curved, addc-curved, mulc-curved, pow-curved, inv-curved, add-curved}
use Rattle.rules.proofs.SpectrumRows.{mul-curved}
use Rattle.rules.proofs.Along.{Along, along-line, Kept}

-- a line of a codelist with n factors: x at the point p, u at q
pub record Whole (n : ℕ) (p q : Point) (x : Jet) (u : Option Jet) (l : Line) : Type 0 where
  pub enclosed : Enclosed x l
  pub supported : Supported x l.support l.nonlinear
  pub independent : Independent p q x u l
  pub curved : Curved l x
  pub valid : T (is_valid l.spectrum)
  pub sparse : Sparse n l
  pub flat : Flat l

-- there is a value at p, of which all that holds
abbrev pub WholeLine : ℕ → Point → Point → (Point → Option Jet) → Line → Type 0
WholeLine n p q o l = Given (λ x. Whole n p q x (o q) l) (o p)

module _ (n : ℕ) (most : n ≤ 8) (p q : Point) where
  pub whole-factor : (f i : ℕ) (r : Range) → f < 2 ^ n → i < n → InRange (coordinate p i) r
      → Whole n p q (factor_jet p i) (some (factor_jet q i)) (line_of (factor_row f i r))
  unfolding factor_row line_of is_valid
  whole-factor f i r s h b = record {
    enclosed = factor-enclosed f p i r b;
    supported = factor-supported f p i;
    independent = factor-independent p q f i r;
    curved = factor-curved f p i r;
    valid = tt;
    sparse = factor-sparse r s h;
    flat = factor-flat f i r;
  }

  known : {x : Jet} {u : Option Jet} {l : Line} → Whole n p q x u l → Known l x
  known W = record {
    value = value-∈ W.enclosed;
    gradient = first-∈ W.enclosed;
    outside-support = W.supported.first;
    flat = W.flat.flat;
    small = omega (arith, reach_few W.sparse, pow_mono {i = n} {j = 8} most);
  }

  -- ---- the table
  module _ {x : Jet} {u : Option Jet} {l : Line} (W : Whole n p q x u l) where
    whole-addc : (c : ℤ) → T (within (line_of (addc_row l c)))
        → Whole n p q (addc_jet x c) (using1 (λ x. some (addc_jet x c)) u) (line_of (addc_row l c))
    unfolding addc_row line_of
    whole-addc c t = record {
      enclosed = addc-enclosed W.enclosed c t;
      supported = addc-supported W.supported c;
      independent = addc-independent p q W.independent c;
      curved = addc-curved c W.curved;
      valid = W.valid;
      sparse = addc-sparse W.sparse c t;
      flat = addc-flat W.flat c;
    }

    whole-mulc : (c : ℤ) → T (within (line_of (mulc_row l c)))
        → Whole n p q (mulc_jet x c) (using1 (λ x. some (mulc_jet x c)) u) (line_of (mulc_row l c))
    unfolding mulc_row line_of
    whole-mulc c t = record {
      enclosed = mulc-enclosed W.enclosed c t;
      supported = mulc-supported W.supported c;
      independent = mulc-independent p q W.independent c;
      curved = mulc-curved c W.curved;
      valid = spectrum-valid (line_of (mulc_row l c)) t;
      sparse = mulc-sparse W.sparse c t;
      flat = mulc-flat W.flat c t;
    }

    whole-pow : (m : ℕ) → 2 ≤ m → T (within (line_of (pow_row l m)))
        → Whole n p q (pow_jet x m) (using1 (λ x. some (pow_jet x m)) u) (line_of (pow_row l m))
    unfolding pow_row line_of
    whole-pow m two t = record {
      enclosed = pow-enclosed W.enclosed m t;
      supported = pow-supported W.supported m;
      independent = pow-independent p q W.independent m;
      curved = pow-curved (known W) W.curved m two;
      valid = spectrum-valid (line_of (pow_row l m)) t;
      sparse = pow-sparse W.sparse m t;
      flat = pow-flat W.flat m;
    }

    -- y is 1/x, which there is
    module _ (t : T (within (line_of (inv_row l)))) where
      whole-inv : (y : ℚ) → x.value *ℚ y ≡ 1ℚ
          → Whole n p q (inv_jet x y) (using1 (λ x. invert x (recip x.value)) u) (line_of (inv_row l))
      unfolding inv_row line_of inv_jet
      whole-inv y e = record {
        enclosed = inv-enclosed W.enclosed t y e;
        supported = inv-supported W.supported y;
        independent = inv-independent p q W.independent y e;
        curved = inv-curved (known W) W.curved y (value-∈ (inv-enclosed W.enclosed t y e));
        valid = spectrum-valid (line_of (inv_row l)) t;
        sparse = inv-sparse W.sparse t;
        flat = inv-flat W.flat;
      }

      inverted : (r : Option ℚ) → Recip x.value r
          → Given (λ y. Whole n p q y (using1 (λ x. invert x (recip x.value)) u) (line_of (inv_row l))) (invert x r)
      inverted none e = absurd (divisor W.enclosed t e)
      inverted (some y) e = given-some (whole-inv y e)

  module _ {x y : Jet} {u v : Option Jet} {l m : Line} (W : Whole n p q x u l) (X : Whole n p q y v m) where
    whole-add : T (within (line_of (add_row l m))) → Whole n p q (add_jet x y) (using2 add_jet u v) (line_of (add_row l m))
    unfolding add_row line_of
    whole-add t = record {
      enclosed = add-enclosed W.enclosed X.enclosed t;
      supported = add-supported W.supported X.supported;
      independent = add-independent p q W.independent X.independent;
      curved = add-curved W.curved X.curved;
      valid = spectrum-valid (line_of (add_row l m)) t;
      sparse = add-sparse W.sparse X.sparse t;
      flat = add-flat W.flat X.flat;
    }

    whole-mul : T (within (line_of (mul_row l m))) → Whole n p q (mul_jet x y) (using2 mul_jet u v) (line_of (mul_row l m))
    unfolding mul_row line_of
    whole-mul t = record {
      enclosed = mul-enclosed W.enclosed X.enclosed t;
      supported = mul-supported W.supported X.supported;
      independent = mul-independent p q W.independent X.independent;
      curved = mul-curved (known W) (known X) W.curved X.curved;
      valid = spectrum-valid (line_of (mul_row l m)) t;
      sparse = mul-sparse W.sparse X.sparse t;
      flat = mul-flat W.flat X.flat;
    }

  -- ---- an operation, over the lines before it
  module _ {os : Point → List (Option Jet)} {ls : List Line} (r : Along (WholeLine n p q) os ls) where
    whole-at : (i : ℕ) → Earlier (length ls) i → WholeLine n p q (λ p. jet (os p) i) (line ls i)
    whole-at i e = along-line (WholeLine n p q) i e r

    whole-next : (o : Op) → WellFormedOp (length ls) o → T (within (line_of (row_of o ls)))
        → WholeLine n p q (λ p. exact_next o (os p)) (line_of (row_of o ls))
    unfolding row_of exact_next
    whole-next (Add i j) f t = given2 add_jet (whole-at i f.0) (whole-at j f.1) (λ x y h k. whole-add h k t)
    whole-next (Mul i j) f t = given2 mul_jet (whole-at i f.0) (whole-at j f.1) (λ x y h k. whole-mul h k t)
    whole-next (AddC i c) f t = given1 _ (whole-at i f.0) (λ x h. given-some (whole-addc h c t))
    whole-next (MulC i c) f t = given1 _ (whole-at i f.0) (λ x h. given-some (whole-mulc h c t))
    whole-next (Pow i m) f t = given1 _ (whole-at i f.0) (λ x h. given-some (whole-pow h m f.1.0 t))
    whole-next (Inv i) f t = given1 _ (whole-at i f) (λ x h. inverted h t (recip x.value) (recip-law x.value))

  pub whole-kept : Kept (WholeLine n p q)
  whole-kept = record { next = λ o f r t. whole-next r o f t }
