-- Every line of an accepted rating is smooth along the straight way between two points inside: `smooth-premium`. Assumes nothing.
use mathlib.Core.Path.{◌≡◌, refl, ◌∙◌, ap, ap₂}
use mathlib.Core.List.{List}
use mathlib.Core.Option.{Option, none, some}
use Prim.Native.Nat.{ℕ}
use native.Mathlib.Omega.{arith}
use lib.Dec.{T}
use lib.IntN.{ℤ}
use lib.ListN.{length}
use Rattle.algebra.proofs.Moments.{Moment}
use Rattle.codelist.specs.declared.Codelist.{Codelist}
use Rattle.codelist.specs.declared.Op.{Op}
use Rattle.codelist.specs.declared.Op.TheVariants.{Add, Mul, AddC, MulC, Pow, Inv}
use Rattle.codelist.specs.Codelist.{Earlier, WellFormedOp}
use Rattle.exact.proofs.Rat.{ℚ, ◌*ℚ◌, 0ℚ, 1ℚ, recip, Recip, recip-law, ℚ-ordered}
use Rattle.range.specs.Sums.{at}
use Rattle.rules.specs.declared.Line.{Line}
use Rattle.rules.specs.declared.Limits.{Limits}
use Rattle.rules.specs.Table.{line_of}
use Rattle.rules.specs.Run.{line, row_of, always_bent, within}
use Rattle.rules.specs.Rate.{last, pairs}
use Rattle.rules.specs.Exact.{Point, coordinate, Jet, factor_jet, add_jet, addc_jet, mulc_jet, mul_jet, pow_jet, inv_jet, using1, using2}
use Rattle.rules.specs.Exact.{invert, jet, exact_next, premium_of}
use Rattle.rules.specs.Promises.{Inside}
use Rattle.rules.specs.Sisters.{difference}
use Rattle.rules.proofs.Enclosed.{divisor}
use Rattle.rules.proofs.Along.{Along, along-line, Kept}
use Rattle.rules.proofs.Accepted.{Accepted, last_line}
use Rattle.rules.proofs.Smooth.{Smooth, factor-smooth, addc-smooth, mulc-smooth, pow-smooth, inv-smooth, add-smooth, mul-smooth}
use Rattle.rules.proofs.Ways.{way, way_at, way-inside}

-- there is a value at each moment of the way w, which has the direction d, and the line is smooth
pub record SmoothLine (d : ℕ → ℚ) (w : ℚ → Point) (o : Point → Option Jet) (l : Line) : Type 0 where
  pub given : ℚ → Jet
  pub is : (τ : ℚ) → Moment ℚ-ordered τ → o (w τ) ≡ some (given τ)
  pub smooth : Smooth d given l

-- ---- an inverse that there is
abbrev or_zero : Option ℚ → ℚ
or_zero none = 0ℚ
or_zero (some y) = y

has-inverse : {x : ℚ} (r : Option ℚ) → Recip x r → ¬ (x ≡ 0ℚ) → x *ℚ or_zero r ≡ 1ℚ
has-inverse none e n = absurd (n e)
has-inverse (some y) e n = e

inverted : (x : Jet) (r : Option ℚ) → Recip x.value r → ¬ (x.value ≡ 0ℚ) → invert x r ≡ some (inv_jet x (or_zero r))
inverted x none e n = absurd (n e)
inverted x (some y) e n = refl

module _ (d : ℕ → ℚ) (w : ℚ → Point) where
  -- ---- an operation, over the lines before it
  module _ {os : Point → List (Option Jet)} {ls : List Line} (r : Along (SmoothLine d w) os ls) where
    smooth-at : (i : ℕ) → Earlier (length ls) i → SmoothLine d w (λ p. jet (os p) i) (line ls i)
    smooth-at i e = along-line (SmoothLine d w) i e r

    smooth-next : (o : Op) → WellFormedOp (length ls) o → T (within (line_of (row_of o ls)))
        → SmoothLine d w (λ p. exact_next o (os p)) (line_of (row_of o ls))
    unfolding row_of exact_next
    smooth-next (Add i j) f t =
        let g = smooth-at i f.0 in
        let h = smooth-at j f.1 in
        record { given = _; is = λ τ m. ap₂ (using2 add_jet) (g.is τ m) (h.is τ m); smooth = add-smooth g.smooth h.smooth t }
    smooth-next (Mul i j) f t =
        let g = smooth-at i f.0 in
        let h = smooth-at j f.1 in
        record { given = _; is = λ τ m. ap₂ (using2 mul_jet) (g.is τ m) (h.is τ m); smooth = mul-smooth g.smooth h.smooth t }
    smooth-next (AddC i c) f t =
        let g = smooth-at i f.0 in
        record { given = _; is = λ τ m. ap (using1 (λ x. some (addc_jet x c))) (g.is τ m); smooth = addc-smooth g.smooth c t }
    smooth-next (MulC i c) f t =
        let g = smooth-at i f.0 in
        record { given = _; is = λ τ m. ap (using1 (λ x. some (mulc_jet x c))) (g.is τ m); smooth = mulc-smooth g.smooth c t }
    smooth-next (Pow i k) f t =
        let g = smooth-at i f.0 in
        record { given = _; is = λ τ m. ap (using1 (λ x. some (pow_jet x k))) (g.is τ m); smooth = pow-smooth g.smooth k f.1.0 t }
    smooth-next (Inv i) f t =
        let g = smooth-at i f in
        let value : ℚ → ℚ = λ τ. (g.given τ).value in
        let nonzero : (τ : ℚ) → Moment ℚ-ordered τ → ¬ (value τ ≡ 0ℚ) = λ τ m. divisor (g.smooth.enclosed τ m) t in
        record {
          given = _;
          is = λ τ m.
              ap (using1 (λ x. invert x (recip x.value))) (g.is τ m)
              ∙ inverted (g.given τ) (recip (value τ)) (recip-law (value τ)) (nonzero τ m);
          smooth =
              inv-smooth g.smooth (λ τ. or_zero (recip (value τ))) t
              (λ τ m. has-inverse (recip (value τ)) (recip-law (value τ)) (nonzero τ m));
        }

  smooth-kept : Kept (SmoothLine d w)
  smooth-kept = record { next = λ o f r t. smooth-next r o f t }

pub smooth-premium : {c : Codelist} {xs : List ℤ} {l : Limits} (A : Accepted c xs l) (p q : Point) → Inside c xs p → Inside c xs q
    → SmoothLine (difference p q) (way c.factors p q) (premium_of c) (last A.lines)
smooth-premium {c} {xs} A p q i j =
    let n = c.factors in
    let d = difference p q in
    let w = way n p q in
    last_line (SmoothLine d w) (smooth-kept d w) A (λ a k. record {
      given = λ τ. factor_jet (w τ) a;
      is = λ τ m. refl;
      smooth =
          factor-smooth (always_bent c) w (coordinate p a) a (at (pairs xs) a) (omega (arith, A.codelist.factors.1))
          (λ τ m. way_at n p q τ a k)
          (λ τ m. (way-inside i j τ m).each a k);
    })
