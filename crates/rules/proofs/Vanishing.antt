-- At every point that has a premium its first derivatives are 0 outside P, and its second ones outside B: `vanishing`. No range and no limit
-- comes into it, so that it holds outside the ranges, too. Assumes nothing.
use mathlib.Core.Path.{◌∙◌}
use mathlib.Core.List.{List}
use mathlib.Core.Option.{Option, none, some}
use Prim.Native.Nat.{ℕ}
use lib.ListN.{length}
use Rattle.codelist.specs.declared.Op.{Op}
use Rattle.codelist.specs.declared.Op.TheVariants.{Add, Mul, AddC, MulC, Pow, Inv}
use Rattle.codelist.specs.Codelist.{Earlier, WellFormedOp}
use Rattle.exact.proofs.Rat.{ℚ, recip}
use Rattle.rules.specs.declared.Line.{Line}
use Rattle.rules.specs.Sets.{◌∪◌}
use Rattle.rules.specs.Table.{factor_row, add_row, addc_row, mulc_row, mul_row, pow_row, inv_row, line_of}
use Rattle.rules.specs.Run.{line, row_of, always_bent}
use Rattle.rules.specs.Rate.{last, limits_of}
use Rattle.rules.specs.Exact.{Point, Jet, add_jet, addc_jet, mulc_jet, mul_jet, pow_jet, using1, using2, invert, jet, exact_next}
use Rattle.rules.specs.Promises.{VanishingRating}
use Rattle.rules.proofs.Supported.{Supported, factor-supported, addc-supported, mulc-supported, pow-supported, inv-supported}
use Rattle.rules.proofs.Supported.{add-supported, mul-supported}
use Rattle.rules.proofs.Along.{Along, along-line, Kept}
use Rattle.rules.proofs.Accepted.{accepted, last_line}

-- ---- a value that there may be
data IfThere (P : Jet → Type 0) : Option Jet → Type 0 where
  absent : IfThere P none
  there : {x : Jet} → P x → IfThere P (some x)

holds : {P : Jet → Type 0} {x : Jet} → IfThere P (some x) → P x
holds (there h) = h

module _ {P Q : Jet → Type 0} where
  -- through a row that uses one line, or two
  if-there1 : {o : Option Jet} (f : Jet → Option Jet) → IfThere P o → ((x : Jet) → P x → IfThere Q (f x)) → IfThere Q (using1 f o)
  if-there1 f absent k = absent
  if-there1 f (there h) k = k _ h

  if-there2 : {S : Jet → Type 0} {o u : Option Jet} (f : Jet → Jet → Jet) → IfThere P o → IfThere Q u → ((x y : Jet) → P x → Q y → S (f x y))
      → IfThere S (using2 f o u)
  if-there2 f absent i k = absent
  if-there2 f (there h) absent k = absent
  if-there2 f (there h) (there i) k = there (k _ _ h i)

-- ---- an operation, over the lines before it
abbrev SupportedLine : Point → (Point → Option Jet) → Line → Type 0
SupportedLine p o l = IfThere (λ x. Supported x l.support l.nonlinear) (o p)

inverted : {x : Jet} {p b : ℕ} → Supported x p b → (r : Option ℚ) → IfThere (λ y. Supported y p (p ∪ b)) (invert x r)
inverted h none = absent
inverted h (some y) = there (inv-supported h y)

module _ {p : Point} {os : Point → List (Option Jet)} {ls : List Line} (r : Along (SupportedLine p) os ls) where
  supported-at : (i : ℕ) → Earlier (length ls) i → SupportedLine p (λ p. jet (os p) i) (line ls i)
  supported-at i e = along-line (SupportedLine p) i e r

  supported-next : (o : Op) → WellFormedOp (length ls) o → SupportedLine p (λ p. exact_next o (os p)) (line_of (row_of o ls))
  unfolding row_of exact_next line_of add_row addc_row mulc_row mul_row pow_row inv_row
  supported-next (Add i j) f = if-there2 add_jet (supported-at i f.0) (supported-at j f.1) (λ x y h k. add-supported h k)
  supported-next (Mul i j) f = if-there2 mul_jet (supported-at i f.0) (supported-at j f.1) (λ x y h k. mul-supported h k)
  supported-next (AddC i c) f = if-there1 (λ x. some (addc_jet x c)) (supported-at i f.0) (λ x h. there (addc-supported h c))
  supported-next (MulC i c) f = if-there1 (λ x. some (mulc_jet x c)) (supported-at i f.0) (λ x h. there (mulc-supported h c))
  supported-next (Pow i m) f = if-there1 (λ x. some (pow_jet x m)) (supported-at i f.0) (λ x h. there (pow-supported h m))
  supported-next (Inv i) f = if-there1 (λ x. invert x (recip x.value)) (supported-at i f) (λ x h. inverted h (recip x.value))

supported-kept : (p : Point) → Kept (SupportedLine p)
supported-kept p = record { next = λ o f r t. supported-next r o f }

pub vanishing : VanishingRating
unfolding limits_of factor_row line_of
vanishing c xs l e p premium is =
    let A = accepted c xs l e in
    let h = last_line (SupportedLine p) (supported-kept p) A (λ a k. there (factor-supported (always_bent c) p a)) in
    let s : Supported premium (last A.lines).support (last A.lines).nonlinear = holds (rw is at h) in
    rw A.limits
    (record {
      outside-support = s.first;
      outside-nonlinear = λ a b o. (s.second a b o, s.symmetric b a ∙ s.second a b o);
    })
