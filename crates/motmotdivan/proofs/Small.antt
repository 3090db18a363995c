-- The numbers of a result: twenty-four of them, within the limit, or a set of at most eight factors.
use Rattle.std.proofs.Common.{◌≡◌, ℕ, zero, suc, ◌^◌, ◌<◌, ◌≤◌, true, ◌&&◌, T, List, [], ◌∷◌, ◌++◌, length, get_or, ℤ, pos, nat_abs, sym, refl, ap, ◌∙◌, subst, arith, lit≤, pow_mono}
use mathlib.Core.Option.{Option}
use Rattle.codelist.specs.declared.Codelist.{Codelist}
use Rattle.exact.specs.Units.{limit}
use Rattle.range.specs.declared.Range.{Range}
use Rattle.range.specs.Limit.{is_valid}
use Rattle.range.specs.Sums.{at}
use Rattle.range.proofs.Valid.{T_true, true-T, and_left, and_right, and_both}
use Rattle.rules.specs.declared.Limits.{Limits}
use Rattle.rules.specs.declared.Line.{Line}
use Rattle.rules.specs.Table.{line_of}
use Rattle.rules.specs.Run.{each_valid, within, always_bent}
use Rattle.rules.specs.Rate.{last, limits_of, rated, pairs, rate_of}
use Rattle.rules.specs.Exact.{Point, Jet}
use Rattle.rules.proofs.Accepted.{Accepted, accepted, last_line}
use Rattle.rules.proofs.Along.{Kept}
use Rattle.rules.proofs.Enclosed.{value-valid, spectrum-valid}
use Rattle.rules.proofs.FirstBad.{all-good}
use Rattle.rules.proofs.Overflow.{factor-within}
use Rattle.rules.proofs.Passing.{good-iff}
use Rattle.rules.proofs.Sound.{full-within}
use Rattle.rules.proofs.Sparse.{Sparse, SparseLine, sparse-kept, factor-sparse, always-few}
use Rattle.motmotdivan.specs.Record.{ends_of, result_numbers}
use Rattle.motmotdivan.proofs.Clamped.{valid-ends}
use Rattle.motmotdivan.proofs.Results.{full-length, all-numbers}

-- ---- lists of small numbers
abbrev pub Small : List ℤ → Type 0
Small zs = (k : ℕ) → nat_abs (get_or zs k (pos 0)) ≤ limit

small-none : Small []
small-none k = lit≤ tt

small-more : (z : ℤ) (zs : List ℤ) → nat_abs z ≤ limit → Small zs → Small (z ∷ zs)
small-more z zs h s zero = h
small-more z zs h s (suc k) = s k

small-append : (xs ys : List ℤ) → Small xs → Small ys → Small (xs ++ ys)
small-append [] ys p q = q
small-append (x ∷ xs) ys p q = small-more x (xs ++ ys) (p 0) (small-append xs ys (λ k. p (suc k)) q)

small-ends : (rs : List Range) → T (each_valid rs) → Small (ends_of rs)
unfolding ends_of
small-ends [] t = small-none
small-ends (r ∷ rs) t =
    let v = valid-ends r (T_true (and_left (is_valid r) (each_valid rs) t)) in
    small-more r.low (r.high ∷ ends_of rs) v.0
    (small-more r.high (ends_of rs) v.1 (small-ends rs (and_right (is_valid r) (each_valid rs) t)))

-- ---- the last line of an accepted rating
abbrev Fine : (Point → Option Jet) → Line → Type 0
Fine o l = T (within l) × (length l.gradient ≡ 8)

fine-kept : Kept Fine
unfolding line_of
fine-kept = record { next = λ o f r t. (t, refl) }

slopes-valid : (m : Line) → T (within m) → T (each_valid m.gradient)
unfolding within
slopes-valid m t =
    and_left (each_valid m.gradient) (is_valid m.spectrum) (and_right (is_valid m.value) (each_valid m.gradient && is_valid m.spectrum) t)

-- what holds of a line's parts holds of the numbers
small_line : (n : ℕ) (m : Line) → T (within m) → m.support ≤ limit → m.nonlinear ≤ limit → Small (result_numbers (limits_of n m))
unfolding limits_of
small_line n m t s b =
    let value = ends_of (m.value ∷ []) in
    let slopes = ends_of m.gradient in
    let full = (limits_of n m).full in
    let w = true-T (full-within n m (T_true t)) in
    small-append (value ++ slopes ++ (pos m.support ∷ pos m.nonlinear ∷ [])) (ends_of (m.spectrum ∷ full ∷ []))
    (small-append (value ++ slopes) (pos m.support ∷ pos m.nonlinear ∷ [])
    (small-append value slopes (small-ends (m.value ∷ []) (and_both (is_valid m.value) true (value-valid m t) tt)) (small-ends m.gradient (slopes-valid m t)))
    (small-more (pos m.support) (pos m.nonlinear ∷ []) s (small-more (pos m.nonlinear) [] b small-none)))
    (small-ends (m.spectrum ∷ full ∷ [])
    (and_both (is_valid m.spectrum) (is_valid full && true) (spectrum-valid m t) (and_both (is_valid full) true w tt)))

module _ (c : Codelist) (xs : List ℤ) (l : Limits) (e : rate_of c xs ≡ rated l) where
  A : Accepted c xs l
  A = accepted c xs l e

  valid-at : (a : ℕ) → a < c.factors → T (is_valid (at (pairs xs) a))
  valid-at a h = true-T ((good-iff (at (pairs xs) a)).1 (all-good 0 (pairs xs) A.good a (omega (arith, A.count))))

  fine : T (within (last A.lines)) × (length (last A.lines).gradient ≡ 8)
  unfolding line_of
  fine = last_line Fine fine-kept A (λ a h. (true-T (factor-within (always_bent c) a (at (pairs xs) a) (valid-at a h)), refl))

  sparse : Sparse c.factors (last A.lines)
  sparse = last_line (SparseLine c.factors) (sparse-kept c.factors) A (λ a h. factor-sparse (at (pairs xs) a) (always-few c) h)

  -- a set of its factors is below 256
  few : (s : ℕ) → s < 2 ^ c.factors → s ≤ limit
  few s h = omega (arith, h, pow_mono {i = c.factors} {j = 8} A.codelist.factors.1)

  pub small_result : Small (result_numbers l)
  small_result =
      subst (λ (k : Limits). Small (result_numbers k)) (sym A.limits)
      (small_line c.factors (last A.lines) fine.0 (few _ sparse.few) (few _ sparse.bent))

  pub many-result : length (result_numbers l) ≡ 24
  unfolding limits_of
  many-result =
      let g : length l.gradient ≡ 8 = ap (λ (k : Limits). length k.gradient) A.limits ∙ fine.1 in
      ap length (sym (all-numbers l g)) ∙ full-length l g
