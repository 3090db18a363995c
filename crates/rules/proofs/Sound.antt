-- Limits that are given are sound: `sound`. Assumes nothing.
use mathlib.Core.Path.{◌≡◌, refl, sym, ◌∙◌, subst}
use mathlib.Core.Bool.{Bool, true, false, cond}
use mathlib.Core.List.{List}
use mathlib.Core.Option.{some}
use Prim.Native.Nat.{ℕ, ◌≤◌, ◌<◌}
use native.Mathlib.Omega.{arith}
use lib.Dec.{T}
use lib.IntN.{ℤ}
use Rattle.algebra.proofs.Form.{form, form-longer}
use Rattle.algebra.proofs.Restricted.{sum-restricted}
use Rattle.algebra.proofs.Sum.{sum-longer}
use Rattle.codelist.specs.declared.Codelist.{Codelist}
use Rattle.exact.proofs.Rat.{ℚ, 0ℚ, ℚ-ring}
use Rattle.range.specs.declared.Range.{Range}
use Rattle.range.specs.Limit.{is_valid}
use Rattle.range.specs.Sums.{has, sum_over, at}
use Rattle.range.proofs.Valid.{T_true, true-T}
use Rattle.range.proofs.Bounded.{ScaledEnds}
use Rattle.rules.specs.declared.Line.{Line}
use Rattle.rules.specs.declared.Limits.{Limits}
use Rattle.rules.specs.Sets.{all_of}
use Rattle.rules.specs.Table.{factor_row, line_of}
use Rattle.rules.specs.Run.{always_bent, within}
use Rattle.rules.specs.Rate.{last, limits_of, pairs}
use Rattle.rules.specs.Exact.{Point, factor_jet, premium_of}
use Rattle.rules.specs.Promises.{Inside, entry, quadratic, squares_in, squares_all, Between, HasValue, Sound, SoundRating}
use Rattle.rules.proofs.Members.{Below, beyond, below_power, below_all, below-all_of, in_all}
use Rattle.rules.proofs.InnerProducts.{weight}
use Rattle.rules.proofs.SpectrumSum.{extended-valid, extended-bounded}
use Rattle.rules.proofs.Independent.{Given, given-some}
use Rattle.rules.proofs.Sparse.{always-few}
use Rattle.rules.proofs.Enclosed.{spectrum-valid}
use Rattle.rules.proofs.Along.{along-each}
use Rattle.rules.proofs.Accepted.{Accepted, accepted, every-line, last_line}
use Rattle.rules.proofs.Whole.{Whole, WholeLine, whole-factor, whole-kept}

-- ════ from eight factors to n ════

module _ {n : ℕ} (few : n ≤ 8) (v : List ℤ) where
  weight-in : (s : ℕ) → Below n s → weight s (entry v) ≡ squares_in n s v
  unfolding sum_over squares_in
  weight-in s b = sum-longer ℚ-ring n 8 few (λ a l. no_member _ (has s a) (beyond b a l))
    where
      no_member : (x : ℚ) (c : Bool) → ¬ T c → cond c x 0ℚ ≡ 0ℚ
      no_member x true o = absurd (o tt)
      no_member x false o = refl

  weight-all : weight (all_of n) (entry v) ≡ squares_all n v
  unfolding squares_in squares_all
  weight-all =
      weight-in (all_of n) (below-all_of n)
      ∙ sum-restricted ℚ-ring n (has (all_of n)) (λ a l o. absurd (o (in_all n a l)))

  form-all : {H : ℕ → ℕ → ℚ} → ((a b : ℕ) → n ≤ a → (H a b ≡ 0ℚ) × (H b a ≡ 0ℚ)) → form ℚ-ring 8 H (entry v) ≡ quadratic n H v
  unfolding quadratic form
  form-all z = form-longer ℚ-ring n 8 (entry v) few z

between : {r : Range} {s q x y : ℚ} → ScaledEnds s x r → s ≡ q → x ≡ y → Between r q y
between w e f = record { low = rw (← e, ← f) w.low; high = rw (← e, ← f) w.high }

-- ════ the last line ════

module _ {c : Codelist} {xs : List ℤ} {l : Limits} (A : Accepted c xs l) (p : Point) (i : Inside c xs p) where
  n : ℕ
  n = c.factors

  result : Line
  result = last A.lines

  few : c.factors ≤ 8
  few = A.codelist.factors.1

  factor : (q : Point) (a : ℕ) → a < c.factors
      → WholeLine n p q (λ p. some (factor_jet p a)) (line_of (factor_row (always_bent c) a (at (pairs xs) a)))
  unfolding n
  factor q a k = given-some (whole-factor n few p q (always_bent c) a (at (pairs xs) a) (always-few c) k (i.each a k))

  -- the exact premium, and what holds of it and the last line beside another point
  premium : (q : Point) → Given (λ x. Whole n p q x (premium_of c q) result) (premium_of c p)
  unfolding n result
  premium q = last_line (WholeLine n p q) (whole-kept n few p q) A (factor q)

  whole : (q : Point) → Whole n p q (premium p).given (premium_of c q) result
  whole q =
      let e : (premium q).given ≡ (premium p).given = cc ((premium q).is, (premium p).is) in
      subst (λ x. Whole n p q x (premium_of c q) result) e (premium q).holds

  last-sound : Sound c (limits_of n result) p
  unfolding limits_of n
  last-sound = record {
    divisors =
        along-each (WholeLine n p p) HasValue p (λ o l g. subst HasValue (sym g.is) tt)
        (every-line (WholeLine n p p) (whole-kept n few p p) A (factor p));
    premium = (premium p).given;
    is-premium = (premium p).is;
    value = W.enclosed.value;
    gradient = λ a k. W.enclosed.first a (omega (arith, few));
    support = λ q g. let r = (whole q).independent.value g in (r.given, (r.is, r.holds.value));
    nonlinear = λ q g. let r = (whole q).independent.first g in (r.given, (r.is, λ a k. r.holds.first a));
    outside-support = W.supported.first;
    outside-nonlinear = vanishes;
    spectrum = λ v. between ((W.curved.curved (entry v)).scaled W.valid) (weight-in few v b small) (form-all few v past);
    full = λ v.
        let full-bounded = extended-bounded b (all_of n) (entry v) (below_all small) (W.curved.curved (entry v)) in
        between (full-bounded.scaled (extended-valid result.spectrum b (all_of n) W.valid)) (weight-all few v) (form-all few v past);
  }
    where
      W : Whole n p p (premium p).given (premium_of c p) result
      W = (premium p).holds

      b : ℕ
      b = result.nonlinear

      H : ℕ → ℕ → ℚ
      H = (premium p).given.second

      small : Below n b
      small = below_power n result.nonlinear W.sparse.bent

      vanishes : (a d : ℕ) → ¬ T (has b a) → (H a d ≡ 0ℚ) × (H d a ≡ 0ℚ)
      vanishes a d o = (W.supported.second a d o, W.supported.symmetric d a ∙ W.supported.second a d o)

      past : (a d : ℕ) → n ≤ a → (H a d ≡ 0ℚ) × (H d a ≡ 0ℚ)
      past a d k = vanishes a d (beyond small a k)

pub sound : SoundRating
unfolding n result
sound c xs l e p i = let A = accepted c xs l e in subst (λ t. Sound c t p) (sym A.limits) (last-sound A p i)

-- The full spectrum's step, the one that comes after the lines, passes no limit.
pub full-within : (n : ℕ) (l : Line) → within l ≡ true → is_valid (limits_of n l).full ≡ true
unfolding limits_of
full-within n l w = T_true (extended-valid l.spectrum l.nonlinear (all_of n) (spectrum-valid l (true-T w)))
