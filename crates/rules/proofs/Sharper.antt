-- Request 4's rule is never wider than 01's: `never-wider`. 01's join, lifted, holds A and B; with Cross around it, it holds what lies between
-- −M and M added to their hull. Assumes nothing.
use mathlib.Core.Path.{◌≡◌, refl, sym, subst}
use mathlib.Core.Bool.{Bool, true, false, cond}
use mathlib.Core.List.{List}
use mathlib.Core.Logic.{⊎_elim}
use Prim.Native.Nat.{ℕ, ◌<◌}
use native.Mathlib.Decide.{ℕ_discrete}
use native.Mathlib.Omega.{arith}
use lib.Bits.{or_lt}
use lib.Dec.{T, eqb, eqb→eq}
use lib.ListN.{length}
use lib.Pow.{pow_mono}
use Rattle.codelist.specs.declared.Codelist.{Codelist}
use Rattle.codelist.specs.Codelist.{Earlier, Ratable}
use Rattle.range.specs.declared.Range.{Range}
use Rattle.range.specs.Limit.{zero_range, is_valid}
use Rattle.range.specs.Arithmetic.{product_of, hull_of}
use Rattle.range.specs.Sums.{has, at}
use Rattle.range.specs.Star.{is_half, star_of}
use Rattle.range.specs.Laws.{◌⊑◌}
use Rattle.range.proofs.Valid.{and_left, and_right, not-true, if-valid, if-passed}
use Rattle.range.proofs.Within.{⊑_refl}
use Rattle.range.proofs.Laws.{laws}
use Rattle.range.proofs.StarLaws.{are_half, Halves, halves, half-valid}
use Rattle.range.proofs.Sharper.{⊑_trans, hull-left-wider, hull-right-wider, hull-least, sum-wider, magnitude-nonneg, star-sharper}
use Rattle.rules.specs.declared.Line.{Line}
use Rattle.rules.specs.Formula.{Formula, given, ◌⊗◌, sticky}
use Rattle.rules.specs.Sets.{◌∪◌, apart, is_single, only}
use Rattle.rules.specs.Table.{reach, extended, spectrum_of_sum, product_spectrum, singles, star_spectrum}
use Rattle.rules.specs.Run.{line, through, always_bent, lines_of}
use Rattle.rules.specs.Sharper.{NeverWider}
use Rattle.rules.proofs.Members.{outside, left-in, right-in, in_either, out_none}
use Rattle.rules.proofs.SetTests.{Only, single-only, apart-disjoint, disjoint-apart, apart-comm}
use Rattle.rules.proofs.Along.{along-line}
use Rattle.rules.proofs.Accepted.{run-lines}
use Rattle.rules.proofs.Sparse.{SparseLine, reach_few, product-zero, always-few, factor-sparse, sparse-kept}
use Rattle.rules.proofs.Shaped.{FlatLine, factor-flat, flat-kept}
use Rattle.rules.proofs.Exchanged.{star-exchanged, product-exchanged}
use Rattle.rules.proofs.SharperCross.{around-cross}

-- what is known of a line
record Shape (l : Line) : Type 0 where
  small : reach l < 256
  zero : (a : ℕ) → a < 8 → ¬ T (has (reach l) a) → at l.gradient a ≡ zero_range
  flat : l.nonlinear ≡ 0 → l.spectrum ≡ zero_range

-- ---- lift and join hold their operands
lift-wider : (x : Formula) (b c : ℕ) → sticky x ⊑ sticky (extended x b c)
lift-wider x b c = go (eqb b c)
  where
    go : (d : Bool) → sticky x ⊑ cond d (sticky x) (hull_of (sticky x) zero_range)
    go true = ⊑_refl (sticky x)
    go false = hull-left-wider (sticky x) zero_range

none_apart : (t : ℕ) → apart 0 t ≡ false
unfolding apart
none_apart t = refl

-- what is known of two lines for which the rule gives an E
record Two (x y : Line) : Type 0 where
  first : Shape x
  second : Shape y
  one : Only (reach x)
  other : Only (reach y)
  apart : T (apart (reach x) (reach y))
  valid : T (is_valid (sticky (star_spectrum x y)))
  half : Halves (product_of y.value x.spectrum) (product_of x.value y.spectrum)
      (product_of (at x.gradient (only (reach x))) (at y.gradient (only (reach y))))

two : {x y : Line} → Shape x → Shape y → T (singles x y) → T (is_valid (sticky (star_spectrum x y))) → Two x y
unfolding star_of
two {x} {y} X Y t v =
    let u = and_right (is_single (reach x)) _ t in
    let r = and_right (is_single (reach y)) _ u in
    record {
      first = X;
      second = Y;
      one = single-only (reach x) X.small (and_left (is_single (reach x)) _ t);
      other = single-only (reach y) Y.small (and_left (is_single (reach y)) _ u);
      apart = and_left (apart (reach x) (reach y)) _ r;
      valid = v;
      half = halves _ _ _ (if-valid (are_half _ _ _) _ v).0;
    }

-- the same with the lines exchanged
exchanged : {x y : Line} → Two x y → Two y x
exchanged {x} {y} P = record {
  first = P.second;
  second = P.first;
  one = P.other;
  other = P.one;
  apart = subst T (apart-comm (reach x) (reach y)) P.apart;
  valid = subst (λ r. T (is_valid r)) (star-exchanged x y) P.valid;
  half = record {
    first = P.half.second;
    second = P.half.first;
    third =
        subst (λ r. T (is_half r)) (laws.symmetry.product (at x.gradient (only (reach x))) (at y.gradient (only (reach y))))
        P.half.third;
  };
}

module _ {x y : Line} (P : Two x y) where
  abbrev A : Formula
  A = given y.value ⊗ given x.spectrum

  abbrev B : Formula
  B = given x.value ⊗ given y.spectrum

  abbrev join : Formula
  join = spectrum_of_sum A x.nonlinear B y.nonlinear

  abbrev bent : ℕ
  bent = x.nonlinear ∪ y.nonlinear

  abbrev s : ℕ
  s = reach x ∪ reach y

  abbrev lifted : Range
  lifted = sticky (extended join bent s)

  disjoint : (a : ℕ) → T (has (reach x) a) → ¬ T (has (reach y) a)
  disjoint = apart-disjoint (reach x) (reach y) P.apart

  -- what holds of both, holds of their hull; and the rule is inside
  from-lifted : (sticky A ⊑ lifted) × (sticky B ⊑ lifted) → sticky (star_spectrum x y) ⊑ sticky (product_spectrum x y)
  from-lifted (l, r) =
      let X = P.first in
      let Y = P.second in
      let C = product_of (at x.gradient (only (reach x))) (at y.gradient (only (reach y))) in
      ⊑_trans (star-sharper (sticky A) (sticky B) C P.valid)
      (laws.isotonicity.sum
      (around-cross P.one P.other disjoint x.gradient y.gradient X.zero Y.zero (or_lt 8 (reach x) (reach y) X.small Y.small)
      C refl (half-valid C P.half.third) (magnitude-nonneg C P.half.third))
      (hull-least l r))

  -- x is not bent: A is zero, and so in what is lifted to y's factor and more
  flat-left : x.nonlinear ≡ 0 → (sticky A ⊑ lifted) × (sticky B ⊑ lifted)
  flat-left e =
      let zero : sticky A ≡ zero_range = product-zero y.value (λ t. P.first.flat e) (half-valid (sticky A) P.half.first) in
      let left : zero_range ⊑ sticky (extended A x.nonlinear bent) =
      subst (λ r. r ⊑ sticky (extended A x.nonlinear bent)) zero (lift-wider A x.nonlinear bent) in
      let right = ⊑_trans (sum-wider (sticky B)) (laws.isotonicity.sum left (lift-wider B y.nonlinear bent)) in
      let summed : sticky B ⊑ sticky join = rw (apart_none e) right in
      let held : zero_range ⊑ lifted = rw smaller (hull-right-wider (sticky join) zero_range) in
      (subst (λ r. r ⊑ lifted) (sym zero) held, ⊑_trans summed (lift-wider join bent s))
    where
      apart_none : x.nonlinear ≡ 0 → apart x.nonlinear y.nonlinear ≡ false
      apart_none e = rw e (none_apart y.nonlinear)

      -- the factor of x is not in the bent set
      smaller : eqb bent s ≡ false
      smaller = not-true (λ t.
          let a = only (reach x) in
          let k = (left-in (reach x) (reach y)).into a P.one.member in
          let m : T (has bent a) = subst (λ c. T (has c a)) (sym (eqb→eq bent s t)) k in
          ⊎_elim
          (λ k. out_none a (subst (λ c. T (has c a)) e k))
          (λ k. disjoint a P.one.member ((right-in y.support y.nonlinear).into a k))
          (in_either x.nonlinear y.nonlinear a m))

  both-bent : T (apart x.nonlinear y.nonlinear) → (sticky A ⊑ lifted) × (sticky B ⊑ lifted)
  both-bent t =
      let J = hull_of (sticky A) (sticky B) in
      let e : sticky join ≡ J = if-passed (apart x.nonlinear y.nonlinear) J _ t in
      let up = lift-wider join bent s in (
        ⊑_trans (subst (λ r. sticky A ⊑ r) (sym e) (hull-left-wider (sticky A) (sticky B))) up,
        ⊑_trans (subst (λ r. sticky B ⊑ r) (sym e) (hull-right-wider (sticky A) (sticky B))) up,
      )

-- ---- two lines
flat-sharper : {x y : Line} → Two x y → x.nonlinear ≡ 0 → sticky (star_spectrum x y) ⊑ sticky (product_spectrum x y)
flat-sharper P e = from-lifted P (flat-left P e)

sharper : {x y : Line} → Shape x → Shape y → T (singles x y) → T (is_valid (sticky (star_spectrum x y)))
    → sticky (star_spectrum x y) ⊑ sticky (product_spectrum x y)
sharper {x} {y} X Y t v = go (ℕ_discrete x.nonlinear 0) (ℕ_discrete y.nonlinear 0)
  where
    P : Two x y
    P = two X Y t v

    go : Dec (x.nonlinear ≡ 0) → Dec (y.nonlinear ≡ 0) → sticky (star_spectrum x y) ⊑ sticky (product_spectrum x y)
    go (yes e) d = flat-sharper P e
    go (no f) (yes e) = rw (star-exchanged x y, product-exchanged x y) (flat-sharper (exchanged P) e)
    go (no f) (no g) =
        from-lifted P (both-bent P (disjoint-apart x.nonlinear y.nonlinear f g
        (λ a m k. disjoint P a ((right-in x.support x.nonlinear).into a m) ((right-in y.support y.nonlinear).into a k))))

-- ---- a run
module _ (c : Codelist) (rs : List Range) (ls : List Line) (w : Ratable c) (n : length rs ≡ c.factors) (e : lines_of c rs ≡ through ls) where
  shape : (i : ℕ) → Earlier (length ls) i → Shape (line ls i)
  shape i k =
      let S = along-line (SparseLine c.factors) i k
      (run-lines (SparseLine c.factors) (sparse-kept c.factors) rs w n e (λ a h. factor-sparse (at rs a) (always-few c) h)) in
      record {
        small = omega (arith, reach_few S, pow_mono {i = c.factors} {j = 8} w.factors.1);
        zero = λ a h o. S.zero a h (outside (left-in (line ls i).support (line ls i).nonlinear) a o);
        flat = (along-line FlatLine i k (run-lines FlatLine flat-kept rs w n e (λ a h. factor-flat (always_bent c) a (at rs a)))).flat;
      }

-- THE NEW E IS NEVER WIDER
pub never-wider : NeverWider
never-wider c rs ls w n e i j k l t v = sharper (shape c rs ls w n e i k) (shape c rs ls w n e j l) t v
