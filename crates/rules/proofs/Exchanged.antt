-- The E of a product of two lines, by either rule, with the lines exchanged. Assumes nothing.
use mathlib.Core.Path.{◌≡◌, ap, ◌∙◌}
use mathlib.Core.Bool.{cond}
use mathlib.Core.List.{List}
use Prim.Native.Nat.{ℕ}
use lib.Bits.{or_comm}
use lib.Dec.{eqb}
use Rattle.range.specs.declared.Range.{Range}
use Rattle.range.specs.Limit.{zero_range}
use Rattle.range.specs.Arithmetic.{sum_of, product_of, hull_of}
use Rattle.range.specs.Sums.{at}
use Rattle.range.specs.Star.{star_of}
use Rattle.range.specs.Laws.{Symmetry}
use Rattle.range.proofs.Laws.{laws}
use Rattle.rules.specs.declared.Line.{Line}
use Rattle.rules.specs.Formula.{Formula, given, ◌⊗◌, sticky}
use Rattle.rules.specs.Sets.{◌∪◌, only}
use Rattle.rules.specs.Table.{reach, extended, spectrum_of_sum, cross_spectrum, product_spectrum, star_spectrum}
use Rattle.rules.proofs.SetTests.{apart-comm}

abbrev S : Symmetry
S = laws.symmetry

pub union_comm : (s t : ℕ) → s ∪ t ≡ t ∪ s
union_comm = or_comm

pub sum-exchanged : (e f : Formula) (b c : ℕ) → sticky (spectrum_of_sum e b f c) ≡ sticky (spectrum_of_sum f c e b)
sum-exchanged e f b c =
    rw (
      apart-comm b c,
      S.hull (sticky e) (sticky f),
      union_comm b c,
      S.sum (sticky (extended e b (c ∪ b))) (sticky (extended f c (c ∪ b))),
    )

cross-exchanged : (s : ℕ) (g h : List Range) → sticky (cross_spectrum s g h) ≡ sticky (cross_spectrum s h g)
cross-exchanged s g h = simp (S.product (at g (only s)) (at h (only s)), S.products s g h, S.root s g h)

module _ (x y : Line) where
  pub product-exchanged : sticky (product_spectrum x y) ≡ sticky (product_spectrum y x)
  product-exchanged =
      let s = union_comm (reach x) (reach y) in
      let b = union_comm x.nonlinear y.nonlinear in
      let cross = cross-exchanged (reach x ∪ reach y) x.gradient y.gradient
      ∙ ap (λ s. sticky (cross_spectrum s y.gradient x.gradient)) s in
      let join = sum-exchanged (given y.value ⊗ given x.spectrum) (given x.value ⊗ given y.spectrum) x.nonlinear y.nonlinear in
      λ i. sum_of (cross i) (cond (eqb (b i) (s i)) (join i) (hull_of (join i) zero_range))

  pub star-exchanged : sticky (star_spectrum x y) ≡ sticky (star_spectrum y x)
  star-exchanged =
      let p = at x.gradient (only (reach x)) in
      let q = at y.gradient (only (reach y)) in
      S.star (product_of y.value x.spectrum) (product_of x.value y.spectrum) (product_of p q)
      ∙ ap (λ c. star_of (product_of x.value y.spectrum) (product_of y.value x.spectrum) c) (S.product p q)
