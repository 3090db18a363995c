-- Formulas beside the arithmetic without a limit: what the engine works out is the value without a limit where no end on the way passes it,
-- and `over` elsewhere (`limited`); the ends of each range on the way are in order (`in_order`). By induction over formulas. Assumes nothing.
use mathlib.Core.Path.{◌≡◌, refl, sym, ap, ap₂, ◌∙◌}
use mathlib.Core.Bool.{Bool, true, false, ◌&&◌, cond, and-true, and_assoc}
use mathlib.Core.List.{List, [], ◌∷◌, ◌++◌}
use Prim.Native.Nat.{ℕ, zero, suc}
use lib.Dec.{T}
use lib.IntN.{ℤ, pos, neg_ℤ}
use lib.Signed.{le_z}
use Rattle.range.specs.declared.Range.{Range}
use Rattle.range.specs.Limit.{from_to, most, is_valid}
use Rattle.range.specs.Arithmetic.{greater_of, ends_times, holds_zero}
use Rattle.range.specs.Power.{U, is_even, ups_within, ups, ups_of}
use Rattle.range.specs.Sums.{valid_over}
use Rattle.range.proofs.Valid.{false-T, ends-of}
use Rattle.range.proofs.Ordered.{Ordered, sum-ordered, neg-ordered, times-ordered, product-ordered, inverse-ordered, hull-ordered}
use Rattle.range.proofs.Ordered.{power-ordered, products-ordered, squares-ordered, root-ordered, AllOrdered, none-ordered, append-ordered}
use Rattle.range.proofs.Ordered.{one-ordered, ups_of-ordered}
use Rattle.range.proofs.Unlimited.{Limited, limited-valid, ups_test, given-limited, sum-limited, neg-limited, times-limited, product-limited}
use Rattle.range.proofs.Unlimited.{inverse-limited, hull-limited, power-limited, products-limited, squares-limited, root-limited, star-limited}
use Rattle.range.proofs.StarLaws.{star-ordered}
use Rattle.rules.specs.Formula.{Formula, given, ◌⊕◌, ◌⊗◌, negated, times, power, inverse, hull, sum_of_products, sum_of_squares}
use Rattle.rules.specs.Formula.{root_of_squares, star, choose, doubled, sticky, unlimited, produced}
use Rattle.rules.specs.Overflow.{within_limit, all_within}

-- ---- tests of produced ranges
pub all_append : (rs ss : List Range) → all_within (rs ++ ss) ≡ (all_within rs && all_within ss)
unfolding all_within
all_append [] ss = refl
all_append (r ∷ rs) ss =
    ap (λ (b : Bool). within_limit r && b) (all_append rs ss) ∙ sym (and_assoc (within_limit r) (all_within rs) (all_within ss))

steps₁ : (rs : List Range) (r : Range) → all_within (rs ++ (r ∷ [])) ≡ (all_within rs && within_limit r)
unfolding all_within
steps₁ rs r = all_append rs (r ∷ []) ∙ ap (λ (b : Bool). all_within rs && b) (and-true (within_limit r))

steps₂ : (rs ss : List Range) (r : Range) → all_within (rs ++ (ss ++ (r ∷ []))) ≡ (all_within rs && (all_within ss && within_limit r))
steps₂ rs ss r = all_append rs (ss ++ (r ∷ [])) ∙ ap (λ (b : Bool). all_within rs && b) (steps₁ ss r)

-- the U values of a power
all-ups : (m : ℤ) (e : ℕ) → all_within (ups m e) ≡ ups_within m e
unfolding ups ups_within all_within
all-ups m zero = refl
all-ups m (suc e) = steps₁ (ups m e) (from_to (pos 0) (U m (suc e))) ∙ ap (λ (b : Bool). b && le_z (U m (suc e)) most) (all-ups m e)

all_either : (c : Bool) (rs ss : List Range) {p q : Bool} → all_within rs ≡ p → all_within ss ≡ q → all_within (cond c rs ss) ≡ cond c p q
all_either true rs ss p q = p
all_either false rs ss p q = q

all-ups_of : (r : Range) (e : ℕ) → all_within (ups_of r e) ≡ ups_test r e
unfolding ups_of
all-ups_of r e =
    let below = all-ups (neg_ℤ r.low) e in
    let above = all-ups r.high e in
    all_either (le_z (pos 0) r.low) _ _ above
    (all_either (le_z r.high (pos 0)) _ _ below
    (all_either (is_even e) _ _ (all-ups (greater_of (neg_ℤ r.low) r.high) e)
    (all_append (ups (neg_ℤ r.low) e) (ups r.high e) ∙ ap₂ ◌&&◌ below above)))

-- ---- formulas
-- what the rows' formulas have over lines within the limit: valid ranges, and no inverse of one that holds 0
abbrev pub Proper : Formula → Type 0
Proper (given r) = T (is_valid r)
Proper (x ⊕ y) = Proper x × Proper y
Proper (x ⊗ y) = Proper x × Proper y
Proper (negated x) = Proper x
Proper (times k x) = Proper x
Proper (power x e) = Proper x
Proper (inverse x) = Proper x × (holds_zero (unlimited x) ≡ false)
Proper (hull x y) = Proper x × Proper y
Proper (sum_of_products s g h) = T (valid_over s g) × T (valid_over s h)
Proper (sum_of_squares s g) = T (valid_over s g)
Proper (root_of_squares s g h) = T (valid_over s g) × T (valid_over s h)
Proper (star x y z) = Proper x × Proper y × Proper z
Proper (choose c x y) = Proper x × Proper y

pub limited : (f : Formula) → Proper f → Limited (sticky f) (unlimited f) (all_within (produced f))
unfolding unlimited produced all_within
limited (given r) p = given-limited p
limited (x ⊕ y) (p, q) = rw (steps₂ (produced x) (produced y)) (sum-limited (limited x p) (limited y q))
limited (x ⊗ y) (p, q) = rw (steps₂ (produced x) (produced y)) (product-limited (limited x p) (limited y q))
limited (negated x) p = rw (steps₁ (produced x)) (neg-limited (limited x p))
limited (times k x) p = rw (steps₁ (produced x)) (times-limited (limited x p) k)
limited (power x e) p = rw (steps₂ (produced x) (ups_of (unlimited x) e), all-ups_of (unlimited x) e) (power-limited e (limited x p))
limited (inverse x) (p, n) = rw (steps₁ (produced x)) (inverse-limited (limited x p) n)
limited (hull x y) (p, q) = rw (steps₂ (produced x) (produced y)) (hull-limited (limited x p) (limited y q))
limited (sum_of_products s g h) (p, q) = rw and-true (products-limited s g h p q)
limited (sum_of_squares s g) p = rw and-true (squares-limited s g p)
limited (root_of_squares s g h) (p, q) = rw and-true (root-limited s g h p q)
limited (star x y z) (p, q, r) =
    let X = doubled (produced x) (unlimited x) in
    let Y = doubled (produced y) (unlimited y) in
    let Z = doubled (produced z) (unlimited z) in
    rw (
      all_append X (Y ++ (Z ++ (unlimited (star x y z) ∷ []))),
      steps₂ Y Z,
      steps₁ (produced x) (ends_times 2 (unlimited x)),
      steps₁ (produced y) (ends_times 2 (unlimited y)),
      steps₁ (produced z) (ends_times 2 (unlimited z)),
    )
    (star-limited (limited x p) (limited y q) (limited z r))
limited (choose true x y) (p, q) = limited x p
limited (choose false x y) (p, q) = limited y q

pub exact-formula : (f : Formula) → Proper f → is_valid (sticky f) ≡ all_within (produced f)
exact-formula f p = limited-valid (limited f p)

-- ---- order
-- a value and the ranges that the steps to it produce
pub record InOrder (u : Range) (rs : List Range) : Type 0 where
  pub value : Ordered u
  pub steps : AllOrdered rs

start : {u : Range} → Ordered u → InOrder u (u ∷ [])
start {u} o = record { value = o; steps = one-ordered u o }

step₁ : {u v : Range} {rs : List Range} → InOrder u rs → Ordered v → InOrder v (rs ++ (v ∷ []))
step₁ {v = v} {rs = rs} i o = record { value = o; steps = append-ordered rs i.steps (one-ordered v o) }

step₂ : {u v w : Range} {rs ss : List Range} → InOrder u rs → InOrder v ss → Ordered w → InOrder w (rs ++ (ss ++ (w ∷ [])))
step₂ {rs = rs} i j o = record { value = o; steps = append-ordered rs i.steps (step₁ j o).steps }

twice : {u : Range} {rs : List Range} → InOrder u rs → InOrder (ends_times 2 u) (doubled rs u)
twice {u} i = step₁ i (times-ordered 2 u i.value)

pub in_order : (f : Formula) → Proper f → InOrder (unlimited f) (produced f)
unfolding unlimited produced
in_order (given r) p = record { value = (ends-of r p).order; steps = none-ordered }
in_order (x ⊕ y) (p, q) = let i = in_order x p in let j = in_order y q in step₂ i j (sum-ordered _ _ i.value j.value)
in_order (x ⊗ y) (p, q) = step₂ (in_order x p) (in_order y q) (product-ordered _ _)
in_order (negated x) p = let i = in_order x p in step₁ i (neg-ordered _ i.value)
in_order (times k x) p = let i = in_order x p in step₁ i (times-ordered k _ i.value)
in_order (power x e) p =
    let i = in_order x p in
    let o = power-ordered (unlimited x) i.value e in
    step₂ i (record { value = o; steps = ups_of-ordered (unlimited x) i.value e }) o
in_order (inverse x) (p, n) = let i = in_order x p in step₁ i (inverse-ordered _ (false-T n) i.value)
in_order (hull x y) (p, q) = let i = in_order x p in let j = in_order y q in step₂ i j (hull-ordered _ _ i.value j.value)
in_order (sum_of_products s g h) p = start (products-ordered s g h)
in_order (sum_of_squares s g) p = start (squares-ordered s g)
in_order (root_of_squares s g h) p = start (root-ordered s g h)
in_order (star x y z) (p, q, r) =
    let i = in_order x p in
    let j = in_order y q in
    let k = in_order z r in
    let o = star-ordered (unlimited x) (unlimited y) (unlimited z) i.value j.value in
    record {
      value = o;
      steps = append-ordered (doubled (produced x) (unlimited x)) (twice i).steps (step₂ (twice j) (twice k) o).steps;
    }
in_order (choose true x y) (p, q) = in_order x p
in_order (choose false x y) (p, q) = in_order y q
