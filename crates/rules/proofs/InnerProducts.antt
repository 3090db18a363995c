-- Inner products over the factors of a set, and `weight s v`, the sum of v_a² over them, against which a line's spectrum bounds v'Hv.
-- Assumes nothing.
use mathlib.Core.Path.{◌≡◌}
use Prim.Native.Nat.{ℕ}
use lib.Dec.{T}
use Rattle.algebra.proofs.Ordered as Ord
use Rattle.algebra.proofs.Restricted.{restricted, dot-restricted, sum-single, sum-disjoint, sum-larger}
use Rattle.algebra.proofs.Vectors.{dot, cauchy-schwarz, double-upper, double-lower}
use Rattle.exact.proofs.Rat.{ℚ, ◌+ℚ◌, ◌-ℚ◌, ◌*ℚ◌, ◌≤ℚ◌, 0ℚ, ℚ-ring, ℚ-ordered}
use Rattle.range.specs.Sums.{has, sum_over}
use Rattle.range.specs.Inclusion.{num, sum_over_ℚ}
use Rattle.range.proofs.InclusionSums.{squares-nonneg}
use Rattle.rules.specs.Sets.{◌∪◌, apart, only}
use Rattle.rules.proofs.Members.{◌⊆◌, has-union}
use Rattle.rules.proofs.SetTests.{apart-disjoint, Only}

abbrev pub inner : ℕ → (ℕ → ℚ) → (ℕ → ℚ) → ℚ
inner s u v = sum_over_ℚ s (λ a. u a *ℚ v a)

abbrev pub weight : ℕ → (ℕ → ℚ) → ℚ
weight s v = inner s v v

pub weight-nonneg : (s : ℕ) (v : ℕ → ℚ) → 0ℚ ≤ℚ weight s v
weight-nonneg s v = squares-nonneg s v

-- ---- other sets
pub weight-larger : {s t : ℕ} (v : ℕ → ℚ) → s ⊆ t → weight s v ≤ℚ weight t v
unfolding sum_over
weight-larger {s} {t} v h = sum-larger ℚ-ordered 8 (has s) (has t) (λ a. Ord.square-nonneg ℚ-ordered (v a)) h.into

pub weight-apart : (s t : ℕ) (v : ℕ → ℚ) → T (apart s t) → weight (s ∪ t) v ≡ weight s v +ℚ weight t v
unfolding sum_over
weight-apart s t v h = sum-disjoint ℚ-ring 8 (has s) (has t) (has (s ∪ t)) (λ a. v a *ℚ v a) (has-union s t) (apart-disjoint s t h)

pub inner-only : {s : ℕ} (u v : ℕ → ℚ) → Only s → inner s u v ≡ u (only s) *ℚ v (only s)
unfolding sum_over
inner-only {s} u v o = sum-single ℚ-ring 8 (has s) (λ a. u a *ℚ v a) o.below o.member o.alone

-- ---- bounds
module _ (s : ℕ) where
  in_set : (ℕ → ℚ) → ℕ → ℚ
  in_set = restricted ℚ-ring (has s)

  inner-within : (u v : ℕ → ℚ) → dot ℚ-ring 8 (in_set u) (in_set v) ≡ inner s u v
  unfolding sum_over in_set
  inner-within = dot-restricted ℚ-ring 8 (has s)

  pub inner-square : (u v : ℕ → ℚ) → inner s u v *ℚ inner s u v ≤ℚ weight s u *ℚ weight s v
  inner-square u v = rw (inner-within u v, inner-within u u, inner-within v v) at (cauchy-schwarz ℚ-ordered 8 (in_set u) (in_set v))

  module _ (g h v : ℕ → ℚ) (β : ℚ) (p : 0ℚ ≤ℚ β) (q : weight s g *ℚ weight s h ≤ℚ β *ℚ β) where
    large : dot ℚ-ring 8 (in_set g) (in_set g) *ℚ dot ℚ-ring 8 (in_set h) (in_set h) ≤ℚ β *ℚ β
    large = rw (inner-within g g, inner-within h h) q

    pub inner-double-upper : num 2 *ℚ inner s v g *ℚ inner s v h ≤ℚ (inner s g h +ℚ β) *ℚ weight s v
    inner-double-upper =
        rw (inner-within v g, inner-within v h, inner-within g h, inner-within v v) at
        (double-upper ℚ-ordered 8 (in_set g) (in_set h) (in_set v) β p large)

    pub inner-double-lower : (inner s g h -ℚ β) *ℚ weight s v ≤ℚ num 2 *ℚ inner s v g *ℚ inner s v h
    inner-double-lower =
        rw (inner-within v g, inner-within v h, inner-within g h, inner-within v v) at
        (double-lower ℚ-ordered 8 (in_set g) (in_set h) (in_set v) β p large)
