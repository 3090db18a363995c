-- Exact first derivatives over a set of factors, and the ranges that hold them: what Sq and Cross speak of. Assumes nothing.
use mathlib.Core.Path.{◌≡◌, ◌∙◌, ap}
use mathlib.Core.List.{List}
use Prim.Native.Nat.{ℕ, ◌<◌}
use lib.Dec.{T}
use Rattle.algebra.proofs.Restricted.{sum-restricted}
use Rattle.algebra.proofs.Vectors.{dot}
use Rattle.exact.proofs.Rat as Q
use Rattle.exact.proofs.Rat.{ℚ, ◌*ℚ◌, 0ℚ, ℚ-ring}
use Rattle.range.specs.declared.Range.{Range}
use Rattle.range.specs.Sums.{has, sum_over, at}
use Rattle.range.specs.Inclusion.{◌∈◌, Members}
use Rattle.rules.specs.Sets.{is_single, only}
use Rattle.rules.proofs.SetTests.{Only, single-only}
use Rattle.rules.proofs.InnerProducts.{inner}

-- those of the factors in s lie in the ranges of g, and the others are 0
pub record Gradient (s : ℕ) (g : List Range) (d : ℕ → ℚ) : Type 0 where
  pub small : s < 256
  pub members : Members s d g
  pub outside : (a : ℕ) → ¬ T (has s a) → d a ≡ 0ℚ

module _ {s : ℕ} {g : List Range} {d : ℕ → ℚ} (D : Gradient s g d) where
  pub inner-dot : (v : ℕ → ℚ) → inner s v d ≡ dot ℚ-ring 8 v d
  unfolding sum_over dot
  inner-dot v = sum-restricted ℚ-ring 8 (has s) (λ a l m. ap (λ x. v a *ℚ x) (D.outside a m) ∙ Q.*ℚ-zero (v a))

  -- over one factor
  pub the-only : T (is_single s) → Only s
  the-only = single-only s D.small

  pub only-∈ : Only s → d (only s) ∈ at g (only s)
  only-∈ o = D.members.each (only s) o.below o.member
