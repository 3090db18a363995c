-- `inclusion`: each operation's result holds the exact results. The laws of `Bounded`, at weight 1, give those of sums, multiples, products
-- and hulls. Assumes nothing.
use Rattle.range.specs.Inclusion.{Inclusion}
use Rattle.range.proofs.Holds.{zero-∈, one-∈}
use Rattle.range.proofs.Bounded.{weighted, member, one-nonneg, sum-bounded, neg-bounded}
use Rattle.range.proofs.Bounded.{times-bounded, product-bounded, hull-left-bounded, hull-right-bounded}
use Rattle.range.proofs.InclusionInverse.{inverse-∈, divisor-nonzero}
use Rattle.range.proofs.InclusionPower.{power-∈}
use Rattle.range.proofs.InclusionSums.{products-∈, squares-∈, root_ends, root-∈}
use Rattle.range.proofs.StarInclusion.{star-∈}

pub inclusion : Inclusion
inclusion =
    record {
      zero = zero-∈;
      one = one-∈;
      sum = λ p q. member (sum-bounded (weighted p) (weighted q));
      negation = λ p. member (neg-bounded (weighted p));
      multiple = λ k p. member (times-bounded k (weighted p));
      product = λ p q. member (product-bounded one-nonneg p (weighted q));
      inverse = inverse-∈;
      divisor = divisor-nonzero;
      power = power-∈;
      hull-left = λ {a} b p. member (hull-left-bounded a b one-nonneg (weighted p));
      hull-right = λ a {b} p. member (hull-right-bounded a b one-nonneg (weighted p));
      products = products-∈;
      squares = squares-∈;
      root_ends = root_ends;
      root = root-∈;
      star = λ p q r t u v. let w = star-∈ p q r t u v in (w.low, w.high);
    }
