-- Laws of the operations that later proofs cite. Proved in proofs/Laws.antt: `laws`.
use Rattle.std.specs.Prelude.{◌≡◌, true, List, ◌⊎◌, ℕ, ◌<◌, T, ◌≤ℤ◌}
use Rattle.range.specs.declared.Range.{Range}
use Rattle.range.specs.Limit.{over, is_valid}
use Rattle.range.specs.Arithmetic.{sum_of, neg_of, times_of, product_of, inverse_of, hull_of}
use Rattle.range.specs.Power.{pow_of}
use Rattle.range.specs.Sums.{has, at, products_of, squares_of, root_of}
use Rattle.range.specs.Star.{star_of}

-- A valid range, or the one invalid range that operations give.
abbrev pub Settled : Range → Type 0
Settled r = (is_valid r ≡ true) ⊎ (r ≡ over)

-- Narrower: where b is valid, a is too and lies inside b.
infix 4 ◌⊑◌
pub record ValidInside (a b : Range) : Type 0 where
  pub valid : T (is_valid a)
  pub low : b.low ≤ℤ a.low
  pub high : a.high ≤ℤ b.high

pub record ◌⊑◌ (a b : Range) : Type 0 where
  pub inside : T (is_valid b) → ValidInside a b

-- Lists of ranges of which those of the factors in s are.
pub record Narrower (s : ℕ) (f g : List Range) : Type 0 where
  pub each : (a : ℕ) → a < 8 → T (has s a) → at f a ⊑ at g a

-- Every result is valid or `over`.
pub record Closure : Type 0 where
  pub sum : (a b : Range) → Settled (sum_of a b)
  pub negation : (a : Range) → Settled (neg_of a)
  pub multiple : (k : ℕ) (a : Range) → Settled (times_of k a)
  pub product : (a b : Range) → Settled (product_of a b)
  pub inverse : (a : Range) → Settled (inverse_of a)
  pub power : (a : Range) (e : ℕ) → Settled (pow_of a e)
  pub hull : (a b : Range) → Settled (hull_of a b)
  pub products : (s : ℕ) (g h : List Range) → Settled (products_of s g h)
  pub squares : (s : ℕ) (g : List Range) → Settled (squares_of s g)
  pub root : (s : ℕ) (g h : List Range) → Settled (root_of s g h)
  pub star : (a b c : Range) → Settled (star_of a b c)

-- The order of the operands does not matter.
pub record Symmetry : Type 0 where
  pub sum : (a b : Range) → sum_of a b ≡ sum_of b a
  pub product : (a b : Range) → product_of a b ≡ product_of b a
  pub hull : (a b : Range) → hull_of a b ≡ hull_of b a
  pub products : (s : ℕ) (g h : List Range) → products_of s g h ≡ products_of s h g
  pub root : (s : ℕ) (g h : List Range) → root_of s g h ≡ root_of s h g
  pub star : (a b c : Range) → star_of a b c ≡ star_of b a c

-- Inclusion isotonicity: valid narrower operands give a valid narrower result.
pub record Isotonicity : Type 0 where
  pub sum : {a b c d : Range} → a ⊑ c → b ⊑ d → sum_of a b ⊑ sum_of c d
  pub negation : {a c : Range} → a ⊑ c → neg_of a ⊑ neg_of c
  pub multiple : {a c : Range} (k : ℕ) → a ⊑ c → times_of k a ⊑ times_of k c
  pub product : {a b c d : Range} → a ⊑ c → b ⊑ d → product_of a b ⊑ product_of c d
  pub inverse : {a c : Range} → a ⊑ c → inverse_of a ⊑ inverse_of c
  pub power : {a c : Range} (e : ℕ) → a ⊑ c → pow_of a e ⊑ pow_of c e
  pub hull : {a b c d : Range} → a ⊑ c → b ⊑ d → hull_of a b ⊑ hull_of c d
  pub products : {s : ℕ} {f g h k : List Range} → Narrower s f h → Narrower s g k → products_of s f g ⊑ products_of s h k
  pub squares : {s : ℕ} {f g : List Range} → Narrower s f g → squares_of s f ⊑ squares_of s g
  pub root : {s : ℕ} {f g h k : List Range} → Narrower s f h → Narrower s g k → root_of s f g ⊑ root_of s h k
  pub star : {a b c d e f : Range} → a ⊑ d → b ⊑ e → c ⊑ f → star_of a b c ⊑ star_of d e f

pub record Laws : Type 0 where
  pub closure : Closure
  pub symmetry : Symmetry
  pub isotonicity : Isotonicity
