-- What each operation means (sources 000, Table 1, and 001, Fact 1): its result holds the exact results of the numbers that its operands
-- hold. Proved in proofs/Inclusion.antt: `inclusion`.
use Rattle.std.specs.Prelude.{◌≡◌, List, ℕ, ◌<◌, T, pos, neg_ℤ}
use Rattle.exact.specs.Rat.{ℚ, from_ℤ, ◌+ℚ◌, ◌*ℚ◌, ◌^ℚ◌, neg_ℚ, ◌≤ℚ◌, 0ℚ, 1ℚ}
use Rattle.exact.specs.Units.{units, In}
use Rattle.range.specs.declared.Range.{Range}
use Rattle.range.specs.Limit.{zero_range, one_range, is_valid}
use Rattle.range.specs.Arithmetic.{sum_of, neg_of, times_of, product_of, inverse_of, hull_of}
use Rattle.range.specs.Power.{pow_of}
use Rattle.range.specs.Sums.{has, sum_over, at, products_of, squares_of, root_of}
use Rattle.range.specs.Star.{star_of}

-- x lies between the ends of r if r is valid (01, "The exact side": "An end of u units is compared as u/10,000"). Of `over` it says
-- nothing, so that what follows needs no condition on a result.
infix 4 ◌∈◌
pub record ◌∈◌ (x : ℚ) (r : Range) : Type 0 where
  pub between : T (is_valid r) → In r.low r.high x

-- Numbers of which those of the factors in s lie in their ranges.
pub record Members (s : ℕ) (x : ℕ → ℚ) (g : List Range) : Type 0 where
  pub each : (a : ℕ) → a < 8 → T (has s a) → x a ∈ at g a

abbrev pub num : ℕ → ℚ
num k = from_ℤ (pos k)

-- the sum of numbers over the factors in s
abbrev pub sum_over_ℚ : ℕ → (ℕ → ℚ) → ℚ
sum_over_ℚ s f = sum_over 0ℚ ◌+ℚ◌ s f

pub record Inclusion : Type 0 where
  pub zero : 0ℚ ∈ zero_range
  pub one : 1ℚ ∈ one_range
  pub sum : {a b : Range} {x y : ℚ} → x ∈ a → y ∈ b → x +ℚ y ∈ sum_of a b
  pub negation : {a : Range} {x : ℚ} → x ∈ a → neg_ℚ x ∈ neg_of a
  pub multiple : {a : Range} {x : ℚ} (k : ℕ) → x ∈ a → num k *ℚ x ∈ times_of k a
  pub product : {a b : Range} {x y : ℚ} → x ∈ a → y ∈ b → x *ℚ y ∈ product_of a b
  -- y is 1/x; where the inverse is valid there is one
  pub inverse : {a : Range} {x y : ℚ} → x ∈ a → x *ℚ y ≡ 1ℚ → y ∈ inverse_of a
  pub divisor : {a : Range} {x : ℚ} → T (is_valid (inverse_of a)) → x ∈ a → ¬ (x ≡ 0ℚ)
  pub power : {a : Range} {x : ℚ} (e : ℕ) → x ∈ a → x ^ℚ e ∈ pow_of a e
  pub hull-left : {a : Range} (b : Range) {x : ℚ} → x ∈ a → x ∈ hull_of a b
  pub hull-right : (a : Range) {b : Range} {x : ℚ} → x ∈ b → x ∈ hull_of a b
  pub products : {s : ℕ} {g h : List Range} {x y : ℕ → ℚ} → Members s x g → Members s y h → sum_over_ℚ s (λ a. x a *ℚ y a) ∈ products_of s g h
  pub squares : {s : ℕ} {g : List Range} {x : ℕ → ℚ} → Members s x g → sum_over_ℚ s (λ a. x a *ℚ x a) ∈ squares_of s g
  -- [−β, β] with (Σ x²)(Σ y²) ≤ β²
  pub root_ends : (s : ℕ) (g h : List Range) → T (is_valid (root_of s g h))
      → ((root_of s g h).low ≡ neg_ℤ (root_of s g h).high) × (0ℚ ≤ℚ units (root_of s g h).high)
  pub root : {s : ℕ} {g h : List Range} {x y : ℕ → ℚ} → Members s x g → Members s y h → T (is_valid (root_of s g h))
      → sum_over_ℚ s (λ a. x a *ℚ x a) *ℚ sum_over_ℚ s (λ a. y a *ℚ y a) ≤ℚ units (root_of s g h).high *ℚ units (root_of s g h).high
  -- Lemma A.1 of 000: the eigenvalues of the matrix with x, y on the diagonal and z beside it
  pub star : {a b c : Range} {x y z : ℚ} → x ∈ a → y ∈ b → z ∈ c → T (is_valid (star_of a b c)) → (u v : ℚ)
      → let form = x *ℚ (u *ℚ u) +ℚ y *ℚ (v *ℚ v) +ℚ num 2 *ℚ (z *ℚ (u *ℚ v)) in
      (units (star_of a b c).low *ℚ (u *ℚ u +ℚ v *ℚ v) ≤ℚ form) × (form ≤ℚ units (star_of a b c).high *ℚ (u *ℚ u +ℚ v *ℚ v))
