-- Laws of `x ∈ r`, and of any property that is said of a range where it is valid: of a test with `over` on its other side, and of a sticky
-- operation, it is shown where the test passed, of the ends. Assumes nothing.
use mathlib.Core.Path.{◌≡◌, sym, subst}
use mathlib.Core.Bool.{Bool, not, cond}
use lib.Dec.{T}
use lib.IntN.{ℤ, pos}
use Rattle.exact.proofs.Rat as Q
use Rattle.exact.proofs.Rat.{ℚ, 0ℚ, 1ℚ}
use Rattle.exact.proofs.Units.{units}
use Rattle.exact.specs.Units.{In}
use Rattle.range.specs.declared.Range.{Range}
use Rattle.range.specs.Limit.{from_to, zero_range, one_range, over, is_valid, kept, sticky₁, sticky₂}
use Rattle.range.specs.Inclusion.{◌∈◌}
use Rattle.range.proofs.Valid.{by-test, over-invalid, sticky₁-of, sticky₂-of}
use Rattle.exact.proofs.Units.{units-0, units-1}

-- ---- a property P of ranges, where they are valid
abbrev pub IfValid : (Range → Type 0) → Range → Type 0
IfValid P r = T (is_valid r) → P r

module _ (P : Range → Type 0) where
  pub over-holds : IfValid P over
  over-holds t = absurd (over-invalid t)

  pub if-holds : (c : Bool) {r : Range} → (T c → IfValid P r) → IfValid P (cond c r over)
  if-holds c f = by-test (IfValid P) c f (λ t. over-holds)

  pub either-holds : (c : Bool) {r s : Range} → (T c → IfValid P r) → (T (not c) → IfValid P s) → IfValid P (cond c r s)
  either-holds c f g = by-test (IfValid P) c f g

  pub kept-holds : (r : Range) → P r → IfValid P (kept r)
  unfolding kept
  kept-holds r h = if-holds (is_valid r) (λ t u. h)

  pub sticky₁-holds : (f : Range → Range) (a : Range) → (T (is_valid a) → P (f a)) → IfValid P (sticky₁ f a)
  sticky₁-holds f a h t = let k = sticky₁-of f a t in subst P (sym k.is) (h k.operand)

  pub sticky₂-holds : (f : Range → Range → Range) (a b : Range) → (T (is_valid a) → T (is_valid b) → P (f a b)) → IfValid P (sticky₂ f a b)
  sticky₂-holds f a b h t = let k = sticky₂-of f a b t in subst P (sym k.is) (h k.left k.right)

-- ---- membership
abbrev pub InRange : ℚ → Range → Type 0
InRange x r = In r.low r.high x

pub ∈-of : {r : Range} {x : ℚ} → InRange x r → x ∈ r
∈-of h = record { between = λ t. h }

pub ∈-eq : {r : Range} {x y : ℚ} → x ≡ y → x ∈ r → y ∈ r
∈-eq {r} e h = subst (λ z. z ∈ r) e h

-- ranges of one number
pub exactly-∈ : (u : ℤ) → units u ∈ from_to u u
exactly-∈ u = ∈-of (record { low = Q.≤ℚ-refl (units u); high = Q.≤ℚ-refl (units u) })

pub zero-∈ : 0ℚ ∈ zero_range
zero-∈ = ∈-eq units-0 (exactly-∈ (pos 0))

pub one-∈ : 1ℚ ∈ one_range
one-∈ = ∈-eq units-1 (exactly-∈ (pos 10000))

-- tests and sticky operations
module _ {x : ℚ} where
  pub over-∈ : x ∈ over
  over-∈ = record { between = over-holds (InRange x) }

  pub if-∈ : (c : Bool) {r : Range} → (T c → x ∈ r) → x ∈ cond c r over
  if-∈ c f = record { between = if-holds (InRange x) c (λ t. (f t).between) }

  pub either-∈ : (c : Bool) {r s : Range} → (T c → x ∈ r) → (T (not c) → x ∈ s) → x ∈ cond c r s
  either-∈ c f g = record { between = either-holds (InRange x) c (λ t. (f t).between) (λ t. (g t).between) }

  pub kept-∈ : (r : Range) → InRange x r → x ∈ kept r
  kept-∈ r h = record { between = kept-holds (InRange x) r h }

  pub sticky₁-∈ : (f : Range → Range) (a : Range) → (T (is_valid a) → InRange x (f a)) → x ∈ sticky₁ f a
  sticky₁-∈ f a h = record { between = sticky₁-holds (InRange x) f a h }
