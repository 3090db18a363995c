-- The lesser and the greater of two numbers and of four. Assumes nothing.
use mathlib.Core.Path.{◌≡◌, ap₂}
use mathlib.Core.Bool.{true}
use lib.IntN.{ℤ, pos, ◌*ℤ◌}
use lib.Signed.{le_z, ◌≤ℤ◌, le_z_yes, ≤ℤ_refl}
use Rattle.algebra.proofs.Ordered as Ord
use Rattle.algebra.proofs.Int.{ℤ-ordered, le_z-no, <ℤ→≤ℤ, ≤ℤ-trans, ≤ℤ-antisym}
use Rattle.range.specs.declared.Range.{Range}
use Rattle.range.specs.Limit.{from_to, is_valid}
use Rattle.range.specs.Arithmetic.{lesser_of, greater_of, least_of, greatest_of, least_product, greatest_product, spread_of}
use Rattle.range.proofs.Valid.{true-T, by-test, ends-of}

module _ (a b : ℤ) where
  -- a property of both is one of the lesser and of the greater
  pub lesser-any : (P : ℤ → Type 0) → P a → P b → P (lesser_of a b)
  lesser-any P p q = by-test P (le_z a b) (λ t. p) (λ t. q)

  pub greater-any : (P : ℤ → Type 0) → P a → P b → P (greater_of a b)
  greater-any P p q = by-test P (le_z a b) (λ t. q) (λ t. p)

  pub lesser-left : lesser_of a b ≤ℤ a
  lesser-left = by-test (λ z. z ≤ℤ a) (le_z a b) (λ t. ≤ℤ_refl a) (λ t. <ℤ→≤ℤ (le_z-no t))

  pub lesser-right : lesser_of a b ≤ℤ b
  lesser-right = by-test (λ z. z ≤ℤ b) (le_z a b) le_z_yes (λ t. ≤ℤ_refl b)

  pub greater-left : a ≤ℤ greater_of a b
  greater-left = by-test (λ z. a ≤ℤ z) (le_z a b) le_z_yes (λ t. ≤ℤ_refl a)

  pub greater-right : b ≤ℤ greater_of a b
  greater-right = by-test (λ z. b ≤ℤ z) (le_z a b) (λ t. ≤ℤ_refl b) (λ t. <ℤ→≤ℤ (le_z-no t))

-- of four: below and above each
module _ (p q r s : ℤ) where
  pub record Extremes (low high : ℤ) : Type 0 where
    pub low-1 : low ≤ℤ p
    pub low-2 : low ≤ℤ q
    pub low-3 : low ≤ℤ r
    pub low-4 : low ≤ℤ s
    pub high-1 : p ≤ℤ high
    pub high-2 : q ≤ℤ high
    pub high-3 : r ≤ℤ high
    pub high-4 : s ≤ℤ high

  pub extremes : Extremes (least_of p q r s) (greatest_of p q r s)
  extremes = record {
    low-1 = ≤ℤ-trans (lesser-left (lesser_of p q) (lesser_of r s)) (lesser-left p q);
    low-2 = ≤ℤ-trans (lesser-left (lesser_of p q) (lesser_of r s)) (lesser-right p q);
    low-3 = ≤ℤ-trans (lesser-right (lesser_of p q) (lesser_of r s)) (lesser-left r s);
    low-4 = ≤ℤ-trans (lesser-right (lesser_of p q) (lesser_of r s)) (lesser-right r s);
    high-1 = ≤ℤ-trans (greater-left p q) (greater-left (greater_of p q) (greater_of r s));
    high-2 = ≤ℤ-trans (greater-right p q) (greater-left (greater_of p q) (greater_of r s));
    high-3 = ≤ℤ-trans (greater-left r s) (greater-right (greater_of p q) (greater_of r s));
    high-4 = ≤ℤ-trans (greater-right r s) (greater-right (greater_of p q) (greater_of r s));
  }

  pub least-any : (P : ℤ → Type 0) → P p → P q → P r → P s → P (least_of p q r s)
  least-any P a b c d = lesser-any (lesser_of p q) (lesser_of r s) P (lesser-any p q P a b) (lesser-any r s P c d)

  pub greatest-any : (P : ℤ → Type 0) → P p → P q → P r → P s → P (greatest_of p q r s)
  greatest-any P a b c d = greater-any (greater_of p q) (greater_of r s) P (greater-any p q P a b) (greater-any r s P c d)

-- of the four end products of two ranges
module _ (a b : Range) where
  pub end-products : Extremes (a.low *ℤ b.low) (a.low *ℤ b.high) (a.high *ℤ b.low) (a.high *ℤ b.high)
      (least_product a b) (greatest_product a b)
  end-products = extremes (a.low *ℤ b.low) (a.low *ℤ b.high) (a.high *ℤ b.low) (a.high *ℤ b.high)

  module _ (P : ℤ → Type 0)
      (ll : P (a.low *ℤ b.low)) (lh : P (a.low *ℤ b.high)) (hl : P (a.high *ℤ b.low)) (hh : P (a.high *ℤ b.high)) where
    pub least-product : P (least_product a b)
    least-product = least-any (a.low *ℤ b.low) (a.low *ℤ b.high) (a.high *ℤ b.low) (a.high *ℤ b.high) P ll lh hl hh

    pub greatest-product : P (greatest_product a b)
    greatest-product = greatest-any (a.low *ℤ b.low) (a.low *ℤ b.high) (a.high *ℤ b.low) (a.high *ℤ b.high) P ll lh hl hh

-- of two ranges that are not below 0: the products of the low ends and of the high ends
module _ (a b : Range) (v : is_valid a ≡ true) (w : is_valid b ≡ true)
    (p : le_z (pos 0) a.low ≡ true) (q : le_z (pos 0) b.low ≡ true) where
  pub spread-above : spread_of a b ≡ from_to (a.low *ℤ b.low) (a.high *ℤ b.high)
  spread-above =
      let la = le_z_yes (true-T p) in
      let lb = le_z_yes (true-T q) in
      let oa = (ends-of a (true-T v)).order in
      let ob = (ends-of b (true-T w)).order in
      let ll = a.low *ℤ b.low in
      let hh = a.high *ℤ b.high in
      let e = end-products a b in
      ap₂ from_to
      (≤ℤ-antisym e.low-1
      (least-product a b (λ z. ll ≤ℤ z) (≤ℤ_refl ll)
      (Ord.mul-le-left ℤ-ordered la ob) (Ord.mul-le-right ℤ-ordered lb oa) (Ord.mul_mono ℤ-ordered la oa lb ob)))
      (≤ℤ-antisym
      (greatest-product a b (λ z. z ≤ℤ hh)
      (Ord.mul_mono ℤ-ordered la oa lb ob) (Ord.mul-le-right ℤ-ordered (≤ℤ-trans lb ob) oa) (Ord.mul-le-left ℤ-ordered (≤ℤ-trans la oa) ob)
      (≤ℤ_refl hh))
      e.high-4)
