-- 01, "Range arithmetic": "Power e of a magnitude", and of a range by the signs of its ends.
use Rattle.std.specs.Prelude.{Bool, true, ◌&&◌, cond, List, [], ◌∷◌, ◌++◌, ℕ, zero, suc, ◌%◌, eqb, ℤ, pos, neg_ℤ, ◌*ℤ◌}
use Rattle.std.specs.Int.Signed.{le_z}
use Rattle.exact.specs.Div.{floor_div, ceil_div}
use Rattle.range.specs.declared.Range.{Range}
use Rattle.range.specs.Limit.{from_to, most, one_range, over, is_valid}
use Rattle.range.specs.Arithmetic.{greater_of}

-- "start at 1 for e = 0 and at the magnitude for e = 1; each further step multiplies by the magnitude and divides by 10,000": 1 is 10,000
-- units, and `scaled` divides.
unfoldable pub chain : (ℤ → ℤ) → ℤ → ℕ → ℤ
chain scaled m zero = pos 10000
chain scaled m (suc zero) = m
chain scaled m (suc (suc e)) = scaled (chain scaled m (suc e) *ℤ m)

-- "rounded down throughout (D) or up throughout (U)"
abbrev pub D : ℤ → ℕ → ℤ
D m e = chain (λ z. floor_div z 10000) m e

abbrev pub U : ℤ → ℕ → ℤ
U m e = chain (λ z. ceil_div z 10000) m e

-- "Every U value used, at each step, counts as an end for refusal 12." A D is never above the U beside it.
unfoldable pub ups_within : ℤ → ℕ → Bool
ups_within m zero = true
ups_within m (suc e) = ups_within m e && le_z (U m (suc e)) most

abbrev pub is_even : ℕ → Bool
is_even e = eqb (e % 2) 0

-- "if a ≥ 0, [D(a), U(b)]"
abbrev pub ends_above : Range → ℕ → Range
ends_above r e = from_to (D r.low e) (U r.high e)

unfoldable pub pow_above : Range → ℕ → Range
pow_above r e = cond (ups_within r.high e) (ends_above r e) over

-- "if b ≤ 0, [D(−b), U(−a)] for even e and [−U(−a), −D(−b)] for odd e"
abbrev pub ends_below : Range → ℕ → Range
ends_below r e =
    cond (is_even e)
    (from_to (D (neg_ℤ r.high) e) (U (neg_ℤ r.low) e))
    (from_to (neg_ℤ (U (neg_ℤ r.low) e)) (neg_ℤ (D (neg_ℤ r.high) e)))

unfoldable pub pow_below : Range → ℕ → Range
pow_below r e = cond (ups_within (neg_ℤ r.low) e) (ends_below r e) over

-- "otherwise [0, U(max(−a, b))] for even e and [−U(−a), U(b)] for odd e"
abbrev pub ends_across_even : Range → ℕ → Range
ends_across_even r e = from_to (pos 0) (U (greater_of (neg_ℤ r.low) r.high) e)

unfoldable pub pow_across_even : Range → ℕ → Range
pow_across_even r e = cond (ups_within (greater_of (neg_ℤ r.low) r.high) e) (ends_across_even r e) over

abbrev pub ends_across_odd : Range → ℕ → Range
ends_across_odd r e = from_to (neg_ℤ (U (neg_ℤ r.low) e)) (U r.high e)

unfoldable pub pow_across_odd : Range → ℕ → Range
pow_across_odd r e = cond (ups_within (neg_ℤ r.low) e && ups_within r.high e) (ends_across_odd r e) over

unfoldable pub pow_across : Range → ℕ → Range
pow_across r e = cond (is_even e) (pow_across_even r e) (pow_across_odd r e)

-- The three rows, by the signs of the ends, for e ≥ 1.
unfoldable pub pow_by_sign : Range → ℕ → Range
pow_by_sign r e = cond (le_z (pos 0) r.low) (pow_above r e) (cond (le_z r.high (pos 0)) (pow_below r e) (pow_across r e))

-- "For e = 0 the range is one."
unfoldable pub pow_of : Range → ℕ → Range
pow_of r e = cond (is_valid r) (cond (eqb e 0) one_range (pow_by_sign r e)) over

-- ════ without a limit ════
-- What refusal 12 is held against: the ends alone, and the U values that count, each as a range from 0.
unfoldable pub ends_pow : Range → ℕ → Range
ends_pow r e =
    cond (eqb e 0) one_range
    (cond (le_z (pos 0) r.low) (ends_above r e)
    (cond (le_z r.high (pos 0)) (ends_below r e) (cond (is_even e) (ends_across_even r e) (ends_across_odd r e))))

unfoldable pub ups : ℤ → ℕ → List Range
ups m zero = []
ups m (suc e) = ups m e ++ (from_to (pos 0) (U m (suc e)) ∷ [])

unfoldable pub ups_of : Range → ℕ → List Range
ups_of r e =
    cond (le_z (pos 0) r.low) (ups r.high e)
    (cond (le_z r.high (pos 0)) (ups (neg_ℤ r.low) e)
    (cond (is_even e) (ups (greater_of (neg_ℤ r.low) r.high) e) (ups (neg_ℤ r.low) e ++ ups r.high e)))
