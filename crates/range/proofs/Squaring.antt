-- The loop that adds up the largest squares of a list of ranges: `Squared`. Quotients and remainders by 10,000 are summed apart, and stand
-- for the exact sum. A member that is not valid ends the loop. Assumes nothing.
use mathlib.Core.Path.{◌≡◌, refl, sym, ap, ap₂, ◌∙◌}
use mathlib.Core.Bool.{true, false}
use mathlib.Core.List.{List}
use Prim.Native.Nat.{ℕ, zero, suc, ◌+◌, ◌*◌, ◌/◌, ◌%◌, ◌≤◌, ◌<◌, zero-le}
use native.Mathlib.Nat as N
use native.Mathlib.Numerals.{add-one}
use native.Mathlib.Omega.{arith}
use lib.Dec.{T}
use lib.IntN.{ℤ, pos, negsuc, nat_abs, ◌+ℤ◌, ◌*ℤ◌, +ℤ_idl}
use lib.Signed.{◌≤ℤ◌}
use mir.Syntax.{w64}
use mir.Val.{SFits, to_z}
use mir.ValLaws.{to_z_pos}
use Rattle.algebra.proofs.Sum.{sum, sum_below}
use Rattle.algebra.proofs.Int.{ℤ-ring, mul-abs}
use Rattle.exact.proofs.Div.{floor_div, ceil_div}
use Rattle.exact.proofs.DivSum.{ceil-apart}
use Rattle.range.specs.declared.Range.{Range}
use Rattle.range.specs.declared.sums.Squares.{Squares}
use Rattle.range.specs.Limit.{over, is_valid, kept}
use Rattle.range.specs.Sums.{at, valid_below, valid_over, largest_square, square_sum, squares_of}
use Rattle.range.specs.Steps.{up_to, EightSquares, with_square, rounded_up}
use Rattle.range.proofs.Valid.{true-T, not-true}
use Rattle.range.proofs.Extremes.{greater-any}
use Rattle.range.proofs.Fitting.{InLimit, low-within, high-within, pick_yes, pick_no}
use Rattle.range.proofs.Powers.{ten-thousand}
use Rattle.range.proofs.SumOver.{members-valid, largest_square-nonneg}
use Rattle.range.proofs.Scanning.{Scan, scan-start, scan-next, scan-member, scan-outside}
use Rattle.range.proofs.Scanning.{valid-member, valid-skip, valid-end, member_or, few, sum-end}

-- ---- a square is small
pub mul-few : (x y : ℤ) → InLimit x → InLimit y → nat_abs (x *ℤ y) ≤ 4000000000000000000
mul-few x y p q = omega (arith, mul-abs x y, N.mul-le-mul p q)

square-few : (r : Range) → is_valid r ≡ true → nat_abs (largest_square r) ≤ 4000000000000000000
unfolding largest_square
square-few r v =
    greater-any (r.low *ℤ r.low) (r.high *ℤ r.high) (λ (z : ℤ). nat_abs z ≤ 4000000000000000000)
    (mul-few r.low r.low (low-within r v) (low-within r v))
    (mul-few r.high r.high (high-within r v) (high-within r v))

square-is : (r : Range) → pos (nat_abs (largest_square r)) ≡ largest_square r
square-is r = natural (largest_square r) (largest_square-nonneg r)
  where
    natural : (z : ℤ) → pos 0 ≤ℤ z → pos (nat_abs z) ≡ z
    natural (pos n) h = refl
    natural (negsuc n) h = absurd h.le

-- ---- quotients and remainders: none, and rounded up
abbrev pub no_squares : Squares
no_squares = record { whole = 0; rest = 0 }

ceil-natural : (n : ℕ) → ceil_div (pos n) 10000 ≡ pos ((n + 9999) / 10000)
unfolding ceil_div floor_div
ceil-natural zero = refl
ceil-natural (suc n) = ap pos (omega arith)

rounded-up : (q : Squares) → ceil_div (pos (q.whole * 10000 + q.rest)) 10000 ≡ pos (rounded_up q)
rounded-up q = ceil-apart ten-thousand (pos q.whole) (pos q.rest) ∙ ap (pos q.whole +ℤ◌) (ceil-natural q.rest)

module _ (q : Squares) (n : ℕ) (r : EightSquares q) (e : n ≡ rounded_up q) where
  pub rounded-fits : SFits w64 (pos n)
  rounded-fits = record { sfits = omega (arith, r.whole, r.rest) }

  pub rounded-read : to_z w64 n ≡ pos (rounded_up q)
  rounded-read = to_z_pos w64 n rounded-fits.sfits ∙ ap pos e

-- ---- the squares of one list
module _ (s : ℕ) (g : List Range) where
  abbrev square_at : ℕ → ℤ
  square_at a = largest_square (at g a)

  -- the exact sum of the members' squares below a
  abbrev squares_below : ℕ → ℤ
  squares_below a = sum ℤ-ring a (member_or s square_at)

  -- the sum so far, and that it stays small
  pub record Squared (total : Squares) (left a : ℕ) : Type 0 where
    pub scan : Scan s left a
    pub whole : total.whole ≤ a * few
    pub rest : total.rest ≤ a * 9999
    pub is : pos (total.whole * 10000 + total.rest) ≡ squares_below a
    pub valid : valid_below a s g ≡ true

  pub squared-start : s < 256 → Squared no_squares s 0
  unfolding valid_below sum_below
  squared-start h = record { scan = scan-start s h; whole = zero-le; rest = zero-le; is = refl; valid = refl }

  module _ (total : Squares) (rest a : ℕ) (i : Squared total rest a) where
    pub squared-eight : EightSquares total
    squared-eight = let l = i.scan.within in record { whole = omega (arith, i.whole); rest = omega (arith, i.rest) }

    -- a turn: x is what was read of the factor a
    pub squared-member : (next : Squares) (x : Range) → a < 8 → rest % 2 ≡ 1 → x ≡ at g a → is_valid x ≡ true
        → next ≡ with_square total (nat_abs (largest_square x)) → Squared next (rest / 2) (a + 1)
    unfolding sum_below
    squared-member next x f m e v n =
        let scan = i.scan in
        let w : is_valid (at g a) ≡ true = rw e at v in
        let y = nat_abs (square_at a) in
        let few-y = square-few (at g a) w in
        rw (n, e) record {
          scan = scan-next s rest a scan f;
          whole = omega (arith, i.whole);
          rest = omega (arith, i.rest);
          is =
              let split : (total.whole + y / 10000) * 10000 + (total.rest + y % 10000) ≡ y + (total.whole * 10000 + total.rest) = omega arith in
              ap pos split ∙ ap₂ ◌+ℤ◌ (square-is (at g a)) i.is ∙ rw (add-one a, scan-member s rest a scan m) refl;
          valid = valid-member s g a i.valid w;
        }

    pub squared-skip : a < 8 → ¬ (rest % 2 ≡ 1) → Squared total (rest / 2) (a + 1)
    unfolding sum_below
    squared-skip f m =
        let scan = i.scan in
        let o = scan-outside s rest a scan m in
        record {
          scan = scan-next s rest a scan f;
          whole = omega (arith, i.whole);
          rest = omega (arith, i.rest);
          is = i.is ∙ rw (add-one a, o) (sym (+ℤ_idl (squares_below a)));
          valid = valid-skip s g a i.valid o;
        }

    pub read-valid : (x : Range) → a < 8 → rest % 2 ≡ 1 → x ≡ at g a → T (valid_over s g) → T (is_valid x)
    read-valid x f m e t =
        let scan = i.scan in
        rw e (members-valid s g t a f (true-T (scan-member s rest a scan m)))

    pub squared-over : (x : Range) → a < 8 → rest % 2 ≡ 1 → x ≡ at g a → is_valid x ≡ false → over ≡ squares_of s g
    unfolding squares_of
    squared-over x f m e v = pick_no (valid_over s g) _ _ _ (not-true (λ t. rw v at (read-valid x f m e t))) refl

    -- the end
    module _ (z : rest ≡ 0) where
      pub squared-valid : valid_over s g ≡ true
      squared-valid = valid-end s g rest a i.scan i.valid z

      pub squared-is : pos (rounded_up total) ≡ square_sum s g
      unfolding square_sum
      squared-is = sym (rounded-up total) ∙ ap (λ (n : ℤ). ceil_div n 10000) (i.is ∙ sum-end s square_at rest a i.scan z)

      pub squared-end : kept (up_to (pos (rounded_up total))) ≡ squares_of s g
      unfolding squares_of
      squared-end = pick_yes _ _ _ _ squared-valid (ap (λ (n : ℤ). kept (up_to n)) squared-is)
