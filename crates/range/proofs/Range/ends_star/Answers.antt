-- `range::Range::ends_star` meets its contract. Assumes nothing.
use borrow.Author.Rules.{rules}
use mathlib.Core.Path.{sym, subst, ◌∙◌}
use mathlib.Core.Bool.{true}
use mathlib.Core.Path.{◌≡◌}
use lib.IntN.{ℤ, ◌+ℤ◌, ◌-ℤ◌}
use Rattle.range.specs.declared.Range.{Range}
use Rattle.exact.specs.Div.{floor_div, ceil_div}
use Rattle.range.specs.Star.{is_half, magnitude_of, star_root, ends_star}
use Rattle.range.proofs.Fitting.{ends}
use Rattle.range.proofs.StarFits.{InHalf, half-low, half_high, half-magnitude, half-read, half-passed}
use Rattle.range.proofs.Range.ends_star.Goals as goal

-- the largest magnitude beside the diagonal
magnitude : (m : ℤ) (off : Range) → is_half off ≡ true → m ≡ magnitude_of off → InHalf m
magnitude m off v e = subst InHalf (sym e) (half-magnitude off v)

pub invariant_of-lows : goal.invariant_of-lows
invariant_of-lows c = record {
  a_half = half-passed c.args.self.low (half-low _ c.requires.self_value);
  b_half = half-passed c.args.other.low (half-low _ c.requires.other_value);
  m_half = half-passed c.largest_magnitude-m.result (magnitude _ _ c.requires.off_value c.largest_magnitude-m.ensures);
}

pub invariant_of-highs : goal.invariant_of-highs
invariant_of-highs c = record {
  a_half = half-passed c.args.self.high (half_high _ c.requires.self_value);
  b_half = half-passed c.args.other.high (half_high _ c.requires.other_value);
  m_half = half-passed c.largest_magnitude-m.result (magnitude _ _ c.requires.off_value c.largest_magnitude-m.ensures);
}

pub returns : goal.returns
unfolding ends_star
returns c =
    let off = half-read c.largest_magnitude-m.result (magnitude _ _ c.requires.off_value c.largest_magnitude-m.ensures) ∙ c.largest_magnitude-m.ensures in
    let al = half-read c.args.self.low (half-low _ c.requires.self_value) in
    let bl = half-read c.args.other.low (half-low _ c.requires.other_value) in
    let ah = half-read c.args.self.high (half_high _ c.requires.self_value) in
    let bh = half-read c.args.other.high (half_high _ c.requires.other_value) in
    ends c.least.result c.greatest.result (search rules) (search rules)
    (c.least.ensures ∙ λ i. floor_div (al i +ℤ bl i -ℤ star_root (al i) (bl i) (off i)) 2)
    (c.greatest.ensures ∙ λ i. ceil_div (ah i +ℤ bh i +ℤ star_root (ah i) (bh i) (off i)) 2)
